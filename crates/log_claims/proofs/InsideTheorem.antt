-- No step leaves the log.
use mathlib.Core.Path.{◌≡◌, subst}
use Rattle.std.specs.Prelude.{Err, None, Ok, Option, Result, Some}
use Rattle.log_walk.specs.declared.frames.Shown.{Shown}
use Rattle.rtp.specs.declared.refusal.Fault.{Fault}
use mathlib.Core.List.{List}
use mathlib.Core.Bool.{true}
use Prim.Native.Nat.{ℕ, ◌+◌, ◌-◌}
use native.Mathlib.Omega.{arith}
use lib.ListN.{length, drop}
use borrow.Author.Tests.{le-ltb, le-leb}
use Rattle.rtp.specs.Editions.{Edition}
use Rattle.rtp.specs.Ranges.{in_range}
use Rattle.rtp.proofs.TestLaws.{by-test}
use Rattle.log_fields.specs.Fields.{first_size}
use Rattle.log_walk.specs.declared.opening.Cursor.{Cursor}
use Rattle.log_walk.specs.Stepping.{further, walk, cursor_fits, step}
use Rattle.log_walk.proofs.WalkLaws.{Inside, behind_inside, walk_inside, fits_is, shown_inside}
use Rattle.log_claims.specs.Claims.{StepsStayInside, FaultsStayInside, FrameIsShown}

-- a frame is shown to a record that fits, under settings in range
abbrev Ready : Edition → Cursor → ℕ → Result (Option Shown) Fault → Type 0
Ready ed c l (Ok (Some f)) = (in_range ed c.settings ≡ true) × (cursor_fits c l ≡ true)
Ready ed c l (Ok None) = Unit {0}
Ready ed c l (Err f) = Unit {0}

ready_both : (ed : Edition) (c : Cursor) (l : ℕ) (a : Result (Option Shown) Fault) → in_range ed c.settings ≡ true → cursor_fits c l ≡ true → Ready ed c l a
ready_both ed c l (Ok (Some f)) r h = (r, h)
ready_both ed c l (Ok None) r h = tt
ready_both ed c l (Err f) r h = tt

-- so an answer lies inside the log
record Answers (ed : Edition) (c : Cursor) (log : List ℕ) (a : Result (Option Shown) Fault) : Type 0 where
  ready : Ready ed c (length log) a
  inside : Inside (length log) a

answers : (ed : Edition) (c : Cursor) (log : List ℕ) → Answers ed c log (step ed c log)
unfolding step
answers ed c log =
    by-test (in_range ed c.settings)
    (λ a. by-test (cursor_fits c (length log))
    (λ b.
    let w = walk c.settings c.count (drop c.place log) in
    rw (a, b)
    (record { ready = ready_both ed c (length log) (further c.place w) a b; inside = behind_inside c.place log w (fits_is c (length log) b).1 (walk_inside c.settings c.count (drop c.place log)) }))
    (λ b. rw (a, b) (record { ready = tt; inside = omega arith })))
    (λ a. rw a (record { ready = tt; inside = omega arith }))

pub steps_stay_inside : (ed : Edition) → StepsStayInside ed
steps_stay_inside ed log c f e =
    let x = subst (Answers ed c log) e (answers ed c log) in
    let h = shown_inside ed c log f e in
    let y = fits_is c (length log) x.ready.1 in
    let n = f.start + f.length in (
      h.0,
      h.1,
      h.2,
      x.ready.0,
      rw (le-ltb n first_size (omega (arith, h.0, y.0)), le-ltb (length log) n h.1) (le-leb (c.count + 1) n h.2),
    )

pub faults_stay_inside : (ed : Edition) → FaultsStayInside ed
faults_stay_inside ed log c g e = (subst (Answers ed c log) e (answers ed c log)).inside

-- What a host reads is the frame
pub frame_is_shown : (ed : Edition) → FrameIsShown ed
frame_is_shown ed log c f e =
    let h = shown_inside ed c log f e in
    rw (le-ltb (length log) f.start (omega (arith, h.1)), le-ltb (length log - f.start) f.length (omega (arith, h.1)))
