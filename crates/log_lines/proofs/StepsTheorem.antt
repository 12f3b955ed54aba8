-- The steps that a log has bytes, and one more, are enough to count its frames: each frame lies behind the one before.
use mathlib.Core.Path.{◌≡◌, refl, sym, ap, ◌∙◌}
use Rattle.std.specs.Prelude.{Err, None, Ok, Option, Result, Some}
use Rattle.rtp.specs.declared.refusal.Fault.{Fault}
use Rattle.log_walk.specs.declared.frames.Shown.{Shown}
use mathlib.Core.List.{List}
use mathlib.Core.Bool.{Bool, cond}
use Prim.Native.Nat.{ℕ, zero, suc, ◌+◌, ◌<◌}
use native.Mathlib.Omega.{arith}
use lib.ListN.{length}
use Rattle.rtp.specs.Editions.{current}
use Rattle.log_walk.specs.declared.opening.Cursor.{Cursor}
use Rattle.log_walk.specs.Stepping.{StepOutcome, step, cursor_after, step_call}
use Rattle.log_walk.proofs.WalkLaws.{shown_inside, step_as}
use Rattle.log_lines.specs.FrameCounts.{is_shown, frames_by, frames_from, StepsAreEnough}
use Rattle.log_lines.proofs.CountLaws.{is_frame, shown_frame, onward, by_step}

-- by what a step answers
by_answer : (k : ℕ) (c : Cursor) (log : List ℕ) (a : Result (Option Shown) Fault) → step current c log ≡ a → frames_by (suc k) c log ≡ onward (is_frame a) (frames_by k (cursor_after c a) log)
by_answer k c log a e = by_step k c (cursor_after c a) log a (sym (step_as current c log a e))

-- behind the end of a log there is no frame
none_behind : (k : ℕ) (c : Cursor) (log : List ℕ) → length log < c.place → 0 ≡ frames_by k c log
unfolding frames_by
none_behind zero c log h = refl
none_behind (suc k) c log h = from (step current c log) refl
  where
    from : (a : Result (Option Shown) Fault) → step current c log ≡ a → 0 ≡ frames_by (suc k) c log
    from (Ok (Some f)) e = let i = shown_inside current c log f e in absurd (omega (arith, h, i.0, i.1))
    from (Ok None) e = sym (by_answer k c log (Ok None) e)
    from (Err f) e = sym (by_answer k c log (Err f) e)

same : (j k : ℕ) (c : Cursor) (log : List ℕ) → length log < c.place + j → length log < c.place + k → frames_by j c log ≡ frames_by k c log
same zero k c log h g = sym (none_behind zero c log (omega arith)) ∙ none_behind k c log (omega arith)
same (suc j) zero c log h g = sym (none_behind (suc j) c log (omega arith)) ∙ none_behind zero c log (omega arith)
same (suc j) (suc k) c log h g = from (step current c log) refl (λ d a b. same j k d log a b)
  where
    from : (a : Result (Option Shown) Fault) → step current c log ≡ a
        → ((d : Cursor) → length log < d.place + j → length log < d.place + k → frames_by j d log ≡ frames_by k d log)
        → frames_by (suc j) c log ≡ frames_by (suc k) c log
    from (Ok (Some f)) e again =
        let i = shown_inside current c log f e in
        let d = cursor_after c (Ok (Some f)) in
        by_answer j c log (Ok (Some f)) e
        ∙ ap suc (again d (omega (arith, h, i.0)) (omega (arith, g, i.0)))
        ∙ sym (by_answer k c log (Ok (Some f)) e)
    from (Ok None) e again = by_answer j c log (Ok None) e ∙ sym (by_answer k c log (Ok None) e)
    from (Err f) e again = by_answer j c log (Err f) e ∙ sym (by_answer k c log (Err f) e)

pub steps_enough : StepsAreEnough
unfolding frames_from
steps_enough c log = from (step current c log) refl
  where
    told : (a : Result (Option Shown) Fault) → step current c log ≡ a
        → onward (is_frame a) (frames_from (cursor_after c a) log) ≡ cond (is_shown (step_call current c log).answer) (suc (frames_from (step_call current c log).cursor log)) 0
    told a e =
        ap (λ (b : Bool). onward b (frames_from (cursor_after c a) log)) (sym (shown_frame a))
        ∙ ap (λ (o : StepOutcome). onward (is_shown o.answer) (frames_from o.cursor log)) (sym (step_as current c log a e))

    from : (a : Result (Option Shown) Fault) → step current c log ≡ a
        → frames_from c log ≡ cond (is_shown (step_call current c log).answer) (suc (frames_from (step_call current c log).cursor log)) 0
    from (Ok (Some f)) e =
        let i = shown_inside current c log f e in
        let d = cursor_after c (Ok (Some f)) in
        by_answer (length log) c log (Ok (Some f)) e
        ∙ ap suc (same (length log) (suc (length log)) d log (omega (arith, i.0)) (omega arith))
        ∙ told (Ok (Some f)) e
    from (Ok None) e = by_answer (length log) c log (Ok None) e ∙ told (Ok None) e
    from (Err f) e = by_answer (length log) c log (Err f) e ∙ told (Err f) e
