-- Logs and readers of different editions: they differ in the channels that they allow alone.
use mathlib.Core.Path.{◌≡◌, refl, sym, ap, subst, ◌∙◌}
use Rattle.std.specs.Prelude.{Err, None, Ok, Option, Result, Some}
use Rattle.log_walk.specs.declared.frames.Shown.{Shown}
use Rattle.rtp.specs.declared.refusal.Refusal.{Refusal}
use Rattle.rtp.specs.declared.refusal.Fault.{Fault}
use mathlib.Core.List.{List}
use mathlib.Core.Bool.{true, cond}
use Prim.Native.Nat.{ℕ, zero, suc, ◌<◌, ◌≤◌}
use native.Mathlib.Omega.{arith}
use lib.ListN.{length}
use lib.Dec.{eqb}
use Rattle.rtp.specs.Editions.{Edition, first_edition, current}
use Rattle.rtp.specs.Ranges.{most_channels, in_range}
use Rattle.rtp.specs.declared.settings.Settings.{Settings}
use Rattle.rtp.specs.declared.refusal.Refusal.TheVariants.{NotAllowed}
use Rattle.rtp.proofs.TestLaws.{by-test}
use Rattle.rtp.proofs.RangeLaws.{more_in_range, more_out_of_range}
use Rattle.log_fields.specs.declared.fields.Field.{Field}
use Rattle.log_fields.specs.Fields.{settings_tag, settings_size, field_of, settings_in}
use Rattle.log_walk.specs.declared.opening.Cursor.{Cursor}
use Rattle.log_walk.specs.Opening.{settings_field, opened_by, opening, opened_cursor}
use Rattle.log_walk.specs.Stepping.{step, cursor_after}
use Rattle.log_claims.specs.Logs.{shows, opened, unopened, read_log}
use Rattle.log_claims.specs.Claims.{part_of, stepped, steps_by, walked}
use Rattle.log_claims.specs.EditionClaims.{OpensAlike, StepsAlike, RefusesMore, ShowsNone, RefusesWritten, FirstRefuses}
use Rattle.log_claims.proofs.ReadingTheorem.{reading_is_exact}
use Rattle.log_claims.proofs.RoundTripTheorem.{round_trip}

-- what one edition opens another opens if it has the channels
open_asks : (a b : Edition) (log : List ℕ) (st : Settings) → opening b log ≡ Ok st
    → opening a log ≡ cond (in_range a st) (Ok st) (Err NotAllowed)
unfolding opening settings_field
open_asks a b log st = go (field_of log)
  where
    same : (x : Settings) → ◌≡◌ {A = Result Settings Refusal} (Ok x) (Ok st) → x ≡ st
    same x e = cc

    go : (f : Field) → opened_by b log f ≡ Ok st → opened_by a log f ≡ cond (in_range a st) (Ok st) (Err NotAllowed)
    go Field.Stopped e = let z : ◌≡◌ {A = ℕ} 0 1 = cc in absurd (omega arith)
    go (Field.Cut tag) e =
        by-test (eqb tag settings_tag)
        (λ t. let y = rw t at e in let z : ◌≡◌ {A = ℕ} 0 1 = cc in absurd (omega arith))
        (λ t. let y = rw t at e in let z : ◌≡◌ {A = ℕ} 0 1 = cc in absurd (omega arith))
    go (Field.Whole h) e =
        by-test (eqb h.tag settings_tag)
        (λ t. by-test (eqb h.length settings_size)
        (λ n. by-test (in_range b (settings_in log))
        (λ r.
        let q = same (settings_in log) (rw (t, n, r) at e) in
        rw (t, n, q))
        (λ r. let y = rw (t, n, r) at e in let z : ◌≡◌ {A = ℕ} 0 1 = cc in absurd (omega arith)))
        (λ n. let y = rw (t, n) at e in let z : ◌≡◌ {A = ℕ} 0 1 = cc in absurd (omega arith)))
        (λ t. let y = rw t at e in let z : ◌≡◌ {A = ℕ} 0 1 = cc in absurd (omega arith))

-- settings that were opened are in range
opened_ranged : (a : Edition) (log : List ℕ) (st : Settings) → opening a log ≡ Ok st → in_range a st ≡ true
opened_ranged a log st h =
    by-test (in_range a st) (λ r. r)
    (λ r. let y : ◌≡◌ {A = Result Settings Refusal} (Ok st) (Err NotAllowed) = sym h ∙ open_asks a a log st h ∙ rw r in let z : ◌≡◌ {A = ℕ} 0 1 = cc in absurd (omega arith))

pub steps_alike : StepsAlike
unfolding step
steps_alike a b l log c r = rw (r, more_in_range a b c.settings l r)

-- stepping through it
steps_same : (a b : Edition) → most_channels a ≤ most_channels b → (k : ℕ) (log : List ℕ) (c : Cursor) → in_range a c.settings ≡ true → steps_by b k log c ≡ steps_by a k log c
unfolding steps_by
steps_same a b l zero log c r = refl
steps_same a b l (suc k) log c r = rw (steps_alike a b l log c r) (go (step a c log) (λ d q. steps_same a b l k log d q))
  where
    go : (x : Result (Option Shown) Fault) → ((d : Cursor) → in_range a d.settings ≡ true → steps_by b k log d ≡ steps_by a k log d)
        → stepped (λ d. steps_by b k log d) log c x ≡ stepped (λ d. steps_by a k log d) log c x
    go (Ok (Some f)) ih = ap (shows (part_of log f)) (ih (cursor_after c (Ok (Some f))) r)
    go (Ok None) ih = refl
    go (Err f) ih = refl

walked_alike : (a b : Edition) → most_channels a ≤ most_channels b → (log : List ℕ) (st : Settings) → in_range a st ≡ true
    → walked b log (Ok st) ≡ walked a log (Ok st)
walked_alike a b l log st r = ap (opened st) (steps_same a b l (suc (length log)) log (opened_cursor (Ok st)) r)

pub opens_alike : OpensAlike
opens_alike a b l log st h =
    let r = opened_ranged a log st h in
    let q : opening b log ≡ Ok st = open_asks b a log st h ∙ rw (more_in_range a b st l r) in
    (q ∙ sym h, sym (reading_is_exact b log) ∙ ap (walked b log) q ∙ walked_alike a b l log st r ∙ ap (walked a log) (sym h) ∙ reading_is_exact a log)

pub refuses_more : RefusesMore
unfolding step in_range
refuses_more a b log st h l =
    let q : opening a log ≡ Err NotAllowed = open_asks a b log st h ∙ rw (more_out_of_range a st l) in
    (q, sym (reading_is_exact a log) ∙ ap (walked a log) q, rw q)

pub shows_none : ShowsNone
unfolding step
shows_none a log c l = rw (more_out_of_range a c.settings l)

pub refuses_written : RefusesWritten
refuses_written a b st ws bytes area p words h l = go (opening b p) refl
  where
    go : (x : Result Settings Refusal) → opening b p ≡ x → read_log a p ≡ unopened 19
    go (Err r) e =
        let y = sym (ap (walked b p) e) ∙ reading_is_exact b p ∙ round_trip b st ws bytes area p words h in
        let z : ◌≡◌ {A = ℕ} 0 1 = cc in absurd (omega arith)
    go (Ok s) e =
        let y = sym (ap (walked b p) e) ∙ reading_is_exact b p ∙ round_trip b st ws bytes area p words h in
        let q : s ≡ st = cc in
        (refuses_more a b p s e (subst (λ (x : Settings). most_channels a < x.channels) (sym q) l)).1

pub first_refuses : FirstRefuses
first_refuses st ws bytes area p words h l = refuses_written first_edition current st ws bytes area p words h l
