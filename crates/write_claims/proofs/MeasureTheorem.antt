-- Measuring answers what writing does.
use mathlib.Core.Path.{◌≡◌, refl, ap, sym, ◌∙◌, subst}
use mathlib.Core.Logic.{◌↔◌}
use mathlib.Core.List.{List}
use mathlib.Core.Bool.{false}
use Prim.Native.Nat.{ℕ, ◌≤◌, ◌<◌}
use native.Mathlib.Omega.{arith}
use lib.ListN.{length}
use lib.Dec.{ltb}
use borrow.Author.Tests.{le-ltb, ltb-true, ltb-false}
use Rattle.rtp.specs.Editions.{Edition}
use Rattle.rtp.specs.Ranges.{in_range}
use Rattle.rtp.specs.declared.settings.Settings.{Settings}
use Rattle.rtp.specs.declared.refusal.Refusal.{Refusal}
use Rattle.rtp.specs.declared.refusal.Fault.{Fault}
use Rattle.rtp.specs.declared.refusal.Refusal.TheVariants.{SettingsOutOfRange, Unwritable, AreaTooShort}
use Rattle.rtp.proofs.TestLaws.{by-test}
use Rattle.read_contents.specs.Contents.{Contents, refused, groups}
use Rattle.read_rows.specs.Rows.{Row}
use Rattle.write_plan.specs.Lists.{rows_in, whole, outside}
use Rattle.write_plan.specs.Plans.{plan}
use Rattle.write_payload.specs.Writings.{Encoded, no_bytes, bytes_of, planned_bytes, encoded, room_for, writing, encoded_numbers}
use Rattle.write_sizes.specs.Measures.{Numbers, refused_numbers, measured}
use Rattle.write_sizes.specs.Asking.{max_request, askable}
use Rattle.write_payload.proofs.WritingLaws.{in_range_some, numbers_encoded}
use Rattle.write_claims.specs.PayloadClaims.{Measuring}
use Rattle.write_claims.proofs.PlanTableLaws.{Only, only_plan}

-- the numbers n are those of what comes out as w, but for the room
abbrev Agree : ℕ → Encoded → Numbers → Type 0
Agree area w n = (n.count ≤ area → encoded_numbers w ≡ n) × ((w ≡ no_bytes AreaTooShort) ↔ (area < n.count))

agree_room : (area : ℕ) (x : Encoded) → (x ≡ no_bytes AreaTooShort → ⊥) → Agree area (room_for area x) (encoded_numbers x)
unfolding encoded_numbers
agree_room area (no_bytes q) h = (λ l. refl, (λ e. absurd (h e), λ l. absurd (omega arith)))
agree_room area (bytes_of p) h =
    by-test (ltb area (length p))
    (λ t. let l = ltb-true area (length p) t in rw t (λ m. absurd (omega arith), (λ e. l, λ m. refl)))
    (λ t. let l = ltb-false area (length p) t in rw t (λ m. refl, (λ e. absurd (h e), λ m. absurd (omega arith))))

-- a list's payload is refused as unwritable alone
not_short : (ed : Edition) (st : Settings) (request : ℕ) (bytes : List ℕ) (rs : List Row) → encoded ed st request bytes rs ≡ no_bytes AreaTooShort → ⊥
unfolding encoded
not_short ed st request bytes rs = go (plan ed st.format st.channels rs) (only_plan ed st.format st.channels rs)
  where
    go : (x : Contents) → Only x → planned_bytes st.format request bytes rs x ≡ no_bytes AreaTooShort → ⊥
    go (refused q) o h = let y : no_bytes Unwritable ≡ no_bytes AreaTooShort = ap (λ (f : Fault). no_bytes f.refusal) (sym o) ∙ h in let z : ◌≡◌ {A = ℕ} 0 1 = cc in absurd (omega arith)
    go (groups gs) o h = let z : ◌≡◌ {A = ℕ} 0 1 = cc in absurd (omega arith)

agree : (ed : Edition) (st : Settings) (request : ℕ) (ws bytes : List ℕ) (area : ℕ) → request ≤ max_request → outside (length bytes) (rows_in ws) ≡ false → Agree area (writing ed st request ws bytes area) (measured ed st ws)
unfolding writing askable measured
agree ed st request ws bytes area q o =
    let k = le-ltb max_request request q in
    by-test (in_range ed st)
    (λ i. by-test (whole ws)
    (λ w. rw (k, i, o, w)
    (subst (Agree area (room_for area (encoded ed st request bytes (rows_in ws)))) (numbers_encoded ed st request ws bytes (in_range_some ed st i) o)
    (agree_room area (encoded ed st request bytes (rows_in ws)) (not_short ed st request bytes (rows_in ws)))))
    (λ w. rw (k, i, o, w) (refused_same Unwritable (λ h. let z : ◌≡◌ {A = ℕ} 0 1 = cc in absurd (omega arith)))))
    (λ i. rw (k, i) (refused_same SettingsOutOfRange (λ h. let z : ◌≡◌ {A = ℕ} 0 1 = cc in absurd (omega arith))))
  where
    refused_same : (r : Refusal) → (no_bytes r ≡ no_bytes AreaTooShort → ⊥) → Agree area (no_bytes r) (refused_numbers r)
    refused_same r h = unfold encoded_numbers in agree_room area (no_bytes r) h

pub measuring : (ed : Edition) → Measuring ed
measuring ed st request ws bytes area q o =
    let a = agree ed st request ws bytes area q o in
    record { enough = λ l. a.0 (omega (arith, l)); too_short = (λ e. omega (arith, a.1.0 e), λ l. a.1.1 (omega (arith, l))) }
