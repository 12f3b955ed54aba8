-- Laws of plans that are refused.
use mathlib.Core.Path.{◌≡◌, refl, subst}
use mathlib.Core.List.{List, [], ◌∷◌}
use Prim.Native.Nat.{ℕ}
use lib.ListN.{length}
use lib.Dec.{ltb, leb, eqb}
use Rattle.rtp.specs.Editions.{Edition}
use Rattle.rtp.specs.Sizes.{max_rows}
use Rattle.rtp.specs.declared.refusal.Fault.{Fault}
use Rattle.rtp.proofs.TestLaws.{by-test}
use Rattle.formats.specs.Formats.{max_gap}
use Rattle.read_contents.specs.Contents.{Contents, refused, groups}
use Rattle.read_rows.specs.Rows.{Row}
use Rattle.write_plan.specs.Entries.{entries_of, in_entries}
use Rattle.write_plan.specs.Plans.{max_payload, unwritable, head_gap, joins, attach, follows, next_channel, plan_from, step_before, payload_size, fitting, plan}

-- Where there is no plan, the reason is 13

abbrev Plain : Contents → Type 0
Plain (refused q) = q ≡ unwritable
Plain (groups gs) = Unit {0}

plain_attach : (format : ℕ) (r : Row) (gap : ℕ) (x : Contents) → Plain x → Plain (attach format r gap x)
plain_attach format r gap (refused q) h = h
plain_attach format r gap (groups []) h = tt
plain_attach format r gap (groups (g ∷ gs)) h =
    by-test (joins format r g) (λ a. rw a tt) (λ a. by-test (leb (head_gap g) (max_gap format)) (λ b. rw (a, b) tt) (λ b. rw (a, b) refl))

plain_from : (format ch c : ℕ) (p : Row) (rs : List Row) → Plain (plan_from format ch c p rs)
unfolding plan_from
plain_from format ch c p [] = by-test (eqb c 0) (λ a. rw a tt) (λ a. rw a refl)
plain_from format ch c p (r ∷ rs) =
    let i = plain_from format ch (next_channel ch c) r rs in
    by-test (follows format c p r)
    (λ a. by-test (eqb c 0) (λ b. rw (a, b) (plain_attach format r _ (plan_from format ch (next_channel ch c) r rs) i)) (λ b. rw (a, b) i))
    (λ a. rw a refl)

plain_fitting : (format ch : ℕ) (x : Contents) → Plain x → Plain (fitting format ch (in_entries x))
plain_fitting format ch (refused q) h = h
plain_fitting format ch (groups gs) h = by-test (ltb max_payload (payload_size format ch (entries_of gs))) (λ a. rw a refl) (λ a. rw a tt)

plain_plan : (ed : Edition) (format ch : ℕ) (rs : List Row) → Plain (plan ed format ch rs)
unfolding plan
plain_plan ed format ch [] = refl
plain_plan ed format ch (r ∷ rs) =
    by-test (ltb (max_rows ed) (length (r ∷ rs))) (λ a. rw a refl) (λ a. rw a (plain_fitting format ch (plan_from format ch 0 (step_before format r) (r ∷ rs)) (plain_from format ch 0 (step_before format r) (r ∷ rs))))

pub plan_refused : (ed : Edition) (format ch : ℕ) (rs : List Row) (q : Fault) → plan ed format ch rs ≡ refused q → q ≡ unwritable
plan_refused ed format ch rs q e = subst (λ (x : Contents). Plain x) e (plain_plan ed format ch rs)
