-- A rule proved at all numbers below a bound, or at all entries of a table, by one computation.
use mathlib.Core.Path.{◌≡◌, refl, ap, sym, subst, ◌∙◌}
use mathlib.Core.List.{List, [], ◌∷◌}
use mathlib.Core.Bool.{Bool, true, false}
use Prim.Native.Nat.{ℕ, zero, suc, ◌+◌, ◌<◌}
use native.Mathlib.Omega.{arith}
use lib.Dec.{T, eqb}
use lib.ListN.{get_or, length}
use borrow.Author.Tests.{eqb-true, eqb-false}
use Rattle.rtp.proofs.TestLaws.{by-test}

abbrev both : Bool → Bool → Bool
both true b = b
both false b = false

both_left : (a b : Bool) → T (both a b) → T a
both_left true b t = tt
both_left false b t = t

both_right : (a b : Bool) → T (both a b) → T b
both_right true b t = t
both_right false b t = absurd t

-- the test passes at each number below n
abbrev pub all_below : (ℕ → Bool) → ℕ → Bool
all_below p zero = true
all_below p (suc n) = both (p n) (all_below p n)

pub at : (p : ℕ → Bool) (n : ℕ) → T (all_below p n) → (k : ℕ) → k < n → T (p k)
at p zero t k h = absurd (omega arith)
at p (suc n) t k h =
    by-test (eqb k n)
    (λ e. subst (λ (m : ℕ). T (p m)) (sym (eqb-true k n e)) (both_left (p n) (all_below p n) t))
    (λ e. let z = eqb-false k n e in at p n (both_right (p n) (all_below p n) t) k (omega arith))

-- n entries of a table by their rule, from the i-th on
abbrev pub entries : (ℕ → ℕ) → ℕ → ℕ → List ℕ
entries rule i zero = []
entries rule i (suc n) = rule i ∷ entries rule (suc i) n

entry_from : (rule : ℕ → ℕ) (i n k d : ℕ) → k < n → get_or (entries rule i n) k d ≡ rule (i + k)
entry_from rule i zero k d h = absurd (omega arith)
entry_from rule i (suc n) zero d h = ap rule (omega arith)
entry_from rule i (suc n) (suc k) d h = entry_from rule (suc i) n k d (omega arith) ∙ ap rule (omega arith)

-- so a table that is computed to these entries keeps the rule at each of them, whatever is read past its end
pub entry : (rule : ℕ → ℕ) (n k d : ℕ) → k < n → get_or (entries rule 0 n) k d ≡ rule k
entry rule n k d h = entry_from rule 0 n k d h ∙ ap rule (omega arith)

pub entries_length : (rule : ℕ → ℕ) (i n : ℕ) → length (entries rule i n) ≡ n
entries_length rule i zero = refl
entries_length rule i (suc n) = ap suc (entries_length rule (suc i) n)
