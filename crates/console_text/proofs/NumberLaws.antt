-- Laws of numbers in arguments.
use mathlib.Core.Path.{◌≡◌, refl, ap, ◌∙◌}
use Rattle.std.specs.Prelude.{None, Option, Some}
use mathlib.Core.List.{List, [], ◌∷◌}
use Prim.Native.Nat.{ℕ, suc, ◌<◌, ◌≤◌}
use lib.ListN.{length, drop, get_or, drop_of_length-le}
use lib.Seq.{drop-cons}
use native.Mathlib.Omega.{arith}
use Rattle.console_text.specs.Numbers.{with_digit, with_digits, Parsed, parsed}

one : (n : Option ℕ) (c : ℕ) (cs : List ℕ) → with_digits n (c ∷ cs) ≡ with_digits (with_digit n c) cs
unfolding with_digits
one n c cs = refl

none : (n : Option ℕ) → with_digits n [] ≡ n
unfolding with_digits
none n = refl

-- one more digit read
pub with_next : (n : Option ℕ) (s : List ℕ) (i : ℕ) → i < length s → with_digits n (drop i s) ≡ with_digits (with_digit n (get_or s i 0)) (drop (suc i) s)
with_next n s i h = ap (with_digits n) (drop-cons s i 0 h) ∙ one n (get_or s i 0) (drop (suc i) s)

-- none left
pub with_none : (n : Option ℕ) (s : List ℕ) (i : ℕ) → length s ≤ i → with_digits n (drop i s) ≡ n
with_none n s i h = ap (with_digits n) (drop_of_length-le s {i = i} h) ∙ none n

-- answers with the same numbers are the same
pub same_parsed : (a b : Option ℕ) → parsed a ≡ parsed b → a ≡ b
same_parsed None None e = refl
same_parsed None (Some w) e = let z : ◌≡◌ {A = ℕ} 0 1 = ap (λ (p : Parsed). p.found) e in absurd (omega (arith, z))
same_parsed (Some v) None e = let z : ◌≡◌ {A = ℕ} 1 0 = ap (λ (p : Parsed). p.found) e in absurd (omega (arith, z))
same_parsed (Some v) (Some w) e = ap (λ (p : Parsed). Some p.value) e
