-- Numbers in arguments: one or more decimal digits, 0 to 255, zeros in front allowed.
use Rattle.std.specs.Prelude.{ℕ, ◌+◌, ◌-◌, ◌*◌, List, [], ◌∷◌, cond, ltb, eqb, length, None, Option, Some}

-- a number with one more digit, `0` (48) to `9` (57); what is no number stays none
unfoldable pub with_digit : Option ℕ → ℕ → Option ℕ
with_digit None c = None
with_digit (Some v) c =
    cond (ltb c 48) None
    (cond (ltb 57 c) None
    (cond (ltb 255 (10 * v + (c - 48))) None (Some (10 * v + (c - 48)))))

-- a number with all the digits of a text
unfoldable pub with_digits : Option ℕ → List ℕ → Option ℕ
with_digits n [] = n
with_digits n (c ∷ cs) = with_digits (with_digit n c) cs

-- the number that a text is; an empty text is none
unfoldable pub number_of : List ℕ → Option ℕ
number_of text = cond (eqb (length text) 0) None (with_digits (Some 0) text)

-- The answer in numbers: whether there is a number, 1 or 0, and the number, 0 where there is none
pub record Parsed : Type 0 where
  pub found : ℕ
  pub value : ℕ

abbrev pub parsed : Option ℕ → Parsed
parsed None = record { found = 0; value = 0 }
parsed (Some v) = record { found = 1; value = v }
