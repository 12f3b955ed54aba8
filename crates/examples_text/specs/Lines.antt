-- Lines of the examples' cases: bytes in a room of a fixed size.
use Rattle.std.specs.Prelude.{ℕ, zero, suc, List, [], ◌∷◌, Bool, true, false, cond, ltb, leb, eqb, length, get_or, drop, replicate}

-- a line that ends with its first byte of at most 10, a newline (10) or the input's end (0): zeros after it
unfoldable pub ended : List ℕ → List ℕ
ended [] = []
ended (c ∷ cs) = c ∷ cond (leb c 10) (replicate (length cs) 0) (ended cs)

-- whether the input had a line
abbrev pub is_line : List ℕ → Bool
is_line line = ltb 0 (get_or line 0 0)

-- whether a line is blank or starts with # (35)
abbrev pub is_comment : List ℕ → Bool
is_comment line = cond (leb (get_or line 0 0) 10) true (eqb (get_or line 0 0) 35)

-- a line's spaces (32): it has as many words after its first
unfoldable pub spaces : List ℕ → ℕ
spaces [] = 0
spaces (c ∷ cs) = cond (eqb c 32) (suc (spaces cs)) (spaces cs)

-- what follows a line's k-th space; nothing if it has fewer
unfoldable pub after_spaces : ℕ → List ℕ → List ℕ
after_spaces zero line = line
after_spaces (suc k) [] = []
after_spaces (suc k) (c ∷ cs) = cond (eqb c 32) (after_spaces k cs) (after_spaces (suc k) cs)

-- whether a line starts with a word: its bytes, then one of at most 32; past the room are zeros
unfoldable pub starts_with : List ℕ → List ℕ → Bool
starts_with [] line = leb (get_or line 0 0) 32
starts_with (w ∷ ws) line = cond (eqb (get_or line 0 0) w) (starts_with ws (drop 1 line)) false

-- whether a line's first word is this one, with n after it or more; with n and no more
abbrev pub has_from : List ℕ → List ℕ → ℕ → Bool
has_from line word n = cond (starts_with word line) (leb n (spaces line)) false

abbrev pub has_exactly : List ℕ → List ℕ → ℕ → Bool
has_exactly line word n = cond (starts_with word line) (eqb (spaces line) n) false

-- the bytes up to a line's end
unfoldable pub text : List ℕ → List ℕ
text [] = []
text (c ∷ cs) = cond (leb c 10) [] (c ∷ text cs)
