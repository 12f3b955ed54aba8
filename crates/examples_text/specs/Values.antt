-- What the words of a line are, and where the values are laid.
use Rattle.std.specs.Prelude.{ℕ, ◌+◌, ◌-◌, ◌*◌, List, [], ◌∷◌, cond, ltb, leb, eqb, take}
use Rattle.rtp.specs.declared.settings.Settings.{Settings}
use Rattle.examples_text.specs.Lines.{after_spaces}

-- the room for bytes and for numbers
abbrev pub byte_room : ℕ
byte_room = 4096

abbrev pub number_room : ℕ
number_room = 64

-- a hexadecimal digit's value, `0` (48) to `9` (57) and `A` (65) to `F` (70); 16 where a byte is none
unfoldable pub digit : ℕ → ℕ
digit c = cond (ltb c 48) 16 (cond (leb c 57) (c - 48) (cond (ltb c 65) 16 (cond (leb c 70) (c - 55) 16)))

-- a number with the decimal digits up to the end of a word; 0 if a byte is none or 32 bits do not hold it
unfoldable pub with_digits : ℕ → List ℕ → ℕ
with_digits v [] = v
with_digits v (c ∷ cs) =
    cond (leb c 32) v
    (cond (ltb 9 (digit c)) 0
    (cond (ltb 4294967295 (10 * v + digit c)) 0 (with_digits (10 * v + digit c) cs)))

-- the number that a line's k-th word after the first is, 0 if none; the same up to 255
abbrev pub number_of : List ℕ → ℕ → ℕ
number_of line k = with_digits 0 (after_spaces k line)

abbrev pub small_of : List ℕ → ℕ → ℕ
small_of line k = cond (ltb (number_of line k) 256) (number_of line k) 0

-- the settings that the four words after the first are; none yet
abbrev pub settings_of : List ℕ → Settings
settings_of line =
    record { format = small_of line 1; channels = small_of line 2; payload_type = small_of line 3; redundancy_type = small_of line 4 }

abbrev pub no_settings : Settings
no_settings = record { format = 0; channels = 0; payload_type = 0; redundancy_type = 0 }

-- the numbers that the words after the first are
unfoldable pub numbers_of : List ℕ → List ℕ
numbers_of [] = []
numbers_of (c ∷ cs) = cond (eqb c 32) (with_digits 0 cs ∷ numbers_of cs) (numbers_of cs)

-- the byte of two hexadecimal digits before one of at most 32; 0 if they are not so
unfoldable pub pair_of : ℕ → ℕ → ℕ → ℕ
pair_of a b c = cond (ltb 32 c) 0 (cond (ltb 15 (digit a)) 0 (cond (ltb 15 (digit b)) 0 (16 * digit a + digit b)))

-- the bytes that words of two digits are, each with what parts it from the next, up to a line's end; past the room are zeros
unfoldable pub bytes_of : List ℕ → List ℕ
bytes_of [] = []
bytes_of (a ∷ []) = cond (leb a 10) [] (pair_of a 0 0 ∷ [])
bytes_of (a ∷ b ∷ []) = cond (leb a 10) [] (pair_of a b 0 ∷ [])
bytes_of (a ∷ b ∷ c ∷ cs) = cond (leb a 10) [] (pair_of a b c ∷ bytes_of cs)

-- the first of some values: as many as a room has places for from `at` on
unfoldable pub fitting : ℕ → ℕ → List ℕ → List ℕ
fitting room at vs = take (room - at) vs
