-- Big-endian numbers in a list of bytes.
use Rattle.std.specs.Prelude.{ℕ, ◌+◌, ◌*◌, ◌/◌, ◌%◌, ◌^◌, ◌<◌, cond, List, [], ◌∷◌, length, nat_le, slice_index}

abbrev pub byte_at : List ℕ → ℕ → ℕ
byte_at s i = slice_index s i

-- each element is a byte, or a 32-bit word
abbrev pub Bytes : List ℕ → Type 0
Bytes s = (i : ℕ) → byte_at s i < 256

abbrev pub Words : List ℕ → Type 0
Words ws = (i : ℕ) → slice_index ws i < 2 ^ 32

abbrev pub be16 : List ℕ → ℕ → ℕ
be16 s i = 256 * byte_at s i + byte_at s (i + 1)

abbrev pub be32 : List ℕ → ℕ → ℕ
be32 s i = 65536 * be16 s i + be16 s (i + 2)

-- the same where all their bytes lie inside the list, else 0
unfoldable pub read_u16 : List ℕ → ℕ → ℕ
read_u16 s i = cond (nat_le (i + 2) (length s)) (be16 s i) 0

unfoldable pub read_u32 : List ℕ → ℕ → ℕ
read_u32 s i = cond (nat_le (i + 4) (length s)) (be32 s i) 0

-- numbers in two and four bytes
abbrev pub two : ℕ → List ℕ
two n = (n / 256 % 256) ∷ (n % 256) ∷ []

abbrev pub four : ℕ → List ℕ
four n = (n / 16777216 % 256) ∷ (n / 65536 % 256) ∷ (n / 256 % 256) ∷ (n % 256) ∷ []
