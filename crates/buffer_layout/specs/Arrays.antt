-- The arrays of a buffer, as the code holds them: what the type of the struct says of their lengths and words.
use Rattle.std.specs.Prelude.{ℕ, ◌<◌, ◌^◌, ◌≡◌, List, length, get_or}
use Rattle.buffer_copies.specs.Sizes.{slots}
use Rattle.buffer_layout.specs.declared.buffer.Buffer.{Buffer}

-- 192 words of 32 bits
abbrev pub Column : List ℕ → Type 0
Column xs = (length xs ≡ slots) × ((i : ℕ) → get_or xs i 0 < 2 ^ 32)

-- four columns and three words of marks
pub record Machine (b : Buffer) : Type 0 where
  pub times : Column b.times
  pub tags : Column b.tags
  pub lengths : Column b.lengths
  pub slots_column : Column b.slots
  pub occupied : length b.occupied ≡ 3
  pub last_time_lem : b.last_time < 2 ^ 32
