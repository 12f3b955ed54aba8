-- Frame lists: the rows in a word area that a caller gives to be written.
use Rattle.std.specs.Prelude.{ℕ, ◌+◌, ◌%◌, List, [], ◌∷◌, Bool, true, false, cond, length, ltb, eqb}
use Rattle.rtp.specs.Sizes.{row_width}
use Rattle.read_rows.specs.Rows.{Row}
pub use Rattle.read_rows.specs.Rows.{row_of, rows_in}

-- the time of a list's first row, at which it is read back
abbrev pub first_time : List Row → ℕ
first_time [] = 0
first_time (r ∷ rs) = r.time

-- a word area that is a whole number of rows
abbrev pub whole : List ℕ → Bool
whole ws = eqb (length ws % row_width) 0

-- some row has start + length over the n bytes that the rows point into (refusal 14)
unfoldable pub outside : ℕ → List Row → Bool
outside n [] = false
outside n (r ∷ rs) = cond (ltb n (r.start + r.length)) true (outside n rs)
