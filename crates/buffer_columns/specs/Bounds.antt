-- What the functions on columns and areas do with every count and place, also with one that no buffer has.
use Rattle.std.specs.Prelude.{ℕ, ◌+◌, List, cond, length, ltb}
use Rattle.std.proofs.Math.Seq.{paste}
use Rattle.buffer_copies.specs.Sizes.{slots}
use Rattle.buffer_layout.specs.Columns.{insert_at, remove_first}

-- how many values of a column are in use: no more than it has
abbrev pub used : ℕ → ℕ
used n = cond (ltb n slots) n slots

-- a value is inserted at a place among the n in use or after them, where the column has room; else the column stays as it stood
unfoldable pub insertion : List ℕ → ℕ → ℕ → ℕ → List ℕ
insertion xs n at v = cond (ltb n at) xs (cond (ltb n slots) (insert_at xs n at v) xs)

-- the first of n in use goes, if there is one and the column has so many; else the column stays as it stood
unfoldable pub removal : List ℕ → ℕ → List ℕ
removal xs n = cond (ltb 0 n) (cond (ltb slots n) xs (remove_first xs n)) xs

-- bytes are laid into an area at a place, where they fit; else the area stays as it stood
unfoldable pub laid : List ℕ → ℕ → List ℕ → List ℕ
laid area at bytes = cond (ltb (length area) (at + length bytes)) area (paste area at bytes (length bytes))
