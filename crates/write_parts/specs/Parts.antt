-- Document 01, "To write a packet": the frame lists of a packet, 0 to 4 redundant ones and then the primary one, as blocks.
use Rattle.std.specs.Prelude.{ℕ, ◌+◌, ◌*◌, List, [], ◌∷◌, Bool, true, false, cond, length, take, drop, ltb, eqb}
use Rattle.rtp.specs.Editions.{Edition}
use Rattle.rtp.specs.Sizes.{max_rows, row_width}
use Rattle.rtp.specs.Time.{difference}
use Rattle.rtp.specs.declared.settings.Settings.{Settings}
use Rattle.read_rows.specs.Rows.{Row}
use Rattle.write_payload.specs.Writings.{Encoded, no_bytes, bytes_of, encoded}
use Rattle.write_plan.specs.Lists.{first_time}

-- the most redundant blocks of a packet, the largest offset and the most bytes of one
abbrev pub max_redundant : ℕ
max_redundant = 4

abbrev pub max_offset : ℕ
max_offset = 16383

abbrev pub max_block : ℕ
max_block = 1023

-- the number of rows that the counts tell of
unfoldable pub total : List ℕ → ℕ
total [] = 0
total (n ∷ ns) = n + total ns

-- one to five counts, which make up the area, and no more rows in all than the edition has
abbrev pub counts_fit : Edition → List ℕ → List ℕ → Bool
counts_fit ed counts ws =
    cond (eqb (length counts) 0) false
    (cond (ltb (max_redundant + 1) (length counts)) false
    (cond (eqb (length ws) (row_width * total counts)) (cond (ltb (max_rows ed) (total counts)) false true) false))

-- the time of the primary list, the last: its first row's, which is the packet's timestamp
unfoldable pub primary_time : List ℕ → List Row → ℕ
primary_time [] rs = 0
primary_time (n ∷ []) rs = first_time rs
primary_time (n ∷ m ∷ ns) rs = primary_time (m ∷ ns) (drop n rs)

-- a redundant block: its offset and its payload
pub record Part : Type 0 where
  pub offset : ℕ
  pub bytes : List ℕ

-- the redundant blocks and the primary payload, or none
pub data Parts : Type 0 where
  no_parts : Parts
  parts_of : List Part → List ℕ → Parts

abbrev pub primary_part : Encoded → Parts
primary_part (no_bytes r) = no_parts
primary_part (bytes_of p) = parts_of [] p

abbrev pub prepend_part : Part → Parts → Parts
prepend_part b no_parts = no_parts
prepend_part b (parts_of bs p) = parts_of (b ∷ bs) p

-- a redundant list before the parts of the others: it has a payload of at most 1,023 bytes, and an offset of at most 16,383
abbrev pub redundant_part : ℕ → Encoded → Parts → Parts
redundant_part offset (no_bytes r) rest = no_parts
redundant_part offset (bytes_of p) rest =
    cond (ltb max_block (length p)) no_parts (cond (ltb max_offset offset) no_parts (prepend_part (record { offset = offset; bytes = p }) rest))

-- the parts of the lists, which have so many rows each, all with the same mode request; the packet's timestamp is `time`
unfoldable pub parts : Edition → Settings → ℕ → List ℕ → ℕ → List ℕ → List Row → Parts
parts ed st request bytes time [] rs = no_parts
parts ed st request bytes time (n ∷ []) rs = primary_part (encoded ed st request bytes rs)
parts ed st request bytes time (n ∷ m ∷ ns) rs =
    redundant_part (difference time (first_time (take n rs))) (encoded ed st request bytes (take n rs)) (parts ed st request bytes time (m ∷ ns) (drop n rs))
