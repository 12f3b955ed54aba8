-- What the functions that lay a log's bytes ask of one another inside this crate.
use Rattle.std.specs.Prelude.{ℕ, ◌+◌, ◌≤◌, ◌<◌, ◌≡◌, List, [], ◌∷◌, false, length}
use Rattle.rtp.specs.Sizes.{max_frame}
use Rattle.read_rows.specs.Rows.{Row}
use Rattle.write_plan.specs.Lists.{rows_in, outside}
use Rattle.log_fields.specs.Fields.{head_size, frame_head, end_size, first_size}
use Rattle.log_writer.specs.FieldBytes.{max_frames}

-- the bytes of a frame's field before the frame
abbrev pub frame_start : ℕ
frame_start = head_size + frame_head

-- the bytes of the last field
abbrev pub last_size : ℕ
last_size = head_size + end_size

-- a frame of so many bytes, whose field has room in an area
pub record FieldRoom (size area : ℕ) : Type 0 where
  pub short : size ≤ max_frame
  pub room : frame_start + size ≤ area

-- the bytes of the rows' fields
unfoldable pub rows_size : List Row → ℕ
rows_size [] = 0
rows_size (r ∷ rs) = (frame_start + r.length) + rows_size rs

-- a row's class goes into a byte, and its frame is no longer than the longest
pub record SmallRow (r : Row) : Type 0 where
  pub class : r.class < 256
  pub short : r.length ≤ max_frame

abbrev pub SmallRows : List Row → Type 0
SmallRows [] = Unit {0}
SmallRows (r ∷ rs) = SmallRow r × SmallRows rs

-- a row whose frame lies in so many bytes, and whose field has room in an area
pub record RowRoom (r : Row) (bytes area : ℕ) : Type 0 where
  pub small : SmallRow r
  pub inside : r.start + r.length ≤ bytes
  pub room : frame_start + r.length ≤ area

-- rows likewise
pub record RowsRoom (rs : List Row) (bytes area : ℕ) : Type 0 where
  pub small : SmallRows rs
  pub inside : outside bytes rs ≡ false
  pub room : rows_size rs ≤ area

-- a log of the rows in ws, whose fields take so many bytes
pub record LogRoom (ws : List ℕ) (bytes inner area : ℕ) : Type 0 where
  pub small : SmallRows (rows_in ws)
  pub inside : outside bytes (rows_in ws) ≡ false
  pub few : length (rows_in ws) ≤ max_frames
  pub taken : inner ≡ rows_size (rows_in ws)
  pub room : first_size + inner + last_size ≤ area
