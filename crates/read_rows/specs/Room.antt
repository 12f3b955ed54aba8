-- What functions ask of their callers inside this crate: room in an area, and numbers that fit its words.
use Rattle.std.specs.Prelude.{ℕ, ◌+◌, ◌*◌, ◌^◌, ◌<◌, ◌≤◌, List, [], Err, Ok, Result}
use Rattle.read_contents.specs.declared.entries.Sizes.{Sizes}
use Rattle.rtp.specs.declared.refusal.Fault.{Fault}
use Rattle.rtp.specs.Sizes.{row_width}
use Rattle.formats.specs.Frames.{step_of}
use Rattle.rtp.specs.Time.{difference}
use Rattle.read_contents.specs.Contents.{gap_at, Contents, refused, groups}
use Rattle.read_rows.specs.Rows.{words, table_rows, marked}

pub record RowRoom (channel start size area : ℕ) : Type 0 where
  pub area_fits : row_width ≤ area
  pub channels : channel < 256
  pub frames_fit : start + size < 2 ^ 32

pub record BlockRoom (channels start size area : ℕ) : Type 0 where
  pub area_fits : row_width * channels ≤ area
  pub channels_fit : channels ≤ 256
  pub frames_fit : start + channels * size < 2 ^ 32

pub record GroupRoom (blocks ch start size area : ℕ) : Type 0 where
  pub area_fits : row_width * (blocks * ch) ≤ area
  pub channels_fit : ch ≤ 256
  pub frames_fit : start + blocks * ch * size < 2 ^ 32

abbrev pub TableRoom : ℕ → ℕ → ℕ → Result Sizes Fault → Type 0
TableRoom ch start area (Err r) = ⊥
TableRoom ch start area (Ok t) = (row_width * t.rows ≤ area) × (start + t.frames < 2 ^ 32) × (ch ≤ 256)

-- the words of a table whose frames start at `start`, heard with this mark: none of a refusal
unfoldable pub contents_words : ℕ → ℕ → ℕ → ℕ → ℕ → Contents → List ℕ
contents_words mark format ch time start (refused r) = []
contents_words mark format ch time start (groups gs) = words (marked mark (table_rows (step_of format) ch time start gs))

-- the time from which the rows of a payload at `time` are counted with every displacement, its first entry's DIS1 included: that one is passed over
abbrev pub origin_of : ℕ → ℕ → List ℕ → ℕ
origin_of format time s = difference time (gap_at format s 0 * step_of format)
