-- What the functions that write ask of one another inside this crate.
use Rattle.std.specs.Prelude.{ℕ, zero, suc, ◌+◌, ◌-◌, ◌*◌, ◌/◌, ◌≤◌, ◌<◌, ◌≡◌, List, [], ◌∷◌, false, cond, length, get_or, drop}
use Rattle.rtp.specs.Editions.{Edition}
use Rattle.rtp.specs.Sizes.{max_rows, row_width}
use Rattle.read_contents.specs.Contents.{Group, Contents, refused, groups, min_entry, entry_size, size_in, frames_in}
use Rattle.formats.specs.Formats.{format_of, step_of, max_gap}
use Rattle.read_rows.specs.Rows.{Row}
use Rattle.write_plan.specs.Lists.{rows_in, outside}
use Rattle.frame_codes.specs.Codes.{no_code, code_for}
use Rattle.write_plan.specs.Entries.{entries_of}
use Rattle.write_plan.specs.Plans.{head_gap, gap_between, joins, plan_from, plan}
use Rattle.write_plan.specs.Room.{words_at, row_as, lengths_in}
use Rattle.write_payload.specs.Bytes.{table_bytes}
use Rattle.write_sizes.specs.Asking.{max_request}

-- Frames

-- every frame lies in its bytes, and the area has room for them all
pub record FramesRoom (bytes : ℕ) (rs : List Row) (area : ℕ) : Type 0 where
  pub inside : outside bytes rs ≡ false
  pub room : lengths_in rs ≤ area

-- Runs

-- a row of which only the time counts: the last one of a frame-block that another follows
abbrev pub timed : ℕ → Row
timed time = record { time = time; class = 0; channel = 0; start = 0; length = 0; primary = 0 }

-- the frame-blocks of a table's first run, where a frame-block before the table joins it
abbrev pub joined : ℕ → Row → Contents → ℕ
joined format r (refused q) = 0
joined format r (groups []) = 0
joined format r (groups (g ∷ gs)) = cond (joins format r g) (length g.gaps) 0

-- there is a plan
abbrev pub Accepted : Contents → Type 0
Accepted (refused q) = ⊥
Accepted (groups gs) = Unit {0}

pub record RunRoom (format ch : ℕ) (r : Row) (ws : List ℕ) : Type 0 where
  pub some : 0 < ch
  pub channels : ch < 256
  pub planned : Accepted (plan_from format ch 0 r (rows_in ws))

-- the gaps of n frame-blocks of so many words each, the first after a frame-block at `previous`
unfoldable pub block_gaps : ℕ → ℕ → ℕ → ℕ → List ℕ → List ℕ
block_gaps step width zero previous ws = []
block_gaps step width (suc n) previous ws = gap_between step previous (get_or ws 0 0) ∷ block_gaps step width n (get_or ws 0 0) (drop width ws)

-- the group of the run of n frame-blocks at the front
abbrev pub run_group : ℕ → ℕ → ℕ → ℕ → List ℕ → Group
run_group format width n previous ws =
    record { class = (row_as (words_at ws 0)).class; length = (row_as (words_at ws 0)).length; gaps = block_gaps (step_of format) width n previous ws }

-- Entries and tables

-- each of them fits in half a byte
abbrev pub Halves : List ℕ → Type 0
Halves [] = Unit {0}
Halves (a ∷ ns) = (a < 16) × Halves ns

pub record GapRoom (format width blocks previous : ℕ) (ws : List ℕ) (area : ℕ) : Type 0 where
  pub wide : 0 < width
  pub words : width * blocks ≤ length ws
  pub small : Halves (block_gaps (step_of format) width blocks previous ws)
  pub room : (blocks + 1) / 2 ≤ area

pub record StartRoom (format class n blocks area : ℕ) : Type 0 where
  pub coded : code_for format class n < no_code
  pub few : blocks < 256
  pub room : min_entry format ≤ area

pub record EntryRoom (format width blocks previous : ℕ) (ws : List ℕ) (area : ℕ) : Type 0 where
  pub row : row_width ≤ length ws
  pub coded : code_for format (row_as (words_at ws 0)).class (row_as (words_at ws 0)).length < no_code
  pub wide : 0 < width
  pub words : width * blocks ≤ length ws
  pub small : Halves (block_gaps (step_of format) width blocks previous ws)
  pub few : blocks < 256
  pub room : entry_size format blocks ≤ area

-- a table's first frame-block is no further apart from the one before than an entry can say
abbrev pub Near : ℕ → List Group → Type 0
Near format [] = Unit {0}
Near format (g ∷ gs) = head_gap g ≤ max_gap format

-- the runs of rows, whose entries have room in an area
abbrev pub PlanRoom : ℕ → ℕ → Contents → Type 0
PlanRoom format area (refused q) = ⊥
PlanRoom format area (groups gs) = Near format gs × (size_in format (entries_of gs) ≤ area)

pub record TableRoom (ed : Edition) (format ch previous : ℕ) (ws : List ℕ) (area : ℕ) : Type 0 where
  pub some : 0 < ch
  pub channels : ch < 256
  pub few : length ws < row_width * max_rows ed + row_width
  pub planned : PlanRoom format area (plan_from format ch 0 (timed previous) (rows_in ws))

-- the bytes of a plan: none where there is none
unfoldable pub plan_bytes : ℕ → Contents → List ℕ
plan_bytes format (refused q) = []
plan_bytes format (groups gs) = table_bytes format gs

-- what stands after the mode request: a table of so many bytes, and its frames after it, in an area
abbrev pub WholePlan : ℕ → ℕ → ℕ → ℕ → Contents → Type 0
WholePlan format ch table area (refused q) = ⊥
WholePlan format ch table area (groups gs) = (table ≡ size_in format gs) × (table + frames_in ch gs ≤ area)

pub record ListRoom (ed : Edition) (format ch table bytes : ℕ) (ws : List ℕ) (area : ℕ) : Type 0 where
  pub some : 0 < ch
  pub channels : ch < 256
  pub inside : outside bytes (rows_in ws) ≡ false
  pub planned : WholePlan format ch table area (plan ed format ch (rows_in ws))

-- the mode request before them
pub record PayloadRoom (ed : Edition) (format request ch table bytes : ℕ) (ws : List ℕ) (area : ℕ) : Type 0 where
  pub small : request ≤ max_request
  pub room : (format_of format).header ≤ area
  pub list : ListRoom ed format ch table bytes ws (area - (format_of format).header)
