-- Rows and plans as the code holds them, and what the functions that plan ask of one another inside this crate.
use Rattle.std.specs.Prelude.{ℕ, ◌+◌, ◌-◌, ◌*◌, ◌≤◌, ◌<◌, ◌≡◌, List, [], ◌∷◌, cond, length, get_or, leb, None, Option, Some}
use Rattle.write_plan.specs.declared.planning.Sizes.{Sizes}
use Rattle.rtp.specs.Editions.{Edition}
use Rattle.rtp.specs.Sizes.{max_rows, max_frame}
use Rattle.rtp.specs.Refusals.{number}
use Rattle.rtp.specs.declared.refusal.Refusal.TheVariants.{Unwritable}
use Rattle.read_contents.specs.Contents.{Contents, refused, groups, entry_size, size_in, frames_in}
use Rattle.formats.specs.Formats.{max_gap}
use Rattle.read_rows.specs.Rows.{Row}
use Rattle.write_plan.specs.declared.lists.RowWords.{RowWords}
use Rattle.write_plan.specs.declared.planning.Plan.{Plan}
use Rattle.write_plan.specs.Lists.{row_of}
use Rattle.write_plan.specs.Entries.{max_blocks, first_part, entries_of}
use Rattle.write_plan.specs.Plans.{head_gap, joins_run, payload_size}

-- the words of the row at a word of the area, with 0 for one past the end
abbrev pub words_at : List ℕ → ℕ → RowWords
words_at ws at = record { time = get_or ws at 0; tag = get_or ws (at + 1) 0; start = get_or ws (at + 2) 0; length = get_or ws (at + 3) 0 }

abbrev pub row_as : RowWords → Row
row_as w = row_of w.time w.tag w.start w.length

-- the bytes of the entries of a run of n frame-blocks
unfoldable pub run_size : ℕ → ℕ → ℕ
run_size format n = cond (leb n max_blocks) (entry_size format n) (entry_size format first_part + entry_size format (n - first_part))

-- a plan by its first run, with the bytes of its entries and of those after it
unfoldable pub plan_answer : ℕ → ℕ → Contents → Option (Option Plan)
plan_answer format ch (refused q) = None
plan_answer format ch (groups []) = Some None
plan_answer format ch (groups (g ∷ gs)) = Some (Some (record {
  class = g.class;
  length = g.length;
  gap = head_gap g;
  blocks = length g.gaps;
  run = run_size format (length g.gaps);
  others = size_in format (entries_of gs);
  frames = frames_in ch (g ∷ gs);
}))

-- one frame-block by itself, before entries of so many bytes; all frames take so many
abbrev pub single_plan : ℕ → Row → ℕ → ℕ → ℕ → Plan
single_plan format r gap others frames = record {
  class = r.class;
  length = r.length;
  gap = gap;
  blocks = 1;
  run = run_size format 1;
  others = others;
  frames = frames;
}

-- `attach` by the numbers of the first run
abbrev pub attach_plan : ℕ → ℕ → Row → ℕ → Option (Option Plan) → Option (Option Plan)
attach_plan format ch r gap None = None
attach_plan format ch r gap (Some None) = Some (Some (single_plan format r gap 0 (ch * r.length)))
attach_plan format ch r gap (Some (Some p)) =
    cond (joins_run format r p.class p.length p.gap)
    (Some (Some (record {
      class = p.class;
      length = p.length;
      gap = gap;
      blocks = p.blocks + 1;
      run = run_size format (p.blocks + 1);
      others = p.others;
      frames = ch * r.length + p.frames;
    })))
    (cond (leb p.gap (max_gap format))
    (Some (Some (single_plan format r gap (p.run + p.others) (ch * r.length + p.frames))))
    None)

-- the numbers of a plan of at most n frame-blocks stay small
pub record SmallPlan (format ch n : ℕ) (p : Plan) : Type 0 where
  pub few : p.blocks ≤ n
  pub whole : p.run ≡ run_size format p.blocks
  pub tabled : p.run + p.others ≤ 3 * n
  pub framed : p.frames ≤ n * (ch * max_frame)

abbrev pub Small : ℕ → ℕ → ℕ → Option (Option Plan) → Type 0
Small format ch n (Some (Some p)) = SmallPlan format ch n p
Small format ch n (Some None) = Unit {0}
Small format ch n None = Unit {0}

-- a frame-block of a frame that the format has, before a plan of at most as many frame-blocks as a packet has rows
pub record Attachable (ed : Edition) (format ch : ℕ) (r : Row) (rest : Option (Option Plan)) : Type 0 where
  pub channels : ch < 256
  pub short : r.length ≤ max_frame
  pub small : Small format ch (max_rows ed) rest

-- The answer on a whole list in numbers: the refusal number or 0, and the bytes of the table and of the payload, zeros on refusal
pub record ListNumbers : Type 0 where
  pub refusal : ℕ
  pub table : ℕ
  pub payload : ℕ

-- of the code's answer, case by case
abbrev pub list_plan_numbers : Option Sizes → ListNumbers
list_plan_numbers None = record { refusal = number Unwritable; table = 0; payload = 0 }
list_plan_numbers (Some s) = record { refusal = 0; table = s.table; payload = s.payload }

-- of the plan, which is refused for no other reason
unfoldable pub list_numbers : ℕ → ℕ → Contents → ListNumbers
list_numbers format ch (refused q) = record { refusal = number Unwritable; table = 0; payload = 0 }
list_numbers format ch (groups gs) = record { refusal = 0; table = size_in format gs; payload = payload_size format ch gs }

-- the code's answer that has them
unfoldable pub list_answer : ℕ → ℕ → Contents → Option Sizes
list_answer format ch (refused q) = None
list_answer format ch (groups gs) = Some (record { table = size_in format gs; payload = payload_size format ch gs })

-- the bytes of a list's frames
unfoldable pub lengths_in : List Row → ℕ
lengths_in [] = 0
lengths_in (r ∷ rs) = r.length + lengths_in rs
