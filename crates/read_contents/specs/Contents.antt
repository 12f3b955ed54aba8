-- Document 01, "G.719 tables of contents" and "GSM-HR tables": entries and tables, over the formats.
use Rattle.std.specs.Prelude.{ℕ, zero, suc, ◌+◌, ◌*◌, ◌/◌, ◌%◌, List, [], ◌∷◌, Bool, false, cond, length, drop, ltb, leb, eqb, None, Option, Some, Err, Ok, Result}
use Rattle.rtp.specs.declared.refusal.Refusal.{Refusal}
use Rattle.read_contents.specs.declared.entries.Sizes.{Sizes}
use Rattle.formats.specs.declared.frames.Frame.{Frame}
use Rattle.rtp.specs.Editions.{Edition}
use Rattle.rtp.specs.Sizes.{max_rows}
use Rattle.rtp.specs.Numbers.{byte_at}
use Rattle.rtp.specs.Refusals.{number}
use Rattle.rtp.specs.Faults.{fault, shifted}
use Rattle.rtp.specs.declared.refusal.Fault.{Fault}
use Rattle.rtp.specs.declared.refusal.Refusal.TheVariants.{ContentsTruncated, ReservedCode, NoFrameBlocks, TooManyRows}
use Rattle.read_contents.specs.declared.entries.Entry.{Entry}
use Rattle.formats.specs.Formats.{format_of}
use Rattle.formats.specs.Frames.{frame_of}

-- One entry

-- the bytes of an entry before its displacements
unfoldable pub min_entry : ℕ → ℕ
min_entry format = cond (format_of format).counted 2 1

-- the frame code in the first byte: after F and above the reserved bits
abbrev pub code_in : ℕ → ℕ → ℕ
code_in format first = first / (format_of format).unit % (format_of format).codes

-- the number of frame-blocks: the second byte, or one
abbrev pub blocks_in : ℕ → List ℕ → ℕ
blocks_in format s = cond (format_of format).counted (byte_at s 1) 1

-- the bytes of n displacements: 4 bits for each frame-block, and four padding bits if the number is odd
unfoldable pub gaps_size : ℕ → ℕ → ℕ
gaps_size format n = cond (format_of format).displaced ((n + 1) / 2) 0

unfoldable pub entry_size : ℕ → ℕ → ℕ
entry_size format blocks = min_entry format + gaps_size format blocks

-- an entry of so many frame-blocks and bytes whose code stands for a frame, or is reserved
abbrev pub coded_entry : Bool → ℕ → ℕ → Option Frame → Result Entry Refusal
coded_entry more blocks size None = Err ReservedCode
coded_entry more blocks size (Some f) =
    cond (eqb blocks 0) (Err NoFrameBlocks)
    (Ok (record { more = more; class = f.class; length = f.length; blocks = blocks; size = size }))

-- the entry at the front of s
unfoldable pub entry_of : ℕ → List ℕ → Result Entry Refusal
entry_of format s =
    cond (ltb (length s) (min_entry format)) (Err ContentsTruncated)
    (cond (ltb (length s) (entry_size format (blocks_in format s))) (Err ContentsTruncated)
    (coded_entry (leb 128 (byte_at s 0)) (blocks_in format s) (entry_size format (blocks_in format s)) (frame_of format (code_in format (byte_at s 0)))))

-- The answer in numbers: the refusal number or 0, and the entry, with no number in it on refusal
pub record EntryNumbers : Type 0 where
  pub refusal : ℕ
  pub entry : Entry

abbrev pub no_entry : Entry
no_entry = record { more = false; class = 0; length = 0; blocks = 0; size = 0 }

abbrev pub entry_numbers : Result Entry Refusal → EntryNumbers
entry_numbers (Err r) = record { refusal = number r; entry = no_entry }
entry_numbers (Ok e) = record { refusal = 0; entry = e }

-- A table as parsed

-- what an entry means: its frames' class and length, and for each frame-block the number of frame-blocks left out before it
pub record Group : Type 0 where
  pub class : ℕ
  pub length : ℕ
  pub gaps : List ℕ

pub data Contents : Type 0 where
  refused : Fault → Contents
  groups : List Group → Contents

-- the k-th half byte of s, high half first
abbrev pub half_at : List ℕ → ℕ → ℕ
half_at s k = cond (eqb (k % 2) 0) (byte_at s (k / 2) / 16) (byte_at s (k / 2) % 16)

-- the frame-blocks left out before frame-block k of the entry at the front of s: the displacement
unfoldable pub gap_at : ℕ → List ℕ → ℕ → ℕ
gap_at format s k = cond (format_of format).displaced (half_at (drop (min_entry format) s) k) 0

-- the gaps of n frame-blocks from k on
unfoldable pub gaps_from : ℕ → List ℕ → ℕ → ℕ → List ℕ
gaps_from format s k zero = []
gaps_from format s k (suc n) = gap_at format s k ∷ gaps_from format s (k + 1) n

unfoldable pub meaning : ℕ → List ℕ → Entry → Group
meaning format s e = record { class = e.class; length = e.length; gaps = gaps_from format s 0 e.blocks }

-- an entry of so many bytes before the others
abbrev pub prepend : ℕ → Group → Contents → Contents
prepend size g (refused f) = refused (shifted size f)
prepend size g (groups gs) = groups (g ∷ gs)

-- what the entry read at the front of s makes of the table, where `next` reads what follows
abbrev pub contents_step : Edition → ℕ → ℕ → ℕ → List ℕ → (ℕ → List ℕ → Contents) → Result Entry Refusal → Contents
contents_step ed format ch rows s next (Err r) = refused (fault r)
contents_step ed format ch rows s next (Ok e) =
    cond (ltb (max_rows ed) (rows + e.blocks * ch)) (refused (fault TooManyRows))
    (cond e.more (prepend e.size (meaning format s e) (next (rows + e.blocks * ch) (drop e.size s)))
    (groups (meaning format s e ∷ [])))

-- by fuel
unfoldable pub contents_by : Edition → ℕ → ℕ → ℕ → ℕ → List ℕ → Contents
contents_by ed zero format ch rows s = refused (fault ContentsTruncated)
contents_by ed (suc f) format ch rows s = contents_step ed format ch rows s (λ r t. contents_by ed f format ch r t) (entry_of format s)

-- the table at the front of s, after `rows` rows of the same packet; an entry with F set is followed by another
unfoldable pub contents : Edition → ℕ → ℕ → ℕ → List ℕ → Contents
contents ed format ch rows s = contents_by ed (suc (length s)) format ch rows s

-- Document 02, P5: only the first entry's DIS1 is passed over, so that the payload's first frame-block stands at the payload's time. In a later entry it
-- counts the frame-blocks between the previous group's last and this group's first

abbrev pub direct : List ℕ → List ℕ
direct [] = []
direct (gap ∷ gaps) = 0 ∷ gaps

abbrev pub pass_first : Contents → Contents
pass_first (refused f) = refused f
pass_first (groups []) = groups []
pass_first (groups (g ∷ gs)) = groups (record { class = g.class; length = g.length; gaps = direct g.gaps } ∷ gs)

-- the table's rows, its bytes and the bytes of the frames that follow
unfoldable pub row_count : ℕ → List Group → ℕ
row_count ch [] = 0
row_count ch (g ∷ gs) = length g.gaps * ch + row_count ch gs

unfoldable pub size_in : ℕ → List Group → ℕ
size_in format [] = 0
size_in format (g ∷ gs) = entry_size format (length g.gaps) + size_in format gs

unfoldable pub frames_in : ℕ → List Group → ℕ
frames_in ch [] = 0
frames_in ch (g ∷ gs) = length g.gaps * ch * g.length + frames_in ch gs

-- The answer in numbers: the refusal number or 0, the place of the fault, and the three sizes, 0 on refusal
pub record ContentsNumbers : Type 0 where
  pub refusal : ℕ
  pub offset : ℕ
  pub rows : ℕ
  pub size : ℕ
  pub frames : ℕ

-- of the code's answer, case by case
abbrev pub contents_read_numbers : Result Sizes Fault → ContentsNumbers
contents_read_numbers (Err f) = record { refusal = number f.refusal; offset = f.offset; rows = 0; size = 0; frames = 0 }
contents_read_numbers (Ok t) = record { refusal = 0; offset = 0; rows = t.rows; size = t.size; frames = t.frames }

-- of the table
unfoldable pub contents_numbers : ℕ → ℕ → Contents → ContentsNumbers
contents_numbers format ch (refused f) = record { refusal = number f.refusal; offset = f.offset; rows = 0; size = 0; frames = 0 }
contents_numbers format ch (groups gs) = record { refusal = 0; offset = 0; rows = row_count ch gs; size = size_in format gs; frames = frames_in ch gs }

-- the code's answer that has them
unfoldable pub sizes_answer : ℕ → ℕ → Contents → Result Sizes Fault
sizes_answer format ch (refused f) = Err f
sizes_answer format ch (groups gs) = Ok (record { rows = row_count ch gs; size = size_in format gs; frames = frames_in ch gs })
