-- Document 01, "A row is", and document 02, P6: frame rows, and the words that they take in a row area.
use Rattle.std.specs.Prelude.{ℕ, zero, suc, ◌+◌, ◌*◌, ◌%◌, ◌^◌, List, [], ◌∷◌, ◌++◌, length, take, drop}
use Rattle.row_tags.specs.Tags.{tag_of, tag_mark, tag_class, tag_channel, redundant_mark}
use Rattle.read_contents.specs.Contents.{Group}

-- timestamp, class (document 01's sort), channel, start in the packet, length, and whether it was heard first-hand
pub record Row : Type 0 where
  pub time : ℕ
  pub class : ℕ
  pub channel : ℕ
  pub start : ℕ
  pub length : ℕ
  pub primary : ℕ

-- a row's frame in the bytes that it points into
abbrev pub frame_in : List ℕ → Row → List ℕ
frame_in bytes r = take r.length (drop r.start bytes)

-- its four words
abbrev pub row_words : Row → List ℕ
row_words r = r.time ∷ tag_of r.primary r.class r.channel ∷ r.start ∷ r.length ∷ []

unfoldable pub words : List Row → List ℕ
words [] = []
words (r ∷ rs) = row_words r ++ words rs

-- the row of four words
abbrev pub row_of : ℕ → ℕ → ℕ → ℕ → Row
row_of time tag start size = record { time = time; class = tag_class tag; channel = tag_channel tag; start = start; length = size; primary = tag_mark tag }

-- the whole rows of a word area; words left over are no row
unfoldable pub rows_in : List ℕ → List Row
rows_in [] = []
rows_in (a ∷ []) = []
rows_in (a ∷ b ∷ []) = []
rows_in (a ∷ b ∷ c ∷ []) = []
rows_in (a ∷ b ∷ c ∷ d ∷ ws) = row_of a b c d ∷ rows_in ws

-- where the frame-block after a gap of frame-blocks stands, when the next place is t
abbrev pub placed : ℕ → ℕ → ℕ → ℕ
placed step t gap = (t + gap * step) % 2 ^ 32

-- the place after it
abbrev pub next_place : ℕ → ℕ → ℕ → ℕ
next_place step t gap = (placed step t gap + step) % 2 ^ 32

unfoldable pub time_after : ℕ → ℕ → List ℕ → ℕ
time_after step t [] = t
time_after step t (g ∷ gs) = time_after step (next_place step t g) gs

-- a frame-block: a row for each of n channels from c on, one frame after another; none is marked yet
unfoldable pub block_rows : ℕ → ℕ → ℕ → ℕ → ℕ → ℕ → List Row
block_rows zero c time class start len = []
block_rows (suc n) c time class start len =
    record { time = time; class = class; channel = c; start = start; length = len; primary = redundant_mark } ∷ block_rows n (c + 1) time class (start + len) len

-- a group's frame-blocks, one after another
unfoldable pub group_rows : ℕ → ℕ → ℕ → ℕ → ℕ → ℕ → List ℕ → List Row
group_rows step ch time class start len [] = []
group_rows step ch time class start len (g ∷ gs) =
    block_rows ch 0 (placed step time g) class start len ++ group_rows step ch (next_place step time g) class (start + ch * len) len gs

-- a table's groups, one after another
unfoldable pub table_rows : ℕ → ℕ → ℕ → ℕ → List Group → List Row
table_rows step ch time start [] = []
table_rows step ch time start (g ∷ gs) =
    group_rows step ch time g.class start g.length g.gaps
    ++ table_rows step ch (time_after step time g.gaps) (start + length g.gaps * ch * g.length) gs

-- the rows of a payload, all with the mark that it was heard with
abbrev pub with_mark : ℕ → Row → Row
with_mark mark r = record { time = r.time; class = r.class; channel = r.channel; start = r.start; length = r.length; primary = mark }

unfoldable pub marked : ℕ → List Row → List Row
marked mark [] = []
marked mark (r ∷ rs) = with_mark mark r ∷ marked mark rs
