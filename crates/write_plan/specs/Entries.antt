-- Document 02, P12: the entries that runs are written with. An entry counts its frame-blocks in one byte; a run over 255 of them is written as 254, then the
-- rest. (The rows of a packet are so few that one entry can count the rest.)
use Rattle.std.specs.Prelude.{ℕ, List, [], ◌∷◌, cond, length, take, drop, leb}
use Rattle.read_contents.specs.Contents.{Group, Contents, refused, groups}

-- the most frame-blocks that an entry counts
abbrev pub max_blocks : ℕ
max_blocks = 255

-- those of the first entry of a longer run: an even number, so that no displacement of it is padded
abbrev pub first_part : ℕ
first_part = 254

-- the frame-blocks of the first entry of a run of n
abbrev pub first_blocks : ℕ → ℕ
first_blocks n = cond (leb n max_blocks) n first_part

-- some of a run's frame-blocks, by their gaps; the first gap of a later part is the one before its first frame-block (P5: its entry's DIS1)
abbrev pub part : Group → List ℕ → Group
part g gaps = record { class = g.class; length = g.length; gaps = gaps }

-- the entries of a table's runs
unfoldable pub entries_of : List Group → List Group
entries_of [] = []
entries_of (g ∷ gs) =
    cond (leb (length g.gaps) max_blocks) (g ∷ entries_of gs)
    (part g (take first_part g.gaps) ∷ part g (drop first_part g.gaps) ∷ entries_of gs)

abbrev pub in_entries : Contents → Contents
in_entries (refused q) = refused q
in_entries (groups gs) = groups (entries_of gs)
