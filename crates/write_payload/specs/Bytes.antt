-- The bytes of a payload after its mode request: a plan and its frames. Reserved and padding bits are 0, and so is the first entry's DIS1, since a plan's first gap is.
use Rattle.std.specs.Prelude.{ℕ, ◌+◌, ◌*◌, List, [], ◌∷◌, ◌++◌, Bool, true, false, cond, length}
use Rattle.formats.specs.Formats.{format_of}
use Rattle.read_contents.specs.Contents.{Group}
use Rattle.read_rows.specs.Rows.{Row, frame_in}
use Rattle.frame_codes.specs.Codes.{code_for}

-- 4-bit numbers in bytes, high half first, with four zero bits after an odd number
unfoldable pub halves : List ℕ → List ℕ
halves [] = []
halves (a ∷ []) = 16 * a ∷ []
halves (a ∷ b ∷ ns) = (16 * a + b) ∷ halves ns

-- the bit F: another entry follows
abbrev pub flag : Bool → ℕ
flag more = cond more 128 0

-- an entry's first byte: F, the code of its frames, and reserved bits
unfoldable pub first_byte : ℕ → Bool → ℕ → ℕ → ℕ
first_byte format more class n = flag more + (format_of format).unit * code_for format class n

-- an entry's bytes before its displacements: the second counts its frame-blocks
abbrev pub start_bytes : ℕ → Bool → ℕ → ℕ → ℕ → List ℕ
start_bytes format more class n blocks = first_byte format more class n ∷ cond (format_of format).counted (blocks ∷ []) []

abbrev pub gap_bytes : ℕ → List ℕ → List ℕ
gap_bytes format gaps = cond (format_of format).displaced (halves gaps) []

-- an entry's bytes; a group's first gap is its DIS1
unfoldable pub entry_bytes : ℕ → Bool → Group → List ℕ
entry_bytes format more g = start_bytes format more g.class g.length (length g.gaps) ++ gap_bytes format g.gaps

unfoldable pub table_bytes : ℕ → List Group → List ℕ
table_bytes format [] = []
table_bytes format (g ∷ []) = entry_bytes format false g
table_bytes format (g ∷ h ∷ gs) = entry_bytes format true g ++ table_bytes format (h ∷ gs)

-- the frames of a list, one after another
unfoldable pub frames : List ℕ → List Row → List ℕ
frames bytes [] = []
frames bytes (r ∷ rs) = frame_in bytes r ++ frames bytes rs
