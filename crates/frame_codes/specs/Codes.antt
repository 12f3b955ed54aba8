-- Frame codes for writing: the inverse of a format's frame table.
use Rattle.std.specs.Prelude.{◌≡◌, ℕ, zero, suc, ◌+◌, ◌*◌, ◌/◌, ◌%◌, ◌^◌, Bool, false, cond, ltb, eqb, None, Option, Some}
use Rattle.formats.specs.declared.frames.Frame.{Frame}
use Rattle.rtp.specs.Ranges.{amr, amr_wb}
use Rattle.formats.specs.declared.facts.Format.{Format}
use Rattle.formats.specs.declared.facts.FrameTable.{FrameTable}
use Rattle.formats.specs.Formats.{g719_format, gsm_format, amr_format, amr_wb_format, format_of}
use Rattle.formats.specs.Frames.{no_data, no_data_type, sound, sid, damaged, damaged_sound, damaged_sid, length_in, good_class, frame_in}
pub use Rattle.formats.specs.Formats.{no_code}

-- a code that was found, or no code
abbrev pub code_or_none : Option ℕ → ℕ
code_or_none None = no_code
code_or_none (Some code) = code

-- a code stands for a frame of this class and length
abbrev pub is_frame : ℕ → ℕ → Option Frame → Bool
is_frame class n None = false
is_frame class n (Some f) = cond (eqb f.class class) (eqb f.length n) false

-- the highest code below k that stands for a frame of this class and length, or none
unfoldable pub code_below : Format → ℕ → ℕ → ℕ → ℕ
code_below f class n zero = no_code
code_below f class n (suc k) = cond (is_frame class n (frame_in f k)) k (code_below f class n k)

-- .. of all codes
abbrev pub highest_code : Format → ℕ → ℕ → ℕ
highest_code f class n = code_below f class n f.codes

-- .. by the frame table alone
abbrev pub table_code : FrameTable → ℕ → ℕ → ℕ
table_code FrameTable.G719 class n = highest_code (g719_format false) class n
table_code FrameTable.GsmHr class n = highest_code gsm_format class n
table_code FrameTable.Amr class n = highest_code amr_format class n
table_code FrameTable.AmrWb class n = highest_code amr_wb_format class n
table_code FrameTable.Empty class n = no_code

-- the code of a class and a length; a class and a length that the format has not have none
unfoldable pub code_for : ℕ → ℕ → ℕ → ℕ
code_for format class n = highest_code (format_of format) class n

-- Document 02, P1: no data of AMR and AMR-WB is written as type 15 with the quality bit set
abbrev pub NoDataCodes : Type 0
NoDataCodes = (code_for amr no_data 0 ≡ 2 * no_data_type + 1) × (code_for amr_wb no_data 0 ≡ 2 * no_data_type + 1)

-- How the code finds the codes of AMR and AMR-WB: each length is that of one type at most, but for no data

-- the longest frames
abbrev pub amr_longest : ℕ
amr_longest = 31

abbrev pub amr_wb_longest : ℕ
amr_wb_longest = 60

-- no type: over every type
abbrev pub no_type : ℕ
no_type = 16

-- the highest type below k that has this length, or none
unfoldable pub type_below : FrameTable → ℕ → ℕ → ℕ
type_below t n zero = no_type
type_below t n (suc k) = cond (eqb (length_in t k) n) k (type_below t n k)

-- .. of all types
abbrev pub type_for : FrameTable → ℕ → ℕ
type_for t n = type_below t n no_type

-- the code of a type and a class, where `sidType` is the type that is a SID
unfoldable pub graded_code : ℕ → ℕ → ℕ → ℕ
graded_code sidType type class =
    cond (eqb type no_type) no_code
    (cond (eqb type no_data_type) (cond (eqb class no_data) (2 * no_data_type + 1) no_code)
    (cond (eqb class (good_class sidType type)) (2 * type + 1)
    (cond (eqb class (good_class sidType type + damaged)) (2 * type) no_code)))

-- How the code asks whether there is one: the lengths of a class as the bits of a word, `sounds` those of sound; a SID has 5 bytes
abbrev pub sid_bits : ℕ
sid_bits = 2 ^ 5

unfoldable pub length_bits : ℕ → ℕ → ℕ
length_bits sounds class =
    cond (eqb class no_data) 1
    (cond (eqb class sound) sounds
    (cond (eqb class damaged_sound) sounds
    (cond (eqb class sid) sid_bits
    (cond (eqb class damaged_sid) sid_bits 0))))

unfoldable pub has_length : ℕ → ℕ → ℕ → Bool
has_length sounds class n = cond (ltb n 64) (eqb (length_bits sounds class / 2 ^ n % 2) 1) false

-- the lengths of the types below k as such a word; of a table's sound they are those of the types below the SID's, where there are such types
abbrev pub lengths_below : FrameTable → ℕ → ℕ
lengths_below t zero = 0
lengths_below t (suc k) = 2 ^ length_in t k + lengths_below t k

unfoldable pub sound_bits : FrameTable → ℕ
sound_bits FrameTable.G719 = 0
sound_bits FrameTable.GsmHr = 0
sound_bits FrameTable.Amr = lengths_below FrameTable.Amr amr_format.sid
sound_bits FrameTable.AmrWb = lengths_below FrameTable.AmrWb amr_wb_format.sid
sound_bits FrameTable.Empty = 0
