-- Document 01, "G.719 tables of contents" and "GSM-HR tables", and document 02, P1: frame codes, classes and lengths.
use Rattle.std.specs.Prelude.{ℕ, ◌+◌, ◌-◌, ◌*◌, ◌/◌, ◌%◌, ◌≡◌, ◌⊎◌, Bool, cond, List, [], ◌∷◌, get_or, ltb, eqb, None, Option, Some}
use Rattle.formats.specs.declared.frames.Frame.{Frame}
use Rattle.rtp.specs.Refusals.{number}
use Rattle.rtp.specs.declared.refusal.Refusal.TheVariants.{ReservedCode}
use Rattle.formats.specs.declared.facts.Format.{Format}
use Rattle.formats.specs.declared.facts.FrameTable.{FrameTable}
use Rattle.formats.specs.Formats.{format_of}
pub use Rattle.formats.specs.Formats.{step_of}

-- frame classes, document 01's sorts; the last is the largest
abbrev pub no_data : ℕ
no_data = 0

abbrev pub sound : ℕ
sound = 1

abbrev pub sid : ℕ
sid = 2

-- a damaged frame's class is 4 more
abbrev pub damaged : ℕ
damaged = 4

abbrev pub damaged_sound : ℕ
damaged_sound = damaged + sound

abbrev pub damaged_sid : ℕ
damaged_sid = damaged + sid

abbrev pub max_class : ℕ
max_class = damaged_sid

-- the class of a frame: sound or SID, good or damaged
abbrev pub FrameClass : ℕ → Type 0
FrameClass class = (class ≡ sound) ⊎ ((class ≡ sid) ⊎ ((class ≡ damaged_sound) ⊎ (class ≡ damaged_sid)))

-- the mark of a reserved code
abbrev pub reserved : ℕ
reserved = 65535

-- the frame length of a G.719 code L: 0 is no data, 8 to 22 and 23 to 27 are two arithmetic rows, the others are reserved
unfoldable pub g719_length : ℕ → ℕ
g719_length l =
    cond (eqb l 0) 0
    (cond (ltb l 8) reserved
    (cond (ltb l 23) (80 + 10 * (l - 8))
    (cond (ltb l 28) (240 + 20 * (l - 23)) reserved)))

-- the bytes of a GSM-HR frame
abbrev pub gsm_length : ℕ
gsm_length = 14

-- the frame lengths of AMR's types 0 to 8, the last a SID's; type 15 is no data, the others are reserved
abbrev pub no_data_type : ℕ
no_data_type = 15

abbrev pub amr_lengths : List ℕ
amr_lengths = 12 ∷ 13 ∷ 15 ∷ 17 ∷ 19 ∷ 20 ∷ 26 ∷ 31 ∷ 5 ∷ []

unfoldable pub amr_length : ℕ → ℕ
amr_length type = cond (eqb type no_data_type) 0 (get_or amr_lengths type reserved)

-- .. of AMR-WB's types 0 to 9; types 14 and 15 are no data
abbrev pub amr_wb_lengths : List ℕ
amr_wb_lengths = 17 ∷ 23 ∷ 32 ∷ 36 ∷ 40 ∷ 46 ∷ 50 ∷ 58 ∷ 60 ∷ 5 ∷ []

unfoldable pub amr_wb_length : ℕ → ℕ
amr_wb_length type = cond (eqb type 14) 0 (cond (eqb type no_data_type) 0 (get_or amr_wb_lengths type reserved))

-- the length of a frame type in a frame table. GSM-HR: types 0 and 2 are frames, 7 is no data, the others are reserved
unfoldable pub length_in : FrameTable → ℕ → ℕ
length_in FrameTable.G719 type = g719_length type
length_in FrameTable.GsmHr type = cond (eqb type 0) gsm_length (cond (eqb type 2) gsm_length (cond (eqb type 7) 0 reserved))
length_in FrameTable.Amr type = amr_length type
length_in FrameTable.AmrWb type = amr_wb_length type
length_in FrameTable.Empty type = reserved

-- the frame type of a code: in a graded format it stands above the quality bit, in others it is the code (G.719's L)
abbrev pub type_of : Bool → ℕ → ℕ
type_of graded code = cond graded (code / 2) code

-- in a graded format a frame is damaged where the quality bit is 0: what its class has more
abbrev pub damage_of : Bool → ℕ → ℕ
damage_of graded code = cond graded (cond (eqb (code % 2) 0) damaged 0) 0

-- the class of a good frame of a type that has bytes, where `sidType` is the type that is a SID
abbrev pub good_class : ℕ → ℕ → ℕ
good_class sidType type = cond (eqb type sidType) sid sound

-- a frame of a class and a length
abbrev pub frame : ℕ → ℕ → Option Frame
frame class length = Some (record { class = class; length = length })

-- a code of a class and a length: a reserved one, no data whatever its quality bit, or a frame
abbrev pub coded_frame : ℕ → ℕ → Option Frame
coded_frame class length = cond (eqb length reserved) None (cond (eqb length 0) (frame no_data 0) (frame class length))

-- the frame of a code
unfoldable pub frame_in : Format → ℕ → Option Frame
frame_in f code =
    coded_frame
    (damage_of f.graded code + good_class f.sid (type_of f.graded code))
    (length_in f.table (type_of f.graded code))

abbrev pub frame_of : ℕ → ℕ → Option Frame
frame_of format code = frame_in (format_of format) code

-- The answer in numbers: 0, or the refusal number of a reserved code; then class and length, 0 of a reserved code
pub record CodedNumbers : Type 0 where
  pub refusal : ℕ
  pub class : ℕ
  pub length : ℕ

abbrev pub coded_numbers : Option Frame → CodedNumbers
coded_numbers None = record { refusal = number ReservedCode; class = 0; length = 0 }
coded_numbers (Some f) = record { refusal = 0; class = f.class; length = f.length }
