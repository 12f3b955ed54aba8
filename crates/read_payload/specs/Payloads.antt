-- A payload read into rows.
use Rattle.std.specs.Prelude.{ℕ, ◌+◌, ◌*◌, ◌/◌, List, [], cond, length, drop, ltb, eqb, Err, Ok, Result}
use Rattle.rtp.specs.Editions.{Edition}
use Rattle.rtp.specs.Sizes.{max_packet, row_width, row_area}
use Rattle.rtp.specs.Numbers.{byte_at}
use Rattle.rtp.specs.Ranges.{in_range}
use Rattle.rtp.specs.Refusals.{number}
use Rattle.rtp.specs.Faults.{fault, shifted}
use Rattle.rtp.specs.declared.settings.Settings.{Settings}
use Rattle.rtp.specs.declared.refusal.Fault.{Fault}
use Rattle.rtp.specs.declared.refusal.Refusal.TheVariants.{PacketLength, SettingsOutOfRange, AreaTooShort}
use Rattle.formats.specs.Formats.{format_of}
use Rattle.formats.specs.Frames.{step_of}
use Rattle.read_contents.specs.Contents.{Contents, refused, groups, contents, pass_first, size_in}
use Rattle.read_rows.specs.Rows.{Row, words, table_rows, marked}
use Rattle.read_rows.specs.Tables.{exact}

-- what follows a payload's header: the table and the frames
abbrev pub body : ℕ → List ℕ → List ℕ
body format s = drop (format_of format).header s

-- where its table starts: after the header. An empty payload is at fault where it would start itself (document 02, P2)
abbrev pub table_start : ℕ → List ℕ → ℕ
table_start format s = cond (eqb (length s) 0) 0 (format_of format).header

-- a table that starts n bytes on
abbrev pub starting_at : ℕ → Contents → Contents
starting_at n (refused f) = refused (shifted n f)
starting_at n (groups gs) = groups gs

-- the payload s after `rows` rows of the same packet; a fault is counted from the payload's front
unfoldable pub payload : Edition → ℕ → ℕ → ℕ → List ℕ → Contents
payload ed format ch rows s =
    starting_at (table_start format s) (exact format ch (length (body format s)) (pass_first (contents ed format ch rows (body format s))))

-- Document 02, P1: a payload header is the byte of the mode request, which is its high half; the low half is ignored. Without a header there is no request.
abbrev pub no_request : ℕ
no_request = 15

unfoldable pub request_of : ℕ → List ℕ → ℕ
request_of format s = cond (eqb (format_of format).header 0) no_request (byte_at s 0 / 16)

-- rows, or why there are none
pub data Rows : Type 0 where
  no_rows : Fault → Rows
  rows_of : List Row → Rows

-- the rows of a payload with this table that stands at `at` in its packet and is heard with this mark: its frames start after its header and its table
unfoldable pub placed_rows : ℕ → ℕ → ℕ → ℕ → ℕ → Contents → Rows
placed_rows mark format ch time at (refused f) = no_rows (shifted at f)
placed_rows mark format ch time at (groups gs) = rows_of (marked mark (table_rows (step_of format) ch time (at + (format_of format).header + size_in format gs) gs))

-- the rows of the payload s that stands at `at` and is heard with this mark
unfoldable pub payload_rows : Edition → ℕ → ℕ → ℕ → ℕ → ℕ → ℕ → List ℕ → Rows
payload_rows ed mark format ch rows time at s = placed_rows mark format ch time at (payload ed format ch rows s)

-- the words of rows that were read: none of a refusal
unfoldable pub rows_words : Rows → List ℕ
rows_words (no_rows f) = []
rows_words (rows_of rs) = words rs

-- The answer in numbers: the refusal number or 0, the place of the fault, and the number of rows, 0 on refusal
pub record PayloadNumbers : Type 0 where
  pub refusal : ℕ
  pub offset : ℕ
  pub rows : ℕ

-- of the code's answer, case by case
abbrev pub payload_numbers : Result ℕ Fault → PayloadNumbers
payload_numbers (Err f) = record { refusal = number f.refusal; offset = f.offset; rows = 0 }
payload_numbers (Ok n) = record { refusal = 0; offset = 0; rows = n }

-- of the rows
unfoldable pub rows_numbers : Rows → PayloadNumbers
rows_numbers (no_rows f) = record { refusal = number f.refusal; offset = f.offset; rows = 0 }
rows_numbers (rows_of rs) = record { refusal = 0; offset = 0; rows = length rs }

-- the code's answer that has them
unfoldable pub rows_answer : Rows → Result ℕ Fault
rows_answer (no_rows f) = Err f
rows_answer (rows_of rs) = Ok (length rs)

-- the payload of a call: the settings are asked first, then the area of so many words for all the rows that a packet may have, then the payload's length
unfoldable pub asked_rows : Edition → ℕ → Settings → ℕ → ℕ → ℕ → ℕ → List ℕ → Rows
asked_rows ed mark st rows area time at s =
    cond (in_range ed st)
    (cond (ltb (row_width * rows + area) (row_area ed)) (no_rows (fault AreaTooShort))
    (cond (ltb max_packet (at + length s)) (no_rows (fault PacketLength))
    (payload_rows ed mark st.format st.channels rows time at s)))
    (no_rows (fault SettingsOutOfRange))
