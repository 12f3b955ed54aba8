-- A packet read into rows: `reading` is the whole meaning of a call of `read`, refusals included.
use Rattle.std.specs.Prelude.{ℕ, ◌-◌, List, [], cond, length, take, drop, ltb, eqb, Err, Ok, Result}
use Rattle.rtp.specs.declared.refusal.Refusal.{Refusal}
use Rattle.read_packet.specs.declared.reading.Packet.{Packet}
use Rattle.rtp.specs.Editions.{Edition}
use Rattle.rtp.specs.Sizes.{row_area}
use Rattle.rtp.specs.Ranges.{in_range}
use Rattle.rtp.specs.Refusals.{number}
use Rattle.rtp.specs.Faults.{fault}
use Rattle.read_headers.specs.Header.{header}
use Rattle.rtp.specs.declared.settings.Settings.{Settings}
use Rattle.row_tags.specs.Tags.{primary_mark}
use Rattle.read_headers.specs.declared.header.Header.{Header}
use Rattle.rtp.specs.declared.refusal.Fault.{Fault}
use Rattle.rtp.specs.declared.refusal.Refusal.TheVariants.{UnknownPayloadType, SettingsOutOfRange, AreaTooShort}
use Rattle.read_rows.specs.Rows.{Row, words}
use Rattle.read_payload.specs.Payloads.{Rows, no_rows, rows_of, payload_rows}
use Rattle.read_redundancy.specs.Blocks.{redundant_rows}
use Rattle.read_mode_request.specs.Requests.{typed_request}

-- the payload of a packet: what lies between its headers and its padding
abbrev pub payload_in : List ℕ → Header → List ℕ
payload_in s h = take (h.end - h.start) (drop h.start s)

-- the rows of a payload by the packet's type: the payload type, heard first-hand, the redundancy type, or neither
unfoldable pub typed_rows : Edition → Settings → Header → List ℕ → Rows
typed_rows ed st h p =
    cond (eqb h.payload_type st.payload_type) (payload_rows ed primary_mark st.format st.channels 0 h.timestamp h.start p)
    (cond (eqb h.payload_type st.redundancy_type) (redundant_rows ed st h.timestamp h.start p) (no_rows (fault UnknownPayloadType)))

-- what reading a packet comes to: a fault, its place in the whole packet, or the header, the rows and the mode request
pub data Outcome : Type 0 where
  refused : Fault → Outcome
  read_as : Header → List Row → ℕ → Outcome

abbrev pub outcome_of : Header → ℕ → Rows → Outcome
outcome_of h request (no_rows f) = refused f
outcome_of h request (rows_of rs) = read_as h rs request

-- reading a packet under settings in range
abbrev pub headed_by : Edition → Settings → List ℕ → Result Header Refusal → Outcome
headed_by ed st s (Err r) = refused (fault r)
headed_by ed st s (Ok h) = outcome_of h (typed_request st h.payload_type (payload_in s h)) (typed_rows ed st h (payload_in s h))

-- reading the packet s into an area of so many words
unfoldable pub reading : Edition → Settings → ℕ → List ℕ → Outcome
reading ed st area s =
    cond (in_range ed st)
    (cond (ltb area (row_area ed)) (refused (fault AreaTooShort)) (headed_by ed st s (header s)))
    (refused (fault SettingsOutOfRange))

-- The answer in numbers: the refusal number or 0 and the place of the fault, then row count, M, sequence, timestamp, source and mode request, all 0 on refusal
pub record Numbers : Type 0 where
  pub refusal : ℕ
  pub offset : ℕ
  pub rows : ℕ
  pub marker : ℕ
  pub sequence : ℕ
  pub timestamp : ℕ
  pub source : ℕ
  pub mode_request : ℕ

abbrev pub refused_numbers : Fault → Numbers
refused_numbers f = record { refusal = number f.refusal; offset = f.offset; rows = 0; marker = 0; sequence = 0; timestamp = 0; source = 0; mode_request = 0 }

-- of the code's answer, case by case
abbrev pub reading_numbers : Result Packet Fault → Numbers
reading_numbers (Err f) = refused_numbers f
reading_numbers (Ok p) =
    record { refusal = 0; offset = 0; rows = p.rows; marker = p.marker; sequence = p.sequence; timestamp = p.timestamp; source = p.source; mode_request = p.mode_request }

-- of what reading comes to
unfoldable pub outcome_numbers : Outcome → Numbers
outcome_numbers (refused f) = refused_numbers f
outcome_numbers (read_as h rs request) =
    record { refusal = 0; offset = 0; rows = length rs; marker = h.marker; sequence = h.sequence; timestamp = h.timestamp; source = h.source; mode_request = request }

-- the words written over the front of the row area: none on refusal
unfoldable pub outcome_words : Outcome → List ℕ
outcome_words (refused f) = []
outcome_words (read_as h rs request) = words rs
