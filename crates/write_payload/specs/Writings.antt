-- A payload written alone: `writing` is the whole meaning of a call of `write_payload`, refusals included.
use Rattle.std.specs.Prelude.{ℕ, List, [], ◌++◌, cond, length, ltb}
use Rattle.rtp.specs.Editions.{Edition}
use Rattle.rtp.specs.Refusals.{number}
use Rattle.rtp.specs.declared.settings.Settings.{Settings}
use Rattle.rtp.specs.declared.refusal.Refusal.{Refusal}
use Rattle.rtp.specs.declared.refusal.Refusal.TheVariants.{SettingsOutOfRange, RowOutsideBytes, Unwritable, AreaTooShort}
use Rattle.read_contents.specs.Contents.{Contents, refused, groups}
use Rattle.read_rows.specs.Rows.{Row}
use Rattle.write_plan.specs.Lists.{rows_in, whole, outside}
use Rattle.write_plan.specs.Plans.{plan}
use Rattle.write_sizes.specs.Asking.{request_bytes, askable}
use Rattle.write_sizes.specs.Measures.{Numbers}
use Rattle.write_payload.specs.Bytes.{table_bytes, frames}

-- bytes to be written, or why there are none
pub data Encoded : Type 0 where
  no_bytes : Refusal → Encoded
  bytes_of : List ℕ → Encoded

abbrev pub planned_bytes : ℕ → ℕ → List ℕ → List Row → Contents → Encoded
planned_bytes format request bytes rs (refused f) = no_bytes f.refusal
planned_bytes format request bytes rs (groups gs) = bytes_of (request_bytes format request ++ (table_bytes format gs ++ frames bytes rs))

-- the canonical payload of a frame list, with this mode request
unfoldable pub encoded : Edition → Settings → ℕ → List ℕ → List Row → Encoded
encoded ed st request bytes rs = planned_bytes st.format request bytes rs (plan ed st.format st.channels rs)

-- the area has room for all the bytes
abbrev pub room_for : ℕ → Encoded → Encoded
room_for area (no_bytes q) = no_bytes q
room_for area (bytes_of p) = cond (ltb area (length p)) (no_bytes AreaTooShort) (bytes_of p)

-- writing a list of so many words into an area of so many bytes: the order is 11, 14, 13, 12
unfoldable pub writing : Edition → Settings → ℕ → List ℕ → List ℕ → ℕ → Encoded
writing ed st request ws bytes area =
    cond (askable ed st request)
    (cond (outside (length bytes) (rows_in ws)) (no_bytes RowOutsideBytes)
    (cond (whole ws) (room_for area (encoded ed st request bytes (rows_in ws))) (no_bytes Unwritable)))
    (no_bytes SettingsOutOfRange)

-- the answer of what writing comes to, in numbers
unfoldable pub encoded_numbers : Encoded → Numbers
encoded_numbers (no_bytes r) = record { refusal = number r; count = 0 }
encoded_numbers (bytes_of p) = record { refusal = 0; count = length p }

-- the bytes written over the front of the area: none on refusal
unfoldable pub encoded_bytes : Encoded → List ℕ
encoded_bytes (no_bytes r) = []
encoded_bytes (bytes_of p) = p
