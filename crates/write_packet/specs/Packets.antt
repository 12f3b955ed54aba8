-- A packet written: `sending` is the whole meaning of a call of `write_packet`, refusals included.
use Rattle.std.specs.Prelude.{ℕ, List, [], ◌∷◌, ◌++◌, Bool, false, cond, length, ltb, eqb}
use Rattle.rtp.specs.Editions.{Edition}
use Rattle.rtp.specs.Sizes.{max_packet}
use Rattle.rtp.specs.Ranges.{no_redundancy}
use Rattle.rtp.specs.declared.settings.Settings.{Settings}
use Rattle.rtp.specs.declared.refusal.Refusal.TheVariants.{SettingsOutOfRange, RowOutsideBytes, Unwritable}
use Rattle.read_rows.specs.Rows.{Row}
use Rattle.write_plan.specs.Lists.{rows_in, outside}
use Rattle.write_payload.specs.Writings.{Encoded, no_bytes, bytes_of, room_for}
use Rattle.write_sizes.specs.Asking.{askable}
use Rattle.write_parts.specs.Parts.{primary_time, Part, Parts, no_parts, parts_of, parts, counts_fit}
use Rattle.write_parts.specs.Headings.{header_bytes, block_header_bytes}
use Rattle.write_parts.specs.declared.headers.Heading.{Heading}

unfoldable pub headers_bytes : ℕ → List Part → List ℕ
headers_bytes type [] = type ∷ []
headers_bytes type (b ∷ bs) = block_header_bytes type b.offset (length b.bytes) ++ headers_bytes type bs

unfoldable pub blocks_bytes : List Part → List ℕ → List ℕ
blocks_bytes [] p = p
blocks_bytes (b ∷ bs) p = b.bytes ++ blocks_bytes bs p

-- with no redundant list the packet is plain
unfoldable pub body_bytes : Settings → List Part → List ℕ → List ℕ
body_bytes st [] p = p
body_bytes st (b ∷ bs) p = headers_bytes st.payload_type (b ∷ bs) ++ blocks_bytes (b ∷ bs) p

abbrev pub packet_type : Settings → List Part → ℕ
packet_type st [] = st.payload_type
packet_type st (b ∷ bs) = st.redundancy_type

-- redundant lists come with a redundancy type
abbrev pub redundancy_missing : Settings → List Part → Bool
redundancy_missing st [] = false
redundancy_missing st (b ∷ bs) = eqb st.redundancy_type no_redundancy

-- a packet is within 2,048 bytes
abbrev pub within_packet : List ℕ → Encoded
within_packet p = cond (ltb max_packet (length p)) (no_bytes Unwritable) (bytes_of p)

abbrev pub assembled_from : Settings → Heading → ℕ → Parts → Encoded
assembled_from st h time no_parts = no_bytes Unwritable
assembled_from st h time (parts_of bs p) =
    cond (redundancy_missing st bs) (no_bytes Unwritable) (within_packet (header_bytes h (packet_type st bs) time ++ body_bytes st bs p))

unfoldable pub assembled : Edition → Settings → ℕ → Heading → List ℕ → List ℕ → List Row → Encoded
assembled ed st request h counts bytes rs = assembled_from st h (primary_time counts rs) (parts ed st request bytes (primary_time counts rs) counts rs)

-- writing a packet into an area of so many bytes: the order is 11, 14, 13, 12
unfoldable pub sending : Edition → Settings → ℕ → Heading → List ℕ → List ℕ → List ℕ → ℕ → Encoded
sending ed st request h counts ws bytes area =
    cond (askable ed st request)
    (cond (outside (length bytes) (rows_in ws)) (no_bytes RowOutsideBytes)
    (cond (counts_fit ed counts ws) (room_for area (assembled ed st request h counts bytes (rows_in ws))) (no_bytes Unwritable)))
    (no_bytes SettingsOutOfRange)
