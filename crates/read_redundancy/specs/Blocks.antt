-- Document 01, "Redundancy": the blocks of a redundancy payload and their rows.
use Rattle.std.specs.Prelude.{ℕ, ◌+◌, ◌-◌, List, [], ◌∷◌, ◌++◌, cond, length, take, drop, ltb, eqb}
use Rattle.rtp.specs.Editions.{Edition}
use Rattle.rtp.specs.Sizes.{max_packet, row_area}
use Rattle.rtp.specs.Ranges.{in_range}
use Rattle.rtp.specs.Time.{difference}
use Rattle.row_tags.specs.Tags.{primary_mark, redundant_mark}
use Rattle.rtp.specs.Faults.{fault_at, fault, shifted}
use Rattle.read_headers.specs.Redundancy.{Headers, refused, headers_of, redundancy_headers, headers_size, redundant_size}
use Rattle.rtp.specs.declared.settings.Settings.{Settings}
use Rattle.rtp.specs.declared.refusal.Refusal.TheVariants.{PacketLength, LengthMismatch, SettingsOutOfRange, AreaTooShort}
use Rattle.read_headers.specs.declared.redundancy.Redundant.{Redundant}
use Rattle.read_rows.specs.Rows.{Row}
use Rattle.read_payload.specs.Payloads.{Rows, no_rows, rows_of, payload_rows}

-- a block: its type, its offset, its place in the packet, its bytes, and whether it is the primary one (document 02, P6)
pub record Block : Type 0 where
  pub type : ℕ
  pub offset : ℕ
  pub at : ℕ
  pub bytes : List ℕ
  pub primary : ℕ

-- the blocks of the bytes d, which stand at `at`, in header order; the primary block has offset 0 and takes all that remains
unfoldable pub cut : List Redundant → ℕ → ℕ → List ℕ → List Block
cut [] type at d = record { type = type; offset = 0; at = at; bytes = d; primary = primary_mark } ∷ []
cut (b ∷ bs) type at d =
    record { type = b.payload_type; offset = b.offset; at = at; bytes = take b.length d; primary = redundant_mark } ∷ cut bs type (at + b.length) (drop b.length d)

-- a block's rows after `done` rows of the packet: none of another type, and none of a block of length 0
unfoldable pub typed_block_rows : Edition → Settings → ℕ → ℕ → Block → Rows
typed_block_rows ed st done time b =
    cond (eqb b.type st.payload_type)
    (cond (eqb (length b.bytes) 0) (rows_of []) (payload_rows ed b.primary st.format st.channels done (difference time b.offset) b.at b.bytes))
    (rows_of [])

abbrev pub prepend_rows : List Row → Rows → Rows
prepend_rows rs (no_rows f) = no_rows f
prepend_rows rs (rows_of qs) = rows_of (rs ++ qs)

-- rows, and those that `next` gives after so many
abbrev pub then_rows : Rows → (ℕ → Rows) → Rows
then_rows (no_rows f) next = no_rows f
then_rows (rows_of rs) next = prepend_rows rs (next (length rs))

-- the blocks' rows, one after another; the first refusal decides
unfoldable pub blocks_rows : Edition → Settings → ℕ → ℕ → List Block → Rows
blocks_rows ed st done time [] = rows_of []
blocks_rows ed st done time (b ∷ bs) = then_rows (typed_block_rows ed st done time b) (λ n. blocks_rows ed st (done + n) time bs)

-- the payload s at `at`, whose block headers are these: their lengths are summed before any block is read, and if they do not add up, the first byte after
-- the block headers is at fault
abbrev pub split_rows : Edition → Settings → ℕ → ℕ → List ℕ → Headers → Rows
split_rows ed st time at s (refused f) = no_rows (shifted at f)
split_rows ed st time at s (headers_of bs type) =
    cond (ltb (length s - headers_size bs) (redundant_size bs)) (no_rows (fault_at (at + headers_size bs) LengthMismatch))
    (blocks_rows ed st 0 time (cut bs type (at + headers_size bs) (drop (headers_size bs) s)))

-- a redundancy payload: all block headers are walked first
unfoldable pub redundant_rows : Edition → Settings → ℕ → ℕ → List ℕ → Rows
redundant_rows ed st time at s = split_rows ed st time at s (redundancy_headers s)

-- the redundancy payload of a call: the settings are asked first, then the area of so many words for all the rows that a packet may have, then the
-- payload's place in its packet
unfoldable pub asked_redundant : Edition → Settings → ℕ → ℕ → ℕ → List ℕ → Rows
asked_redundant ed st area time at s =
    cond (in_range ed st)
    (cond (ltb area (row_area ed)) (no_rows (fault AreaTooShort))
    (cond (ltb max_packet (at + length s)) (no_rows (fault PacketLength))
    (redundant_rows ed st time at s)))
    (no_rows (fault SettingsOutOfRange))
