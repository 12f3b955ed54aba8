-- Document 02, P2, "Say where": what the answer of reading says of the place at fault, over the definitions that the contracts cite.
use Rattle.std.specs.Prelude.{ℕ, ◌≤◌, ◌≡◌, List, [], ◌∷◌, ◌++◌, length}
use Rattle.rtp.specs.Editions.{Edition, current}
use Rattle.rtp.specs.Sizes.{min_packet, row_area}
use Rattle.rtp.specs.Ranges.{g719, amr, amr_wb}
use Rattle.rtp.specs.Faults.{fault_at, fault}
use Rattle.rtp.specs.declared.settings.Settings.{Settings}
use Rattle.rtp.specs.declared.refusal.Refusal.{Refusal}
use Rattle.rtp.specs.declared.refusal.Refusal.TheVariants.{PaddingCount, UnknownPayloadType, ContentsTruncated, ReservedCode, NoFrameBlocks, TooManyRows, LengthMismatch}
use Rattle.read_packet.specs.Readings.{refused, reading, Numbers, outcome_numbers}
use Rattle.read_claims.specs.CheckedTable.{plain_type, redundancy_type, settings_of, filler}

-- the numbers of the refusals that have a place
abbrev pub Placed : ℕ → Type 0
Placed n = (6 ≤ n) × (n ≤ 10)

-- the answer to a packet s, in numbers
abbrev pub answer : Edition → Settings → ℕ → List ℕ → Numbers
answer ed st area s = outcome_numbers (reading ed st area s)

pub record PlaceClaims (ed : Edition) : Type 0 where
  -- it is a byte of the packet, or its end
  pub inside : (st : Settings) (area : ℕ) (s : List ℕ) → (answer ed st area s).offset ≤ length s
  -- an accepted packet, whose number is 0, and one that is refused for any other reason have none
  pub placeless : (st : Settings) (area : ℕ) (s : List ℕ) → (Placed (answer ed st area s).refusal → ⊥) → (answer ed st area s).offset ≡ 0
  -- it is never in the fixed header
  pub placed : (st : Settings) (area : ℕ) (s : List ℕ) → Placed (answer ed st area s).refusal → min_packet ≤ (answer ed st area s).offset

-- Packets whose payload starts at 16, after a CSRC list of one; at 20, after an extension of one word; and with three bytes of padding

abbrev fronted : ℕ → ℕ → List ℕ → List ℕ
fronted first type rest = first ∷ type ∷ 0 ∷ 1 ∷ 0 ∷ 0 ∷ 0 ∷ 0 ∷ 0 ∷ 0 ∷ 0 ∷ 2 ∷ rest

abbrev pub with_source : ℕ → List ℕ → List ℕ
with_source type payload = fronted 0x81 type (0 ∷ 0 ∷ 0 ∷ 3 ∷ payload)

abbrev pub with_extension : ℕ → List ℕ → List ℕ
with_extension type payload = fronted 0x90 type (0xBE ∷ 0xDE ∷ 0 ∷ 1 ∷ 0 ∷ 0 ∷ 0 ∷ 0 ∷ payload)

abbrev pub with_padding : ℕ → List ℕ → List ℕ
with_padding type payload = fronted 0xA0 type (payload ++ 0 ∷ 0 ∷ 3 ∷ [])

-- a mono packet of this format is refused at this place
abbrev pub RefusedAt : ℕ → List ℕ → ℕ → Refusal → Type 0
RefusedAt format packet n r = reading current (settings_of format 1) (row_area current) packet ≡ refused (fault_at n r)

pub record CheckedPlaces : Type 0 where
  -- 6 of an empty payload is where it would start, in AMR too
  pub empty : RefusedAt g719 (with_source plain_type []) 16 ContentsTruncated × RefusedAt g719 (with_padding plain_type []) 12 ContentsTruncated
  pub empty_amr : RefusedAt amr (with_source plain_type []) 16 ContentsTruncated × RefusedAt amr_wb (with_padding plain_type []) 12 ContentsTruncated
  -- 6 of a missing entry is where it would start: in AMR after the mode byte
  pub missing : RefusedAt g719 (with_source plain_type (0xA0 ∷ 0x01 ∷ [])) 18 ContentsTruncated × RefusedAt g719 (with_padding plain_type (0xA0 ∷ 0x01 ∷ [])) 14 ContentsTruncated
  pub missing_amr : RefusedAt amr (with_extension plain_type (0xF0 ∷ [])) 21 ContentsTruncated × RefusedAt amr (with_extension plain_type (0xF0 ∷ 0xBC ∷ [])) 22 ContentsTruncated
  -- 6 of one cut short, 7, 8 and 9 are its first byte
  pub cut_short : RefusedAt g719 (with_padding plain_type (0xA0 ∷ 0x01 ∷ 0x20 ∷ [])) 14 ContentsTruncated
  pub reserved : RefusedAt g719 (with_extension plain_type (0xA0 ∷ 0x01 ∷ 0x1C ∷ 0x01 ∷ [])) 22 ReservedCode
  pub no_blocks : RefusedAt g719 (with_source plain_type (0xA0 ∷ 0x01 ∷ 0x20 ∷ 0x00 ∷ [])) 18 NoFrameBlocks
  pub too_many : RefusedAt g719 (with_source plain_type (0x80 ∷ 0xFF ∷ 0x80 ∷ 0x82 ∷ 0x00 ∷ 0x01 ∷ [])) 18 TooManyRows
  -- 10 is the first byte after the table
  pub mismatch : RefusedAt g719 (with_padding plain_type (0x20 ∷ 0x01 ∷ filler 79)) 14 LengthMismatch × RefusedAt g719 (with_source plain_type (0x20 ∷ 0x01 ∷ filler 81)) 18 LengthMismatch
  pub mismatch_amr : RefusedAt amr (with_source plain_type (0xF0 ∷ 0x3C ∷ filler 30)) 18 LengthMismatch
  -- a redundancy packet: 6 is the block header that is cut or missing, 10 the first byte after the block headers
  pub cut_header : RefusedAt g719 (with_source redundancy_type (0xE1 ∷ 0x0F ∷ [])) 16 ContentsTruncated × RefusedAt g719 (with_padding redundancy_type (0xE1 ∷ 0x0F ∷ 0x00 ∷ 0x02 ∷ [])) 16 ContentsTruncated
  pub lengths : RefusedAt g719 (with_source redundancy_type (0xE1 ∷ 0x0F ∷ 0x00 ∷ 0x02 ∷ 0x61 ∷ 0x00 ∷ [])) 21 LengthMismatch
  -- in its blocks as in a payload; the first block here has an entry of one frame-block without data
  pub second_block : RefusedAt g719 (with_source redundancy_type (0xE1 ∷ 0x0F ∷ 0x00 ∷ 0x02 ∷ 0x61 ∷ 0x00 ∷ 0x01 ∷ 0x1C ∷ 0x01 ∷ [])) 23 ReservedCode
  pub block_mismatch : RefusedAt g719 (with_source redundancy_type (0xE1 ∷ 0x0F ∷ 0x00 ∷ 0x03 ∷ 0x61 ∷ 0x00 ∷ 0x01 ∷ 0xFF ∷ 0x00 ∷ 0x01 ∷ [])) 23 LengthMismatch
  -- 4 and 5 have no place
  pub elsewhere : (reading current (settings_of g719 1) (row_area current) (with_source 99 []) ≡ refused (fault UnknownPayloadType)) × (reading current (settings_of g719 1) (row_area current) (fronted 0xA0 plain_type (0 ∷ [])) ≡ refused (fault PaddingCount))
