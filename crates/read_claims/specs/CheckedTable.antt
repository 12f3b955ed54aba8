-- Document 01, "Checked table", lines 1 to 7: one claim over the definitions that the contracts cite.
use Rattle.std.specs.Prelude.{ℕ, ◌/◌, ◌%◌, ◌^◌, ◌≡◌, List, [], ◌∷◌, ◌++◌, length, replicate, Err, Ok}
use Rattle.rtp.specs.Editions.{current}
use Rattle.rtp.specs.Sizes.{row_area}
use Rattle.rtp.specs.Ranges.{g719, g719_interleaved, gsm_hr}
use Rattle.rtp.specs.Time.{difference}
use Rattle.read_headers.specs.Redundancy.{block_header, headers_of, redundancy_headers}
use Rattle.rtp.specs.Refusals.{number}
use Rattle.rtp.specs.Faults.{fault_at}
use Rattle.rtp.specs.declared.settings.Settings.{Settings}
use Rattle.rtp.specs.declared.refusal.Refusal.TheVariants.{ReservedCode}
use Rattle.read_headers.specs.declared.redundancy.Redundant.{Redundant}
use Rattle.read_headers.specs.declared.redundancy.BlockHeader.{BlockHeader}
use Rattle.formats.specs.Frames.{g719_length, no_data, sound}
use Rattle.read_contents.specs.Contents.{entry_of}
use Rattle.row_tags.specs.Tags.{primary_mark, redundant_mark}
use Rattle.read_rows.specs.Rows.{Row, with_mark}
use Rattle.read_payload.specs.Payloads.{Rows, no_rows, rows_of}
use Rattle.read_packet.specs.Readings.{Outcome, refused, read_as, reading}

-- the payload type and the redundancy type of the examples
abbrev pub plain_type : ℕ
plain_type = 97

abbrev pub redundancy_type : ℕ
redundancy_type = 98

abbrev pub settings_of : ℕ → ℕ → Settings
settings_of format channels = record { format = format; channels = channels; payload_type = plain_type; redundancy_type = redundancy_type }

-- a packet with no CSRC list, extension or padding
abbrev pub packet_of : ℕ → ℕ → List ℕ → List ℕ
packet_of type time payload =
    0x80 ∷ type ∷ 0 ∷ 1 ∷ (time / 2 ^ 24) ∷ (time / 2 ^ 16 % 256) ∷ (time / 2 ^ 8 % 256) ∷ (time % 256) ∷ 0 ∷ 0 ∷ 0 ∷ 2 ∷ payload

-- the frames' own bytes, which reading passes over
abbrev pub filler : ℕ → List ℕ
filler n = replicate n 0

-- the rows that reading came to, or its refusal
abbrev pub rows_read : Outcome → Rows
rows_read (refused f) = no_rows f
rows_read (read_as h rs request) = rows_of rs

-- the rows of a packet with this type, time and payload
abbrev pub packet_rows : ℕ → ℕ → ℕ → ℕ → List ℕ → Rows
packet_rows format channels type time payload = rows_read (reading current (settings_of format channels) (row_area current) (packet_of type time payload))

-- a row heard first-hand, and one of a redundant block
abbrev pub row : ℕ → ℕ → ℕ → ℕ → ℕ → Row
row time class channel start length = record { time = time; class = class; channel = channel; start = start; length = length; primary = primary_mark }

-- the payloads of the table
abbrev pub mixed_lengths : List ℕ
mixed_lengths = 0xA0 ∷ 0x02 ∷ 0x30 ∷ 0x01 ∷ filler 280

abbrev pub stereo : List ℕ
stereo = 0x20 ∷ 0x02 ∷ filler 320

abbrev pub interleaved : List ℕ
interleaved = 0x20 ∷ 0x04 ∷ 0x04 ∷ 0x44 ∷ filler 320

abbrev pub two_blocks : List ℕ
two_blocks = 0x20 ∷ 0x02 ∷ filler 160

-- one frame-block, in 82 bytes
abbrev pub one_block : List ℕ
one_block = 0x20 ∷ 0x01 ∷ filler 80

abbrev pub block_headers : List ℕ
block_headers = 0xE1 ∷ 0x0F ∷ 0x00 ∷ 0x52 ∷ 0x61 ∷ []

abbrev pub redundant_block : Redundant
redundant_block = record { payload_type = 97; offset = 960; length = 82 }

abbrev pub gsm_frames : List ℕ
gsm_frames = 0x80 ∷ 0xF0 ∷ 0x00 ∷ filler 28

-- lines 1 to 7; the entries 1C 01 and 70 01 have L = 7 and L = 28
pub record CheckedTable : Type 0 where
  -- 1. L = 8, 22, 23, 27: 80, 220, 240, 320 bytes. L = 7, 28: refusal 7.
  pub frame_lengths : (g719_length 8 ≡ 80) × (g719_length 22 ≡ 220) × (g719_length 23 ≡ 240) × (g719_length 27 ≡ 320)
  pub reserved_entries : (entry_of g719 (0x1C ∷ 0x01 ∷ []) ≡ Err ReservedCode) × (entry_of g719 (0x70 ∷ 0x01 ∷ []) ≡ Err ReservedCode)
  pub reserved_packets : (packet_rows g719 1 plain_type 0 (0x1C ∷ 0x01 ∷ []) ≡ no_rows (fault_at 12 ReservedCode)) × (packet_rows g719 1 plain_type 0 (0x70 ∷ 0x01 ∷ []) ≡ no_rows (fault_at 12 ReservedCode))
  pub reserved_number : number ReservedCode ≡ 7
  -- 2. Kind 1, mono, A0 02 30 01 and 280 bytes (284 in all): lengths 80, 80, 120.
  pub mixed_size : length mixed_lengths ≡ 284
  pub mixed_rows : packet_rows g719 1 plain_type 0 mixed_lengths ≡ rows_of (row 0 sound 0 16 80 ∷ row 960 sound 0 96 80 ∷ row 1920 sound 0 176 120 ∷ [])
  -- 3. Kind 1, stereo, 20 02 and 320 bytes (322): four rows, channels 0, 1, 0, 1.
  pub stereo_size : length stereo ≡ 322
  pub stereo_rows : packet_rows g719 2 plain_type 0 stereo ≡ rows_of (row 0 sound 0 14 80 ∷ row 0 sound 1 94 80 ∷ row 960 sound 0 174 80 ∷ row 960 sound 1 254 80 ∷ [])
  -- 4. Kind 2, mono, 20 04 04 44 and 320 bytes: times 0, 4800, 9600, 14400 from the first.
  pub interleaved_rows : packet_rows g719_interleaved 1 plain_type 0 interleaved ≡ rows_of (row 0 sound 0 16 80 ∷ row 4800 sound 0 96 80 ∷ row 9600 sound 0 176 80 ∷ row 14400 sound 0 256 80 ∷ [])
  -- 5. Kind 1 at time 4294966336, two frame-blocks: 4294966336, then 0.
  pub wrapped_rows : packet_rows g719 1 plain_type 4294966336 two_blocks ≡ rows_of (row 4294966336 sound 0 14 80 ∷ row 0 sound 0 94 80 ∷ [])
  -- 6. Block header E1 0F 00 52, then 61: type 97, offset 960, length 82; at packet time 0 the redundant time is 4294966336.
  pub block_header_lem : block_header block_headers ≡ Ok (BlockHeader.Redundant redundant_block)
  pub block_headers_lem : redundancy_headers block_headers ≡ headers_of (redundant_block ∷ []) 97
  pub redundant_time : difference 0 960 ≡ 4294966336
  pub redundant_rows_lem : packet_rows g719 1 redundancy_type 0 (block_headers ++ one_block ++ one_block) ≡ rows_of (with_mark redundant_mark (row 4294966336 sound 0 19 80) ∷ row 0 sound 0 101 80 ∷ [])
  -- 7. Kind 3, 80 F0 00 and 28 bytes: lengths 14, 0, 14 at 0, 160, 320.
  pub gsm_rows : packet_rows gsm_hr 1 plain_type 0 gsm_frames ≡ rows_of (row 0 sound 0 15 14 ∷ row 160 no_data 0 29 0 ∷ row 320 sound 0 29 14 ∷ [])
