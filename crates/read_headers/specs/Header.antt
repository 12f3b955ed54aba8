-- Document 01, "The RTP header".
use Rattle.std.specs.Prelude.{ℕ, ◌+◌, ◌-◌, ◌*◌, ◌/◌, ◌%◌, List, cond, length, ltb, eqb, Err, Ok, Result}
use Rattle.rtp.specs.declared.refusal.Refusal.{Refusal}
use Rattle.rtp.specs.declared.refusal.Refusal.TheVariants.{PacketLength, Version, HeaderTruncated, PaddingCount}
use Rattle.read_headers.specs.declared.header.Header.{Header}
use Rattle.rtp.specs.Sizes.{min_packet, max_packet}
use Rattle.rtp.specs.Numbers.{byte_at, be16, be32}
use Rattle.rtp.specs.Refusals.{number}

-- the end of the CSRC list (CC entries of four bytes after the fixed header)
abbrev pub csrc_end : List ℕ → ℕ
csrc_end s = min_packet + 4 * (byte_at s 0 % 16)

-- the end of the extension that follows it: two bytes passed over, a 16-bit count, and that many 32-bit words
abbrev pub extension_end : List ℕ → ℕ
extension_end s = csrc_end s + 4 + 4 * be16 s (csrc_end s + 2)

-- where the payload starts: after the CSRC list and, with X set, the extension
unfoldable pub payload_start : List ℕ → Result ℕ Refusal
payload_start s =
    cond (ltb (length s) (csrc_end s)) (Err HeaderTruncated)
    (cond (eqb (byte_at s 0 / 16 % 2) 0) (Ok (csrc_end s))
    (cond (ltb (length s) (csrc_end s + 4)) (Err HeaderTruncated)
    (cond (ltb (length s) (extension_end s)) (Err HeaderTruncated) (Ok (extension_end s)))))

-- where it ends: with P set, as many bytes before the end as the packet's last byte says
unfoldable pub payload_end : List ℕ → ℕ → Result ℕ Refusal
payload_end s start =
    cond (eqb (byte_at s 0 / 32 % 2) 0) (Ok (length s))
    (cond (eqb (byte_at s (length s - 1)) 0) (Err PaddingCount)
    (cond (ltb (length s - start) (byte_at s (length s - 1))) (Err PaddingCount) (Ok (length s - byte_at s (length s - 1)))))

-- M, type, sequence, timestamp and source
unfoldable pub fields : List ℕ → ℕ → ℕ → Header
fields s start end = record {
  marker = byte_at s 1 / 128;
  payload_type = byte_at s 1 % 128;
  sequence = be16 s 2;
  timestamp = be32 s 4;
  source = be32 s 8;
  start = start;
  end = end;
}

-- the payload ends at a place, or is refused
abbrev pub ended_at : List ℕ → ℕ → Result ℕ Refusal → Result Header Refusal
ended_at s start (Err r) = Err r
ended_at s start (Ok end) = Ok (fields s start end)

-- the payload starts at a place, or is refused
abbrev pub started_at : List ℕ → Result ℕ Refusal → Result Header Refusal
started_at s (Err r) = Err r
started_at s (Ok start) = ended_at s start (payload_end s start)

-- the header of the packet s
unfoldable pub header : List ℕ → Result Header Refusal
header s =
    cond (ltb (length s) min_packet) (Err PacketLength)
    (cond (ltb max_packet (length s)) (Err PacketLength)
    (cond (eqb (byte_at s 0 / 64) 2) (started_at s (payload_start s)) (Err Version)))

-- The answer in numbers: the refusal number or 0, and the header's fields, all 0 on refusal
pub record HeaderNumbers : Type 0 where
  pub refusal : ℕ
  pub fields : Header

abbrev pub no_fields : Header
no_fields = record { marker = 0; payload_type = 0; sequence = 0; timestamp = 0; source = 0; start = 0; end = 0 }

abbrev pub header_numbers : Result Header Refusal → HeaderNumbers
header_numbers (Err r) = record { refusal = number r; fields = no_fields }
header_numbers (Ok h) = record { refusal = 0; fields = h }
