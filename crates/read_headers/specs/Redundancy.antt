-- Document 01, "Redundancy": block headers.
use Rattle.std.specs.Prelude.{ℕ, zero, suc, ◌+◌, ◌*◌, ◌/◌, ◌%◌, List, [], ◌∷◌, cond, length, drop, ltb, eqb, Err, Ok, Result}
use Rattle.rtp.specs.declared.refusal.Refusal.{Refusal}
use Rattle.read_headers.specs.declared.redundancy.HeaderSizes.{HeaderSizes}
use Rattle.rtp.specs.declared.refusal.Fault.{Fault}
use Rattle.rtp.specs.declared.refusal.Refusal.TheVariants.{PacketLength, ContentsTruncated}
use Rattle.read_headers.specs.declared.redundancy.Redundant.{Redundant}
use Rattle.read_headers.specs.declared.redundancy.BlockHeader.{BlockHeader}
use Rattle.rtp.specs.Sizes.{max_packet}
use Rattle.rtp.specs.Numbers.{byte_at}
use Rattle.rtp.specs.Refusals.{number}
use Rattle.rtp.specs.Faults.{fault, shifted}

-- the block header at the front of s: F, type 7 bits; with F set, offset 14 bits and length 10 bits
unfoldable pub block_header : List ℕ → Result BlockHeader Refusal
block_header s =
    cond (eqb (length s) 0) (Err ContentsTruncated)
    (cond (ltb (byte_at s 0) 128) (Ok (BlockHeader.Primary (byte_at s 0)))
    (cond (ltb (length s) 4) (Err ContentsTruncated)
    (Ok (BlockHeader.Redundant (record {
      payload_type = byte_at s 0 % 128;
      offset = 64 * byte_at s 1 + byte_at s 2 / 4;
      length = 256 * (byte_at s 2 % 4) + byte_at s 3;
    })))))

-- The answer in numbers: the refusal number or 0, then F, the type, the offset and the length. On refusal all are 0, and the last header has neither offset
-- nor length
pub record BlockNumbers : Type 0 where
  pub refusal : ℕ
  pub follows : ℕ
  pub payload_type : ℕ
  pub offset : ℕ
  pub length : ℕ

abbrev pub block_numbers : Result BlockHeader Refusal → BlockNumbers
block_numbers (Err r) = record { refusal = number r; follows = 0; payload_type = 0; offset = 0; length = 0 }
block_numbers (Ok (BlockHeader.Primary t)) = record { refusal = 0; follows = 0; payload_type = t; offset = 0; length = 0 }
block_numbers (Ok (BlockHeader.Redundant b)) = record { refusal = 0; follows = 1; payload_type = b.payload_type; offset = b.offset; length = b.length }

-- the block headers of a payload: the redundant blocks', then the primary block's type
pub data Headers : Type 0 where
  refused : Fault → Headers
  headers_of : List Redundant → ℕ → Headers

-- a redundant block's header of four bytes, and those after it
abbrev pub prepend : Redundant → Headers → Headers
prepend b (refused f) = refused (shifted 4 f)
prepend b (headers_of bs t) = headers_of (b ∷ bs) t

-- what the block header at the front makes of them, where `next` gives the headers that follow
abbrev pub headers_step : List ℕ → (List ℕ → Headers) → Result BlockHeader Refusal → Headers
headers_step s next (Err r) = refused (fault r)
headers_step s next (Ok (BlockHeader.Primary t)) = headers_of [] t
headers_step s next (Ok (BlockHeader.Redundant b)) = prepend b (next (drop 4 s))

-- by fuel
unfoldable pub headers_by : ℕ → List ℕ → Headers
headers_by zero s = refused (fault ContentsTruncated)
headers_by (suc f) s = headers_step s (λ t. headers_by f t) (block_header s)

-- the block headers at the front of s
unfoldable pub headers : List ℕ → Headers
headers s = headers_by (suc (length s)) s

-- the same of a payload, which is no longer than a packet
unfoldable pub redundancy_headers : List ℕ → Headers
redundancy_headers s = cond (ltb max_packet (length s)) (refused (fault PacketLength)) (headers s)

-- the bytes of the headers, and of the redundant blocks
unfoldable pub headers_size : List Redundant → ℕ
headers_size [] = 1
headers_size (b ∷ bs) = 4 + headers_size bs

unfoldable pub redundant_size : List Redundant → ℕ
redundant_size [] = 0
redundant_size (b ∷ bs) = b.length + redundant_size bs

-- The answer in numbers: the refusal number or 0, the place of the fault, and the two sizes, 0 on refusal
pub record HeadersNumbers : Type 0 where
  pub refusal : ℕ
  pub offset : ℕ
  pub size : ℕ
  pub redundant : ℕ

-- of the code's answer, case by case
abbrev pub headers_read_numbers : Result HeaderSizes Fault → HeadersNumbers
headers_read_numbers (Err f) = record { refusal = number f.refusal; offset = f.offset; size = 0; redundant = 0 }
headers_read_numbers (Ok z) = record { refusal = 0; offset = 0; size = z.size; redundant = z.redundant }

-- of the headers
unfoldable pub headers_numbers : Headers → HeadersNumbers
headers_numbers (refused f) = record { refusal = number f.refusal; offset = f.offset; size = 0; redundant = 0 }
headers_numbers (headers_of bs t) = record { refusal = 0; offset = 0; size = headers_size bs; redundant = redundant_size bs }

-- the code's answer that has them
unfoldable pub headers_answer : Headers → Result HeaderSizes Fault
headers_answer (refused f) = Err f
headers_answer (headers_of bs t) = Ok (record { size = headers_size bs; redundant = redundant_size bs })
