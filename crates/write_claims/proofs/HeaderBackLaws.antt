-- Laws of a packet's header as it is written: it reads back, and the payload lies after it.
use mathlib.Core.Path.{◌≡◌}
use Rattle.std.specs.Prelude.{Ok}
use mathlib.Core.List.{List, [], ◌++◌}
use Prim.Native.Nat.{ℕ, ◌+◌, ◌-◌, ◌/◌, ◌%◌, ◌^◌, ◌≤◌, ◌<◌}
use native.Mathlib.Omega.{arith}
use lib.ListN.{length}
use lib.Seq.{take_all}
use lib.Dec.{eqb}
use borrow.Author.Tests.{le-ltb}
use Rattle.rtp.specs.Sizes.{min_packet, max_packet}
use Rattle.read_headers.specs.Header.{payload_start, payload_end, fields, header}
use Rattle.read_headers.specs.declared.header.Header.{Header}
use Rattle.rtp.proofs.TestLaws.{by-test}
use Rattle.rtp.proofs.ByteLaws.{two_back, four_back}
use Rattle.read_packet.specs.Readings.{payload_in}
use Rattle.write_parts.specs.Headings.{marker_bit, header_bytes}
use Rattle.write_parts.specs.declared.headers.Heading.{Heading}

marker_back : (m type : ℕ) → type < 128 → (marker_bit m + type) / 128 ≡ marker_bit m / 128
marker_back m type h = by-test (eqb m 0) (λ a. rw a (omega arith)) (λ a. rw a (omega arith))

type_back : (m type : ℕ) → type < 128 → (marker_bit m + type) % 128 ≡ type
type_back m type h = by-test (eqb m 0) (λ a. rw a (omega arith)) (λ a. rw a (omega arith))

-- the header of a packet of n bytes
abbrev pub head_of : Heading → ℕ → ℕ → ℕ → Header
head_of h type time n = record {
  marker = marker_bit h.marker / 128;
  payload_type = type;
  sequence = h.sequence;
  timestamp = time;
  source = h.source;
  start = min_packet;
  end = n;
}

module _ (h : Heading) (type time : ℕ) (body : List ℕ) where
  pub header_back : type < 128 → h.sequence < 2 ^ 16 → time < 2 ^ 32 → h.source < 2 ^ 32 → length (header_bytes h type time ++ body) ≤ max_packet
      → header (header_bytes h type time ++ body) ≡ Ok (head_of h type time (length (header_bytes h type time ++ body)))
  unfolding header payload_start payload_end fields
  header_back t s i o l =
      let n : min_packet ≤ length (header_bytes h type time ++ body) = omega arith in
      rw (le-ltb (length (header_bytes h type time ++ body)) min_packet n, le-ltb max_packet (length (header_bytes h type time ++ body)) l)
      (λ j. Ok (record {
        marker = marker_back h.marker type t j;
        payload_type = type_back h.marker type t j;
        sequence = two_back h.sequence [] s j;
        timestamp = four_back time [] i j;
        source = four_back h.source [] o j;
        start = min_packet;
        end = length (header_bytes h type time ++ body);
      }))

  pub payload_after : payload_in (header_bytes h type time ++ body) (head_of h type time (length (header_bytes h type time ++ body))) ≡ body
  payload_after = take_all (length (header_bytes h type time ++ body) - min_packet) body (omega arith)
