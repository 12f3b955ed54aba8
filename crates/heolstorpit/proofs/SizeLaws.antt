-- A payload written has at most 2,036 bytes, a packet at most 2,048: the byte count is a word.
use mathlib.Core.Path.{◌≡◌, refl, ap}
use mathlib.Core.List.{List, ◌++◌}
use mathlib.Core.Bool.{false}
use Prim.Native.Nat.{ℕ, ◌≤◌, ◌<◌}
use native.Mathlib.Omega.{arith}
use lib.ListN.{length}
use lib.Dec.{ltb}
use borrow.Author.Tests.{ltb-false}
use Rattle.rtp.specs.Editions.{current}
use Rattle.rtp.specs.Sizes.{max_packet}
use Rattle.rtp.specs.declared.settings.Settings.{Settings}
use Rattle.rtp.proofs.TestLaws.{by-test}
use Rattle.read_contents.specs.Contents.{Contents, refused, groups}
use Rattle.write_plan.specs.Lists.{rows_in, whole, outside}
use Rattle.write_plan.specs.Plans.{max_payload, plan}
use Rattle.write_payload.specs.Writings.{Encoded, no_bytes, bytes_of, planned_bytes, encoded, room_for, writing, encoded_numbers}
use Rattle.write_sizes.specs.Measures.{Numbers}
use Rattle.write_sizes.specs.Asking.{askable}
use Rattle.write_payload.proofs.PayloadLaws.{listed, length_bytes}
use Rattle.write_sizes.proofs.RequestLaws.{asked}
use Rattle.write_payload.proofs.WritingLaws.{in_range_some}
use Rattle.write_parts.specs.Parts.{Parts, no_parts, parts_of, primary_time, parts, counts_fit}
use Rattle.write_packet.specs.Packets.{body_bytes, packet_type, redundancy_missing, within_packet, assembled_from, assembled, sending}
use Rattle.write_parts.specs.Headings.{header_bytes}
use Rattle.write_parts.specs.declared.headers.Heading.{Heading}

abbrev Short : ℕ → Encoded → Type 0
Short m (no_bytes r) = Unit {0}
Short m (bytes_of p) = length p ≤ m

room_short : (m area : ℕ) (x : Encoded) → Short m x → Short m (room_for area x)
room_short m area (no_bytes r) s = tt
room_short m area (bytes_of p) s = by-test (ltb area (length p)) (λ a. rw a tt) (λ a. rw a s)

count_short : (m : ℕ) (n : Numbers) (y : Encoded) → Short m y → n ≡ encoded_numbers y → n.count ≤ m
unfolding encoded_numbers
count_short m n (no_bytes q) s g = let c : n.count ≡ 0 = ap (λ k. k.count) g in omega (arith, c)
count_short m n (bytes_of p) s g = let c : n.count ≡ length p = ap (λ k. k.count) g in omega (arith, c, s)

-- Payloads

encoded_short : (st : Settings) (request : ℕ) (ws bytes : List ℕ) → 0 < st.channels → outside (length bytes) (rows_in ws) ≡ false → Short max_payload (encoded current st request bytes (rows_in ws))
unfolding encoded
encoded_short st request ws bytes l o = by_plan (plan current st.format st.channels (rows_in ws)) refl
  where
    by_plan : (x : Contents) → plan current st.format st.channels (rows_in ws) ≡ x → Short max_payload (planned_bytes st.format request bytes (rows_in ws) x)
    by_plan (refused q) e = tt
    by_plan (groups gs) e = omega (arith, length_bytes current st.format request st.channels ws bytes gs l o e, (listed current st.format st.channels ws gs e).fits)

writing_short : (st : Settings) (request : ℕ) (ws bytes : List ℕ) (area : ℕ) → Short max_payload (writing current st request ws bytes area)
unfolding writing
writing_short st request ws bytes area =
    by-test (askable current st request)
    (λ a. by-test (outside (length bytes) (rows_in ws)) (λ b. rw (a, b) tt)
    (λ b. by-test (whole ws) (λ c. rw (a, b, c) (room_short max_payload area (encoded current st request bytes (rows_in ws)) (encoded_short st request ws bytes (in_range_some current st (asked current st request a).settings) b))) (λ c. rw (a, b, c) tt)))
    (λ a. rw a tt)

pub payload_count_fits : (st : Settings) (request : ℕ) (ws bytes : List ℕ) (area : ℕ) (n : Numbers) → n ≡ encoded_numbers (writing current st request ws bytes area)
    → n.count ≤ max_payload
payload_count_fits st request ws bytes area n = count_short max_payload n (writing current st request ws bytes area) (writing_short st request ws bytes area)

-- Packets

within_short : (q : List ℕ) → Short max_packet (within_packet q)
within_short q = by-test (ltb max_packet (length q)) (λ a. rw a tt) (λ a. rw a (ltb-false max_packet (length q) a))

assembled_short : (st : Settings) (h : Heading) (time : ℕ) (x : Parts) → Short max_packet (assembled_from st h time x)
assembled_short st h time no_parts = tt
assembled_short st h time (parts_of bs p) = by-test (redundancy_missing st bs) (λ a. rw a tt) (λ a. rw a (within_short (header_bytes h (packet_type st bs) time ++ body_bytes st bs p)))

sending_short : (st : Settings) (request : ℕ) (h : Heading) (counts ws bytes : List ℕ) (area : ℕ) → Short max_packet (sending current st request h counts ws bytes area)
unfolding sending assembled
sending_short st request h counts ws bytes area =
    by-test (askable current st request)
    (λ a. by-test (outside (length bytes) (rows_in ws)) (λ b. rw (a, b) tt)
    (λ b. by-test (counts_fit current counts ws) (λ c. rw (a, b, c) (room_short max_packet area (assembled current st request h counts bytes (rows_in ws)) (assembled_short st h (primary_time counts (rows_in ws)) (parts current st request bytes (primary_time counts (rows_in ws)) counts (rows_in ws))))) (λ c. rw (a, b, c) tt)))
    (λ a. rw a tt)

pub packet_count_fits : (st : Settings) (request : ℕ) (h : Heading) (counts ws bytes : List ℕ) (area : ℕ) (n : Numbers)
    → n ≡ encoded_numbers (sending current st request h counts ws bytes area) → n.count ≤ max_packet
packet_count_fits st request h counts ws bytes area n = count_short max_packet n (sending current st request h counts ws bytes area) (sending_short st request h counts ws bytes area)
