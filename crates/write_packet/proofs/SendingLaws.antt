-- Laws of a packet's bytes, of their number, and of its refusals.
use mathlib.Core.Path.{◌≡◌, refl, ap, sym, ◌∙◌, subst}
use mathlib.Core.List.{List, [], ◌∷◌, ◌++◌}
use mathlib.Core.Bool.{true, false}
use Prim.Native.Nat.{ℕ, ◌+◌, ◌-◌, ◌*◌, ◌≤◌, ◌<◌}
use native.Mathlib.Omega.{arith}
use lib.ListN.{length, length-append}
use lib.Dec.{ltb, eqb}
use borrow.Author.Tests.{lt-ltb, le-ltb, ltb-false, eqb-true, eqb-false}
use Rattle.rtp.specs.Editions.{Edition}
use Rattle.rtp.specs.Sizes.{min_packet, max_packet, row_width}
use Rattle.rtp.specs.Ranges.{no_redundancy}
use Rattle.rtp.specs.declared.settings.Settings.{Settings}
use Rattle.rtp.specs.declared.refusal.Refusal.TheVariants.{SettingsOutOfRange, AreaTooShort, Unwritable, RowOutsideBytes}
use Rattle.rtp.proofs.TestLaws.{by-test, not-both}
use Rattle.read_rows.specs.Rows.{rows_in}
use Rattle.write_plan.specs.Lists.{outside}
use Rattle.write_payload.specs.Writings.{Encoded, no_bytes, bytes_of, room_for, encoded_numbers, encoded_bytes}
use Rattle.write_sizes.specs.Measures.{Numbers}
use Rattle.write_sizes.specs.Asking.{askable}
use Rattle.write_sizes.proofs.RequestLaws.{asked}
use Rattle.write_parts.specs.Parts.{max_redundant, total, primary_time, Part, Parts, no_parts, parts_of, parts, counts_fit}
use Rattle.write_parts.specs.Headings.{header_bytes}
use Rattle.write_parts.specs.declared.headers.Heading.{Heading}
use Rattle.write_packet.specs.Packets.{headers_bytes, blocks_bytes, body_bytes, packet_type, redundancy_missing, within_packet, assembled_from, assembled, sending}
use Rattle.write_parts.specs.ListSizes.{Counted, lists_numbers, within_numbers, packet_numbers}
use Rattle.write_packet.specs.Room.{lists_headers, lists_payloads, list_headers_size, PayloadsRoom, BlocksRoom, BytesRoom, PacketRoom}
use Rattle.write_packet.proofs.ListBytesLaws.{length_headers}
use Rattle.rtp.proofs.RefusalLaws.{number_some}
use Rattle.rtp.proofs.RangeLaws.{ranged}
use Rattle.write_packet.proofs.ListPartLaws.{none_numbers, bytes_numbers, parts_size, Agrees, agrees}

-- How many bytes

headers_length : (type : ℕ) (bs : List Part) → length (headers_bytes type bs) ≡ 1 + 4 * length bs
unfolding headers_bytes
headers_length type [] = refl
headers_length type (b ∷ bs) = omega (arith, headers_length type bs)

blocks_length : (bs : List Part) (p : List ℕ) → length (blocks_bytes bs p) + 4 * length bs ≡ parts_size bs p
unfolding blocks_bytes
blocks_length [] p = omega arith
blocks_length (b ∷ bs) p = omega (arith, length-append b.bytes (blocks_bytes bs p), blocks_length bs p)

body_length : (type : ℕ) (bs : List Part) (p : List ℕ) → length (headers_bytes type bs ++ blocks_bytes bs p) ≡ 1 + parts_size bs p
body_length type bs p = omega (arith, length-append (headers_bytes type bs) (blocks_bytes bs p), headers_length type bs, blocks_length bs p)

within_numbers_lem : (x : List ℕ) (k : ℕ) → length x ≡ k → encoded_numbers (within_packet x) ≡ within_numbers k
within_numbers_lem x k e =
    subst (λ (n : ℕ). encoded_numbers (within_packet x) ≡ within_numbers n) e
    (by-test (ltb max_packet (length x)) (λ a. rw a (none_numbers Unwritable)) (λ a. rw a (bytes_numbers x)))

module _ (ed : Edition) (st : Settings) (request : ℕ) (h : Heading) (time : ℕ) (bytes counts ws : List ℕ) where
  pub assembled_numbers : (x : Parts) → Agrees ed st request bytes time counts ws x → encoded_numbers (assembled_from st h time x) ≡ packet_numbers st (length counts) (lists_numbers ed st time counts ws)
  unfolding body_bytes
  assembled_numbers no_parts d = rw d (none_numbers Unwritable)
  assembled_numbers (parts_of [] p) d =
      rw (d.sizes, d.many) (within_numbers_lem (header_bytes h st.payload_type time ++ p) (min_packet + length p) (omega arith))
  assembled_numbers (parts_of (b ∷ bs) p) d =
      let body = headers_bytes st.payload_type (b ∷ bs) ++ blocks_bytes (b ∷ bs) p in
      rw (d.sizes, le-ltb (length counts) 2 (omega (arith, d.many)))
      (by-test (eqb st.redundancy_type no_redundancy)
      (λ a. rw a (none_numbers Unwritable))
      (λ a. rw a (within_numbers_lem (header_bytes h st.redundancy_type time ++ body) (min_packet + 1 + parts_size (b ∷ bs) p) (omega (arith, body_length st.payload_type (b ∷ bs) p)))))

-- Where the bytes go

within_room : (x : List ℕ) (area : ℕ) → BytesRoom (within_packet x) area → (within_packet x ≡ bytes_of x) × (length x ≤ area)
within_room x area r = by-test (ltb max_packet (length x)) (λ a. absurd (rw a at r)) (λ a. (rw a, rw a at r))

all_bytes : (x : Encoded) (p : List ℕ) → x ≡ bytes_of p → encoded_bytes x ≡ p
unfolding encoded_bytes
all_bytes x p e = ap (λ (y : Encoded). encoded_bytes y) e

-- a packet x of one list, and of more
pub record Plain (ed : Edition) (st : Settings) (request : ℕ) (h : Heading) (time : ℕ) (bytes counts ws : List ℕ) (area : ℕ) (x : Encoded) : Type 0 where
  pub room : min_packet ≤ area
  pub payloads : PayloadsRoom ed st request bytes counts ws (area - min_packet)
  pub packet : encoded_bytes x ≡ header_bytes h st.payload_type time ++ lists_payloads ed st request bytes counts ws

pub record Redundant (ed : Edition) (st : Settings) (request : ℕ) (h : Heading) (time : ℕ) (bytes counts ws : List ℕ) (area : ℕ) (x : Encoded) : Type 0 where
  pub type : st.redundancy_type < 128
  pub room : min_packet ≤ area
  pub blocks : BlocksRoom ed st request time bytes counts ws (list_headers_size (length counts)) (area - min_packet)
  pub packet : encoded_bytes x ≡ header_bytes h st.redundancy_type time ++ (lists_headers ed st request time bytes counts ws ++ lists_payloads ed st request bytes counts ws)

module _ (ed : Edition) (st : Settings) (request : ℕ) (h : Heading) (time : ℕ) (bytes counts ws : List ℕ) (area : ℕ) (r : PacketRoom ed st request h time bytes counts ws area) where
  it : Agrees ed st request bytes time counts ws (parts ed st request bytes time counts (rows_in ws))
  it = agrees ed st request bytes time (asked ed st request r.settings).settings counts ws r.some r.counted r.inside

  payloads_room : (n : ℕ) → length (lists_payloads ed st request bytes counts ws) ≤ n → PayloadsRoom ed st request bytes counts ws n
  payloads_room n l = record { settings = r.settings; inside = r.inside; counted = r.counted; room = l }

  plain_parts : length counts < 2 → (x : Parts) → Agrees ed st request bytes time counts ws x → BytesRoom (assembled_from st h time x) area → Plain ed st request h time bytes counts ws area (assembled_from st h time x)
  unfolding body_bytes blocks_bytes
  plain_parts n no_parts d b = absurd b
  plain_parts n (parts_of [] p) d b =
      let w = within_room (header_bytes h st.payload_type time ++ p) area b in
      let l = ap (λ (s : List ℕ). length s) d.payloads in
      record {
        room = omega (arith, w.1);
        payloads = payloads_room (area - min_packet) (omega (arith, w.1));
        packet = all_bytes _ _ w.0 ∙ ap (λ (s : List ℕ). header_bytes h st.payload_type time ++ s) (sym d.payloads);
      }
  plain_parts n (parts_of (c ∷ cs) p) d b = absurd (omega (arith, d.many))

  pub plain_packet : length counts < 2 → Plain ed st request h time bytes counts ws area (assembled_from st h time (parts ed st request bytes time counts (rows_in ws)))
  plain_packet n = plain_parts n (parts ed st request bytes time counts (rows_in ws)) it r.room

  redundant_parts : 2 ≤ length counts → (x : Parts) → Agrees ed st request bytes time counts ws x → BytesRoom (assembled_from st h time x) area → Redundant ed st request h time bytes counts ws area (assembled_from st h time x)
  unfolding body_bytes
  redundant_parts n no_parts d b = absurd b
  redundant_parts n (parts_of [] p) d b = absurd (omega (arith, d.many))
  redundant_parts n (parts_of (c ∷ cs) p) d b =
      by-test (eqb st.redundancy_type no_redundancy)
      (λ a. absurd (rw a at b))
      (λ a.
      let body = headers_bytes st.payload_type (c ∷ cs) ++ blocks_bytes (c ∷ cs) p in
      let w = within_room (header_bytes h st.redundancy_type time ++ body) area (rw a at b) in
      let e : body ≡ lists_headers ed st request time bytes counts ws ++ lists_payloads ed st request bytes counts ws = rw (d.heads, d.payloads) in
      let l = ap (λ (s : List ℕ). length s) e in
      let s = length-append (lists_headers ed st request time bytes counts ws) (lists_payloads ed st request bytes counts ws) in
      let k = length_headers ed st request time bytes counts ws in
      record {
        type = ((ranged ed st (asked ed st request r.settings).settings).redundant a).0;
        room = omega (arith, w.1);
        blocks = record {
          fit = d.fit;
          apart = omega arith;
          inside = omega (arith, w.1);
          payloads = payloads_room (area - min_packet - list_headers_size (length counts)) (omega (arith, w.1));
        };
        packet = rw a (all_bytes _ _ w.0 ∙ ap (λ (s : List ℕ). header_bytes h st.redundancy_type time ++ s) e);
      })

  pub redundant_packet : 2 ≤ length counts → Redundant ed st request h time bytes counts ws area (assembled_from st h time (parts ed st request bytes time counts (rows_in ws)))
  redundant_packet n = redundant_parts n (parts ed st request bytes time counts (rows_in ws)) it r.room

-- Refusals

pub record Fitting (counts ws : List ℕ) : Type 0 where
  pub some : 0 < length counts
  pub few : length counts ≤ max_redundant + 1
  pub counted : Counted counts ws

pub fitting : (ed : Edition) (counts ws : List ℕ) → counts_fit ed counts ws ≡ true → Fitting counts ws
fitting ed counts ws h =
    by-test (eqb (length counts) 0) (λ a. not-both false (rw a at h) refl)
    (λ a. by-test (ltb (max_redundant + 1) (length counts)) (λ b. not-both false (rw (a, b) at h) refl)
    (λ b. by-test (eqb (length ws) (row_width * total counts))
    (λ d. record {
      some = omega (arith, eqb-false (length counts) 0 a);
      few = ltb-false (max_redundant + 1) (length counts) b;
      counted = eqb-true (length ws) (row_width * total counts) d;
    })
    (λ d. not-both false (rw (a, b, d) at h) refl)))

pub sending_out : (ed : Edition) (st : Settings) (request : ℕ) (h : Heading) (counts ws bytes : List ℕ) (area : ℕ) → askable ed st request ≡ false → sending ed st request h counts ws bytes area ≡ no_bytes SettingsOutOfRange
unfolding sending
sending_out ed st request h counts ws bytes area i = rw i

module _ (ed : Edition) (st : Settings) (request : ℕ) (h : Heading) (counts ws bytes : List ℕ) (area : ℕ) (i : askable ed st request ≡ true) where
  pub sending_outside : outside (length bytes) (rows_in ws) ≡ true → sending ed st request h counts ws bytes area ≡ no_bytes RowOutsideBytes
  unfolding sending
  sending_outside o = rw (i, o)

  module _ (o : outside (length bytes) (rows_in ws) ≡ false) where
    pub sending_unfit : counts_fit ed counts ws ≡ false → sending ed st request h counts ws bytes area ≡ no_bytes Unwritable
    unfolding sending
    sending_unfit f = rw (i, o, f)

    pub sending_fit : counts_fit ed counts ws ≡ true → (time : ℕ) → time ≡ primary_time counts (rows_in ws)
        → sending ed st request h counts ws bytes area ≡ room_for area (assembled_from st h time (parts ed st request bytes time counts (rows_in ws)))
    unfolding sending assembled
    sending_fit f time e = rw (i, o, f, e)

-- a packet that is refused
pub refused_packet : (st : Settings) (h : Heading) (time : ℕ) (x : Parts) → eqb (encoded_numbers (assembled_from st h time x)).refusal 0 ≡ false → assembled_from st h time x ≡ no_bytes Unwritable
refused_packet st h time no_parts e = refl
refused_packet st h time (parts_of bs p) e =
    by-test (redundancy_missing st bs) (λ a. rw a)
    (λ a.
    let body = header_bytes h (packet_type st bs) time ++ body_bytes st bs p in
    by-test (ltb max_packet (length body)) (λ b. rw (a, b))
    (λ b. not-both false (sym (rw (a, b, bytes_numbers body) at e)) refl))

-- and one of k bytes
one_number : (x : Encoded) (k : ℕ) → encoded_numbers x ≡ record { refusal = 0; count = k } → (p : List ℕ) × (x ≡ bytes_of p) × (length p ≡ k)
one_number (no_bytes q) k e = not-both true refl (ap (λ (n : Numbers). eqb n.refusal 0) (sym e ∙ none_numbers q) ∙ number_some q)
one_number (bytes_of p) k e = (p, refl, ap (λ (n : Numbers). n.count) (sym (bytes_numbers p) ∙ e))

module _ (x : Encoded) (k area : ℕ) (e : encoded_numbers x ≡ record { refusal = 0; count = k }) where
  pub packet_short : area < k → room_for area x ≡ no_bytes AreaTooShort
  packet_short l = let d = one_number x k e in rw d.1 (rw (lt-ltb area (length d.0) (omega (arith, d.2))))

  pub packet_fits : k ≤ area → room_for area x ≡ x
  packet_fits l = let d = one_number x k e in rw d.1 (rw (le-ltb area (length d.0) (omega (arith, d.2))))

  pub packet_room : k ≤ area → BytesRoom x area
  packet_room l = let d = one_number x k e in rw d.1 (omega (arith, d.2))
