-- Demand 2 of packets: a packet that is written reads back.
use mathlib.Core.Path.{◌≡◌, refl, ◌∙◌, subst}
use mathlib.Core.List.{List, [], ◌∷◌, ◌++◌, append-nil}
use mathlib.Core.Bool.{Bool, true, false, cond}
use Prim.Native.Nat.{ℕ, ◌+◌, ◌*◌, ◌^◌, ◌≤◌, ◌<◌}
use native.Mathlib.Omega.{arith}
use lib.ListN.{length}
use lib.Dec.{ltb, eqb}
use borrow.Author.Tests.{eq-eqb, ne_eqb, ltb-false, eqb-true}
use Rattle.rtp.specs.Editions.{Edition}
use Rattle.rtp.specs.Sizes.{max_packet, max_rows, row_width}
use Rattle.rtp.specs.declared.settings.Settings.{Settings}
use Rattle.rtp.specs.declared.refusal.Refusal.{Refusal}
use Rattle.rtp.proofs.TestLaws.{both, either}
use Rattle.row_tags.specs.Tags.{primary_mark}
use Rattle.read_rows.specs.Rows.{Row}
use Rattle.read_packet.specs.Readings.{typed_rows}
use Rattle.read_mode_request.specs.Requests.{typed_request}
use Rattle.read_packet.proofs.ReadingLaws.{reading_headed}
use Rattle.write_plan.specs.Lists.{rows_in, outside}
use Rattle.write_claims.proofs.PayloadTheorems.{times}
use Rattle.write_payload.specs.Writings.{Encoded, no_bytes, bytes_of, room_for}
use Rattle.write_sizes.specs.Asking.{askable}
use Rattle.write_sizes.proofs.RequestLaws.{asked}
use Rattle.write_plan.proofs.ListLaws.{length_rows}
use Rattle.write_claims.proofs.PlanRowLaws.{Times}
use Rattle.write_parts.specs.Parts.{max_redundant, total, primary_time, Part, Parts, no_parts, parts_of, parts, counts_fit}
use Rattle.write_packet.specs.Packets.{body_bytes, packet_type, redundancy_missing, assembled_from, assembled, sending}
use Rattle.write_parts.specs.Headings.{header_bytes}
use Rattle.write_parts.specs.declared.headers.Heading.{Heading}
use Rattle.write_claims.specs.Marks.{PrimaryLast}
use Rattle.write_claims.specs.ReadingBack.{read_request}
use Rattle.write_claims.specs.PacketClaims.{ReadsBack, PacketRoundTrip}
use Rattle.rtp.proofs.RangeLaws.{Ranged, ranged}
use Rattle.write_claims.proofs.HeaderBackLaws.{head_of, header_back, payload_after}
use Rattle.write_claims.proofs.PayloadBackLaws.{Back, payload_back}
use Rattle.write_claims.proofs.PartLaws.{Made, made, primary_small}
use Rattle.write_claims.proofs.BlocksBackLaws.{back_last, redundant_back, primary_request, redundant_request_lem}

-- What the counts say

few_rows : (ed : Edition) (counts ws : List ℕ) → counts_fit ed counts ws ≡ true → length (rows_in ws) ≤ max_rows ed
few_rows ed counts ws h =
    let a = either (eqb (length counts) 0) _ h in
    let b = either (ltb (max_redundant + 1) (length counts)) _ a.1 in
    let c = both (eqb (length ws) (row_width * total counts)) _ b.1 in
    let d = either (ltb (max_rows ed) (total counts)) true c.1 in
    omega (arith, length_rows ws, eqb-true (length ws) (row_width * total counts) c.0, ltb-false (max_rows ed) (total counts) d.0)

-- What stands behind a packet that is given

abbrev packet : Settings → Heading → ℕ → List Part → List ℕ → List ℕ
packet st h time bs p = header_bytes h (packet_type st bs) time ++ body_bytes st bs p

record Assembled (st : Settings) (h : Heading) (time : ℕ) (x : Parts) (q : List ℕ) : Type 0 where
  blocks : List Part
  primary : List ℕ
  are : x ≡ parts_of blocks primary
  typed : redundancy_missing st blocks ≡ false
  short : length (packet st h time blocks primary) ≤ max_packet
  same : packet st h time blocks primary ≡ q

past : (t : Bool) (r : Refusal) (x : Encoded) (q : List ℕ) → cond t (no_bytes r) x ≡ bytes_of q → (t ≡ false) × (x ≡ bytes_of q)
past true r x q h = let z : ◌≡◌ {A = ℕ} 0 1 = cc in absurd (omega arith)
past false r x q h = (refl, h)

passed : (t : Bool) (r : Refusal) (x : Encoded) (q : List ℕ) → cond t x (no_bytes r) ≡ bytes_of q → (t ≡ true) × (x ≡ bytes_of q)
passed true r x q h = (refl, h)
passed false r x q h = let z : ◌≡◌ {A = ℕ} 0 1 = cc in absurd (omega arith)

same_bytes : (p q : List ℕ) → bytes_of p ≡ bytes_of q → p ≡ q
same_bytes p q h = cc

room : (area : ℕ) (x : Encoded) (q : List ℕ) → room_for area x ≡ bytes_of q → x ≡ bytes_of q
room area (no_bytes r) q h = h
room area (bytes_of p) q h = (past (ltb area (length p)) _ (bytes_of p) q h).1

of_parts : (st : Settings) (h : Heading) (time : ℕ) (x : Parts) (q : List ℕ) → assembled_from st h time x ≡ bytes_of q → Assembled st h time x q
of_parts st h time no_parts q k = let z : ◌≡◌ {A = ℕ} 0 1 = cc in absurd (omega arith)
of_parts st h time (parts_of bs p) q k =
    let a = past (redundancy_missing st bs) _ _ q k in
    let b = past (ltb max_packet (length (packet st h time bs p))) _ _ q a.1 in
    record { blocks = bs; primary = p; are = refl; typed = a.0; short = ltb-false _ _ b.0; same = same_bytes _ q b.1 }

record Sent (ed : Edition) (st : Settings) (request : ℕ) (h : Heading) (counts ws bytes q : List ℕ) : Type 0 where
  range : askable ed st request ≡ true
  inside : outside (length bytes) (rows_in ws) ≡ false
  fits : counts_fit ed counts ws ≡ true
  made : Assembled st h (primary_time counts (rows_in ws)) (parts ed st request bytes (primary_time counts (rows_in ws)) counts (rows_in ws)) q

sent : (ed : Edition) (st : Settings) (request : ℕ) (h : Heading) (counts ws bytes : List ℕ) (area : ℕ) (q : List ℕ) → sending ed st request h counts ws bytes area ≡ bytes_of q → Sent ed st request h counts ws bytes q
unfolding sending assembled
sent ed st request h counts ws bytes area q k =
    let a = passed (askable ed st request) _ _ q k in
    let b = past (outside (length bytes) (rows_in ws)) _ _ q a.1 in
    let c = passed (counts_fit ed counts ws) _ _ q b.1 in
    record { range = a.0; inside = b.0; fits = c.0; made = of_parts st h _ _ q (room area _ q c.1) }

-- Round trip

type_small : (ed : Edition) (st : Settings) (bs : List Part) → Ranged ed st → redundancy_missing st bs ≡ false → packet_type st bs < 128
type_small ed st [] g k = g.plain
type_small ed st (b ∷ bs) g k = (g.redundant k).0

-- a packet of the list rs gives its rows, plain or redundant
module _ (ed : Edition) (st : Settings) (request : ℕ) (h : Heading) (counts bytes : List ℕ) (rs : List Row) (time : ℕ) (g : Ranged ed st) (t : time < 2 ^ 32) (ts : Times rs) (inside : outside (length bytes) rs ≡ false) (few : length rs ≤ max_rows ed) where
  typed_back : (bs : List Part) (p : List ℕ) → Made ed st request bytes time counts bs p rs → redundancy_missing st bs ≡ false → length (packet st h time bs p) ≤ max_packet → (n : ℕ)
      → Back (packet st h time bs p) bytes rs (PrimaryLast counts) (typed_rows ed st (head_of h (packet_type st bs) time n) (body_bytes st bs p))
  unfolding typed_rows body_bytes
  typed_back [] p m k l n =
      let x = (payload_back ed st request bytes p rs g.channels ts inside m.0).back primary_mark (header_bytes h st.payload_type time) [] 0 (omega arith) in
      rw (eq-eqb st.payload_type st.payload_type refl) (back_last _ bytes counts rs _ m.2 (rw (append-nil p, m.1) at x))
  typed_back (b ∷ bs) p m k l n =
      let type = st.redundancy_type in
      rw (ne_eqb type st.payload_type (g.redundant k).1, eq-eqb type type refl)
      (redundant_back ed st request bytes time g.channels t counts (b ∷ bs) p rs m ts inside g.plain few (omega arith) (header_bytes h type time))

  typed_request_lem : (bs : List Part) (p : List ℕ) → Made ed st request bytes time counts bs p rs → redundancy_missing st bs ≡ false → length (packet st h time bs p) ≤ max_packet
      → typed_request st (packet_type st bs) (body_bytes st bs p) ≡ read_request st.format request
  unfolding typed_request body_bytes
  typed_request_lem [] p m k l = rw (eq-eqb st.payload_type st.payload_type refl) (primary_request ed st request bytes time g.channels t counts [] p rs m ts inside).1
  typed_request_lem (b ∷ bs) p m k l =
      let type = st.redundancy_type in
      rw (ne_eqb type st.payload_type (g.redundant k).1, eq-eqb type type refl)
      (redundant_request_lem ed st request bytes time g.channels t counts (b ∷ bs) p rs m ts inside g.plain (omega arith))

pub packet_round_trip : (ed : Edition) → PacketRoundTrip ed
packet_round_trip ed st request h counts ws bytes area rows q words sequence source room k =
    let s = sent ed st request h counts ws bytes area q k in
    let a = s.made in
    let rs = rows_in ws in
    let time = primary_time counts rs in
    let g = ranged ed st (asked ed st request s.range).settings in
    let ts = times ws words in
    let t = primary_small counts rs ts in
    let type = packet_type st a.blocks in
    let body = body_bytes st a.blocks a.primary in
    let head = head_of h type time (length (header_bytes h type time ++ body)) in
    let m = made ed st request bytes time counts rs a.blocks a.primary refl a.are in
    let x = typed_back ed st request h counts bytes rs time g t ts s.inside (few_rows ed counts ws s.fits) a.blocks a.primary m a.typed a.short head.end in
    let y = typed_request_lem ed st request h counts bytes rs time g t ts s.inside (few_rows ed counts ws s.fits) a.blocks a.primary m a.typed a.short in
    let read = header_back h type time body (type_small ed st a.blocks g a.typed) sequence t source a.short in
    subst (λ (l : List ℕ). ReadsBack ed st request h counts ws bytes l rows) a.same (record {
      head = head;
      rows = x.rows;
      read = reading_headed ed st rows (header_bytes h type time ++ body) (asked ed st request s.range).settings room head read ∙ rw (payload_after h type time body, x.read, y);
      same = x.same;
      heard = x.heard;
      marker = refl;
      sequence = refl;
      timestamp = refl;
      source = refl;
    })
