-- A place at fault lies in the packet, or where it ends.
use mathlib.Core.Path.{◌≡◌, refl, subst}
use Rattle.std.specs.Prelude.{Err, Ok, Result}
use Rattle.rtp.specs.declared.refusal.Refusal.{Refusal}
use Rattle.read_headers.specs.declared.redundancy.HeaderSizes.{HeaderSizes}
use mathlib.Core.List.{List}
use Prim.Native.Nat.{ℕ, ◌+◌, ◌-◌, ◌≤◌}
use native.Mathlib.Omega.{arith}
use lib.ListN.{length, drop, length-take, length-drop}
use lib.Dec.{ltb, eqb}
use borrow.Author.Tests.{ltb-true, ltb-false}
use Rattle.rtp.specs.Editions.{Edition}
use Rattle.rtp.specs.Sizes.{max_packet, row_area}
use Rattle.rtp.specs.Ranges.{in_range}
use Rattle.row_tags.specs.Tags.{primary_mark}
use Rattle.read_headers.specs.Redundancy.{redundancy_headers, headers_answer}
use Rattle.read_headers.specs.Header.{header}
use Rattle.rtp.specs.declared.settings.Settings.{Settings}
use Rattle.read_headers.specs.declared.header.Header.{Header}
use Rattle.rtp.specs.declared.refusal.Fault.{Fault}
use Rattle.rtp.proofs.TestLaws.{by-test}
use Rattle.read_headers.proofs.HeaderLaws.{within}
use Rattle.read_headers.proofs.RedundancyLaws.{InFront, front}
use Rattle.read_payload.specs.Payloads.{Rows, no_rows, rows_of, rows_answer}
use Rattle.read_redundancy.specs.Blocks.{redundant_rows}
use Rattle.read_redundancy.specs.Room.{blocks_from, Headed}
use Rattle.read_mode_request.specs.Requests.{typed_request}
use Rattle.read_packet.specs.Readings.{payload_in, typed_rows, Outcome, refused, read_as, outcome_of, headed_by, reading}
use Rattle.read_redundancy.proofs.AnswerLaws.{Inside, inside_more}
use Rattle.read_redundancy.proofs.BlockLaws.{pay_inside, from_inside}
use Rattle.read_redundancy.proofs.SplitLaws.{split_refused, split_short, split_place, split_blocks, headers_at}
use Rattle.read_packet.proofs.ReadingLaws.{payload_fits}

abbrev RowsInside : ℕ → Rows → Type 0
RowsInside n (no_rows f) = f.offset ≤ n
RowsInside n (rows_of rs) = Unit {0}

of_answer : (n : ℕ) (x : Rows) → Inside n (rows_answer x) → RowsInside n x
unfolding rows_answer
of_answer n (no_rows f) h = h
of_answer n (rows_of rs) h = tt

-- a redundancy payload
redundant_inside : (ed : Edition) (st : Settings) (time at : ℕ) (s : List ℕ) → at + length s ≤ max_packet → RowsInside (at + length s) (redundant_rows ed st time at s)
redundant_inside ed st time at s l = go (headers_answer (redundancy_headers s)) refl
  where
    go : (x : Result HeaderSizes Fault) → headers_answer (redundancy_headers s) ≡ x → RowsInside (at + length s) (redundant_rows ed st time at s)
    go (Err r) h = rw (split_refused ed st time at s r h) (omega (arith, split_place ed st time at s l r h))
    go (Ok z) h =
        let q = headers_at ed st time at s l z h in
        let w : z.size ≤ length s = subst (λ (x : Result HeaderSizes Fault). InFront (length s) x) q (front s) in
        by-test (ltb (length s - z.size) z.redundant)
        (λ a. rw (split_short ed st time at s l z h (ltb-true (length s - z.size) z.redundant a)) (omega arith))
        (λ a.
        let k : Headed (length (drop z.size s)) (Ok z) = rw (length-drop z.size s) (ltb-false (length s - z.size) z.redundant a) in
        let e : at + z.size + length (drop z.size s) ≤ at + length s = rw (length-drop z.size s) (omega arith) in
        rw (split_blocks ed st time at s l z h (ltb-false (length s - z.size) z.redundant a))
        (of_answer (at + length s) (blocks_from ed st 0 time (at + z.size) s (drop z.size s))
        (inside_more (at + z.size + length (drop z.size s)) (at + length s) (rows_answer (blocks_from ed st 0 time (at + z.size) s (drop z.size s))) e
        (from_inside ed st 0 time (at + z.size) s (drop z.size s) (rw q k)))))

typed_inside : (ed : Edition) (st : Settings) (h : Header) (p : List ℕ) → h.start + length p ≤ max_packet → RowsInside (h.start + length p) (typed_rows ed st h p)
unfolding typed_rows
typed_inside ed st h p l =
    by-test (eqb h.payload_type st.payload_type)
    (λ a. rw a (of_answer _ _ (pay_inside ed st primary_mark 0 h.timestamp h.start p)))
    (λ a. by-test (eqb h.payload_type st.redundancy_type) (λ b. rw (a, b) (redundant_inside ed st h.timestamp h.start p l)) (λ b. rw (a, b) (omega arith)))

abbrev pub OutcomeInside : ℕ → Outcome → Type 0
OutcomeInside n (refused f) = f.offset ≤ n
OutcomeInside n (read_as h rs request) = Unit {0}

outcome_inside : (n m : ℕ) (h : Header) (request : ℕ) (x : Rows) → n ≤ m → RowsInside n x → OutcomeInside m (outcome_of h request x)
outcome_inside n m h request (no_rows f) l w = omega arith
outcome_inside n m h request (rows_of rs) l w = tt

headed_inside : (ed : Edition) (st : Settings) (s : List ℕ) (x : Result Header Refusal) → header s ≡ x → OutcomeInside max_packet (headed_by ed st s x) × OutcomeInside (length s) (headed_by ed st s x)
headed_inside ed st s (Err r) q = (omega arith, omega arith)
headed_inside ed st s (Ok h) q =
    let p = payload_in s h in
    let fits = payload_fits s h q in
    let ends : h.start + length p ≤ length s = let w = within s h q in simp (length-take, length-drop) (omega arith) in
    let rows = typed_inside ed st h p fits in
    let request = typed_request st h.payload_type p in
    (outcome_inside _ _ h request (typed_rows ed st h p) fits rows, outcome_inside _ _ h request (typed_rows ed st h p) ends rows)

pub reading_inside : (ed : Edition) (st : Settings) (area : ℕ) (s : List ℕ) → OutcomeInside max_packet (reading ed st area s) × OutcomeInside (length s) (reading ed st area s)
unfolding reading
reading_inside ed st area s =
    by-test (in_range ed st)
    (λ i. by-test (ltb area (row_area ed)) (λ a. rw (i, a) (omega arith, omega arith)) (λ a. rw (i, a) (headed_inside ed st s (header s) refl)))
    (λ i. rw i (omega arith, omega arith))

module _ (ed : Edition) (st : Settings) (area : ℕ) (s : List ℕ) (f : Fault) (h : reading ed st area s ≡ refused f) where
  -- it fits in any number that a packet's length fits in
  pub place_small : f.offset ≤ max_packet
  place_small = subst (λ (x : Outcome). OutcomeInside max_packet x) h (reading_inside ed st area s).0

  pub place_inside : f.offset ≤ length s
  place_inside = subst (λ (x : Outcome). OutcomeInside (length s) x) h (reading_inside ed st area s).1
