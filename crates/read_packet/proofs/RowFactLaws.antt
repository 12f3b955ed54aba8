-- What every row is like that reading a packet gives.
use mathlib.Core.Path.{◌≡◌, refl, subst}
use Rattle.std.specs.Prelude.{Err, Ok, Result}
use Rattle.rtp.specs.declared.refusal.Refusal.{Refusal}
use mathlib.Core.List.{List, [], ◌∷◌}
use Prim.Native.Nat.{ℕ, ◌+◌, ◌-◌, ◌≤◌, ◌<◌}
use Rattle.rtp.specs.Editions.{Edition}
use Rattle.row_tags.specs.Tags.{primary_mark, redundant_mark}
use native.Mathlib.Omega.{arith}
use lib.ListN.{length, take, drop, length-append, length-take, length-drop}
use lib.Dec.{ltb, eqb}
use borrow.Author.Tests.{eqb-false}
use Rattle.rtp.specs.Sizes.{max_rows, row_area}
use Rattle.rtp.specs.Ranges.{in_range}
use Rattle.rtp.specs.Time.{difference}
use Rattle.read_headers.specs.Redundancy.{Headers, refused as unheaded, headers_of, redundancy_headers, headers_size, redundant_size}
use Rattle.read_headers.specs.Header.{header}
use Rattle.rtp.specs.declared.settings.Settings.{Settings}
use Rattle.read_headers.specs.declared.header.Header.{Header}
use Rattle.read_headers.specs.declared.redundancy.Redundant.{Redundant}
use Rattle.rtp.proofs.TestLaws.{by-test}
use Rattle.read_headers.proofs.HeaderLaws.{within}
use Rattle.read_rows.specs.Rows.{Row}
use Rattle.read_payload.specs.Payloads.{Rows, no_rows, rows_of}
use Rattle.read_payload.proofs.RowFactLaws.{RowFine, AllRows, all_append, FineRows, payload_fine}
use Rattle.read_redundancy.specs.Blocks.{Block, cut, typed_block_rows, prepend_rows, then_rows, blocks_rows, split_rows, redundant_rows}
use Rattle.read_packet.specs.Readings.{payload_in, typed_rows, Outcome, refused, read_as, outcome_of, headed_by, reading}
use Rattle.read_redundancy.proofs.BlockLaws.{block}

-- A redundancy payload

module _ (ed : Edition) (format ch n done : ℕ) where
  prepend_fine : (rs : List Row) (x : Rows) → AllRows (RowFine format ch n) rs → FineRows ed format ch n (done + length rs) x → FineRows ed format ch n done (prepend_rows rs x)
  prepend_fine rs (no_rows r) h k = tt
  prepend_fine rs (rows_of qs) h k = (all_append _ rs qs h k.0, rw length-append (omega (arith, k.1)))

  then_fine : (x : Rows) (next : ℕ → Rows) → FineRows ed format ch n done x
      → ((i : ℕ) → done + i ≤ max_rows ed → FineRows ed format ch n (done + i) (next i)) → FineRows ed format ch n done (then_rows x next)
  then_fine (no_rows r) next h k = tt
  then_fine (rows_of rs) next h k = prepend_fine rs (next (length rs)) h.0 (k (length rs) h.1)

module _ (ed : Edition) (st : Settings) (n : ℕ) where
  block_fine : (done time : ℕ) (b : Block) → b.primary < 2 → done ≤ max_rows ed → (1 ≤ length b.bytes → b.at + length b.bytes ≤ n)
      → FineRows ed st.format st.channels n done (typed_block_rows ed st done time b)
  unfolding typed_block_rows
  block_fine done time b p f e =
      by-test (eqb b.type st.payload_type)
      (λ x. by-test (eqb (length b.bytes) 0)
      (λ y. rw (x, y) (tt, omega arith))
      (λ y. let z = eqb-false (length b.bytes) 0 y in
      rw (x, y) (payload_fine ed b.primary st.format st.channels n done (difference time b.offset) b.at b.bytes p (e (omega arith)))))
      (λ x. rw x (tt, omega arith))

  more_fine : (done time : ℕ) (b : Block) (bs : List Block) → b.primary < 2 → done ≤ max_rows ed → (1 ≤ length b.bytes → b.at + length b.bytes ≤ n)
      → ((i : ℕ) → done + i ≤ max_rows ed → FineRows ed st.format st.channels n (done + i) (blocks_rows ed st (done + i) time bs))
      → FineRows ed st.format st.channels n done (blocks_rows ed st done time (b ∷ bs))
  unfolding blocks_rows
  more_fine done time b bs p f e k =
      then_fine ed st.format st.channels n done (typed_block_rows ed st done time b) (λ i. blocks_rows ed st (done + i) time bs) (block_fine done time b p f e) k

  -- it does not matter where an empty block is placed: it has no rows
  cut_fine : (bs : List Redundant) (done time type at : ℕ) (d : List ℕ) → done ≤ max_rows ed → (1 ≤ length d → at + length d ≤ n)
      → FineRows ed st.format st.channels n done (blocks_rows ed st done time (cut bs type at d))
  unfolding blocks_rows cut
  cut_fine [] done time type at d f e = more_fine done time (block primary_mark type 0 at d) [] (omega arith) f e (λ i l. (tt, omega arith))
  cut_fine (b ∷ bs) done time type at d f e =
      more_fine done time (block redundant_mark b.payload_type b.offset at (take b.length d)) (cut bs type (at + b.length) (drop b.length d)) (omega arith) f
      (rw length-take (λ l. omega (arith, e (omega arith))))
      (λ i l. cut_fine bs (done + i) time type (at + b.length) (drop b.length d) l (rw length-drop (λ m. omega (arith, e (omega arith)))))

  redundant_fine : (time at : ℕ) (s : List ℕ) → at + length s ≤ n → FineRows ed st.format st.channels n 0 (redundant_rows ed st time at s)
  unfolding redundant_rows
  redundant_fine time at s e = split (redundancy_headers s)
    where
      split : (x : Headers) → FineRows ed st.format st.channels n 0 (split_rows ed st time at s x)
      split (unheaded r) = tt
      split (headers_of bs type) =
          by-test (ltb (length s - headers_size bs) (redundant_size bs)) (λ a. rw a tt)
          (λ a. rw a (cut_fine bs 0 time type (at + headers_size bs) (drop (headers_size bs) s) (omega arith) (rw length-drop (λ m. omega arith))))

  typed_fine : (h : Header) (p : List ℕ) → h.start + length p ≤ n → FineRows ed st.format st.channels n 0 (typed_rows ed st h p)
  unfolding typed_rows
  typed_fine h p e =
      by-test (eqb h.payload_type st.payload_type)
      (λ a. rw a (payload_fine ed primary_mark st.format st.channels n 0 h.timestamp h.start p (omega arith) e))
      (λ a. by-test (eqb h.payload_type st.redundancy_type) (λ b. rw (a, b) (redundant_fine h.timestamp h.start p e)) (λ b. rw (a, b) tt))

-- Reading a packet

abbrev FineOutcome : Edition → ℕ → ℕ → ℕ → Outcome → Type 0
FineOutcome ed format ch n (refused r) = Unit {0}
FineOutcome ed format ch n (read_as h rs request) = AllRows (RowFine format ch n) rs × (length rs ≤ max_rows ed)

outcome_fine : (ed : Edition) (format ch n : ℕ) (h : Header) (request : ℕ) (x : Rows) → FineRows ed format ch n 0 x → FineOutcome ed format ch n (outcome_of h request x)
outcome_fine ed format ch n h request (no_rows r) k = tt
outcome_fine ed format ch n h request (rows_of rs) k = (k.0, omega (arith, k.1))

reading_fine : (ed : Edition) (st : Settings) (area : ℕ) (s : List ℕ) → FineOutcome ed st.format st.channels (length s) (reading ed st area s)
unfolding reading
reading_fine ed st area s =
    by-test (in_range ed st)
    (λ a. by-test (ltb area (row_area ed)) (λ b. rw (a, b) tt) (λ b. rw (a, b) (headed (header s) refl)))
    (λ a. rw a tt)
  where
    headed : (x : Result Header Refusal) → header s ≡ x → FineOutcome ed st.format st.channels (length s) (headed_by ed st s x)
    headed (Err r) q = tt
    headed (Ok h) q =
        let w = within s h q in
        outcome_fine ed st.format st.channels (length s) h _ (typed_rows ed st h (payload_in s h))
        (typed_fine ed st (length s) h (payload_in s h) (simp (length-take, length-drop) (omega arith)))

pub rows_fine : (ed : Edition) (st : Settings) (area : ℕ) (packet : List ℕ) (h : Header) (rs : List Row) (request : ℕ) → reading ed st area packet ≡ read_as h rs request
    → AllRows (RowFine st.format st.channels (length packet)) rs × (length rs ≤ max_rows ed)
rows_fine ed st area packet h rs request e = subst (FineOutcome ed st.format st.channels (length packet)) e (reading_fine ed st area packet)
