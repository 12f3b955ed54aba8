-- Document 02, P2: the place of a fault lies in the packet and after its fixed header, and other answers have none.
use mathlib.Core.Path.{◌≡◌, refl, subst}
use Rattle.rtp.specs.declared.refusal.Refusal.{Refusal}
use Rattle.read_contents.specs.declared.entries.Entry.{Entry}
use Rattle.std.specs.Prelude.{None, Option, Some, Err, Ok, Result}
use Rattle.formats.specs.declared.frames.Frame.{Frame}
use mathlib.Core.List.{List, [], ◌∷◌}
use mathlib.Core.Bool.{Bool}
use Prim.Native.Nat.{ℕ, zero, suc, ◌+◌, ◌-◌, ◌*◌, ◌/◌, ◌%◌, ◌≤◌, ◌<◌}
use native.Mathlib.Omega.{arith}
use lib.ListN.{length, take, drop}
use lib.Dec.{ltb, eqb}
use borrow.Author.Tests.{le-ltb}
use Rattle.rtp.specs.Editions.{Edition}
use Rattle.rtp.specs.Sizes.{min_packet, max_packet, max_rows, row_area}
use Rattle.rtp.specs.Numbers.{byte_at}
use Rattle.rtp.specs.Ranges.{in_range}
use Rattle.rtp.specs.Time.{difference}
use Rattle.rtp.specs.Refusals.{number}
use Rattle.read_headers.specs.Header.{csrc_end, extension_end, payload_start, payload_end, ended_at, started_at, header}
use Rattle.read_headers.specs.Redundancy.{block_header, Headers, refused as unheaded, headers_of, prepend as prepend_header, headers_step, headers_by, headers, redundancy_headers, headers_size, redundant_size}
use Rattle.rtp.specs.declared.settings.Settings.{Settings}
use Rattle.read_headers.specs.declared.header.Header.{Header}
use Rattle.read_headers.specs.declared.redundancy.Redundant.{Redundant}
use Rattle.read_headers.specs.declared.redundancy.BlockHeader.{BlockHeader}
use Rattle.rtp.proofs.TestLaws.{by-test}
use Rattle.read_headers.proofs.HeaderLaws.{within}
use Rattle.formats.specs.Frames.{frame_of}
use Rattle.read_contents.specs.Contents.{min_entry, code_in, blocks_in, entry_size, coded_entry, entry_of, Group, Contents, refused as unread, groups, meaning, prepend, contents_step, contents_by, contents, pass_first, size_in, frames_in}
use Rattle.row_tags.specs.Tags.{primary_mark, redundant_mark}
use Rattle.read_payload.specs.Payloads.{table_start, starting_at, body, payload, Rows, no_rows, rows_of, placed_rows, payload_rows}
use Rattle.read_rows.specs.Tables.{exact}
use Rattle.read_redundancy.specs.Blocks.{Block, cut, typed_block_rows, prepend_rows, then_rows, blocks_rows, split_rows, redundant_rows}
use Rattle.read_packet.specs.Readings.{payload_in, typed_rows, Outcome, refused, read_as, outcome_of, headed_by, reading, outcome_numbers}
use Rattle.read_claims.specs.Places.{Placed, PlaceClaims}
use Rattle.read_redundancy.proofs.BlockLaws.{block}
use Rattle.read_packet.proofs.PlaceLaws.{reading_inside, OutcomeInside}
use Rattle.read_packet.proofs.ReadingLaws.{payload_fits}

-- The refusals of a table are 6 to 9

abbrev EntryPlaced : Result Entry Refusal → Type 0
EntryPlaced (Err r) = Placed (number r)
EntryPlaced (Ok e) = Unit {0}

abbrev TablePlaced : Contents → Type 0
TablePlaced (unread f) = Placed (number f.refusal)
TablePlaced (groups gs) = Unit {0}

coded_placed : (m : Bool) (blocks size : ℕ) (c : Option Frame) → EntryPlaced (coded_entry m blocks size c)
coded_placed m blocks size None = (omega arith, omega arith)
coded_placed m blocks size (Some f) = by-test (eqb blocks 0) (λ a. rw a (omega arith, omega arith)) (λ a. rw a tt)

entry_placed : (format : ℕ) (s : List ℕ) → EntryPlaced (entry_of format s)
unfolding entry_of
entry_placed format s =
    by-test (ltb (length s) (min_entry format)) (λ a. rw a (omega arith, omega arith))
    (λ a. by-test (ltb (length s) (entry_size format (blocks_in format s))) (λ b. rw (a, b) (omega arith, omega arith))
    (λ b. rw (a, b) (coded_placed _ _ _ (frame_of format (code_in format (byte_at s 0))))))

more_placed : (n : ℕ) (g : Group) (p : Contents) → TablePlaced p → TablePlaced (prepend n g p)
more_placed n g (unread f) h = h
more_placed n g (groups gs) h = tt

step_placed : (ed : Edition) (format ch rows : ℕ) (s : List ℕ) (next : ℕ → List ℕ → Contents) → ((n : ℕ) (t : List ℕ) → TablePlaced (next n t))
    → (r : Result Entry Refusal) → EntryPlaced r → TablePlaced (contents_step ed format ch rows s next r)
unfolding meaning
step_placed ed format ch rows s next ih (Err r) h = h
step_placed ed format ch rows s next ih (Ok e) h =
    by-test (ltb (max_rows ed) (rows + e.blocks * ch)) (λ a. rw a (omega arith, omega arith))
    (λ a. by-test e.more
    (λ m. rw (a, m) (more_placed e.size (meaning format s e) (next (rows + e.blocks * ch) (drop e.size s)) (ih (rows + e.blocks * ch) (drop e.size s))))
    (λ m. rw (a, m) tt))

table_by : (ed : Edition) (f format ch rows : ℕ) (s : List ℕ) → TablePlaced (contents_by ed f format ch rows s)
unfolding contents_by
table_by ed zero format ch rows s = (omega arith, omega arith)
table_by ed (suc f) format ch rows s = step_placed ed format ch rows s _ (λ n t. table_by ed f format ch n t) (entry_of format s) (entry_placed format s)

-- Those of a payload 6 to 10, and their place is where it stands or after

abbrev RowsAfter : ℕ → Rows → Type 0
RowsAfter n (no_rows f) = Placed (number f.refusal) × (n ≤ f.offset)
RowsAfter n (rows_of rs) = Unit {0}

passed_placed : (p : Contents) → TablePlaced p → TablePlaced (pass_first p)
passed_placed (unread f) h = h
passed_placed (groups []) h = tt
passed_placed (groups (g ∷ gs)) h = tt

exact_placed : (format ch n : ℕ) (p : Contents) → TablePlaced p → TablePlaced (exact format ch n p)
exact_placed format ch n (unread f) h = h
exact_placed format ch n (groups gs) h = by-test (eqb (size_in format gs + frames_in ch gs) n) (λ a. rw a tt) (λ a. rw a (omega arith, omega arith))

placed_after : (n mark format ch time at k : ℕ) → n ≤ at → (p : Contents) → TablePlaced p → RowsAfter n (placed_rows mark format ch time at (starting_at k p))
unfolding placed_rows
placed_after n mark format ch time at k l (unread f) h = (h, omega arith)
placed_after n mark format ch time at k l (groups gs) h = tt

payload_after : (ed : Edition) (n mark format ch done time at : ℕ) (s : List ℕ) → n ≤ at → RowsAfter n (payload_rows ed mark format ch done time at s)
unfolding payload_rows payload contents
payload_after ed n mark format ch done time at s l =
    let b = body format s in
    let p = contents ed format ch done b in
    placed_after n mark format ch time at (table_start format s) l (exact format ch (length b) (pass_first p))
    (exact_placed format ch (length b) (pass_first p) (passed_placed p (table_by ed (suc (length b)) format ch done b)))

-- The blocks of a redundancy payload

then_after : (n : ℕ) (x : Rows) (next : ℕ → Rows) → RowsAfter n x → ((i : ℕ) → RowsAfter n (next i)) → RowsAfter n (then_rows x next)
then_after n (no_rows f) next h k = h
then_after n (rows_of rs) next h k = rest (next (length rs)) (k (length rs))
  where
    rest : (x : Rows) → RowsAfter n x → RowsAfter n (prepend_rows rs x)
    rest (no_rows f) z = z
    rest (rows_of qs) z = tt

module _ (ed : Edition) (st : Settings) (n : ℕ) where
  block_after : (done time : ℕ) (b : Block) → n ≤ b.at → RowsAfter n (typed_block_rows ed st done time b)
  unfolding typed_block_rows
  block_after done time b l =
      by-test (eqb b.type st.payload_type)
      (λ x. by-test (eqb (length b.bytes) 0)
      (λ y. rw (x, y) tt)
      (λ y. rw (x, y) (payload_after ed n b.primary st.format st.channels done (difference time b.offset) b.at b.bytes l)))
      (λ x. rw x tt)

  cut_after : (bs : List Redundant) (done time type at : ℕ) (d : List ℕ) → n ≤ at → RowsAfter n (blocks_rows ed st done time (cut bs type at d))
  unfolding blocks_rows cut
  cut_after [] done time type at d l = then_after n (typed_block_rows ed st done time (block primary_mark type 0 at d)) _ (block_after done time (block primary_mark type 0 at d) l) (λ i. tt)
  cut_after (b ∷ bs) done time type at d l =
      then_after n (typed_block_rows ed st done time (block redundant_mark b.payload_type b.offset at (take b.length d))) _
      (block_after done time (block redundant_mark b.payload_type b.offset at (take b.length d)) l)
      (λ i. cut_after bs (done + i) time type (at + b.length) (drop b.length d) (omega arith))

-- its block headers are refused with 6

abbrev HeadersPlaced : Headers → Type 0
HeadersPlaced (unheaded f) = Placed (number f.refusal)
HeadersPlaced (headers_of bs type) = Unit {0}

abbrev HeaderPlaced : Result BlockHeader Refusal → Type 0
HeaderPlaced (Err r) = Placed (number r)
HeaderPlaced (Ok (BlockHeader.Primary t)) = Unit {0}
HeaderPlaced (Ok (BlockHeader.Redundant b)) = Unit {0}

header_placed : (s : List ℕ) → HeaderPlaced (block_header s)
unfolding block_header
header_placed s =
    by-test (eqb (length s) 0) (λ a. rw a (omega arith, omega arith))
    (λ a. by-test (ltb (byte_at s 0) 128) (λ b. rw (a, b) tt)
    (λ b. by-test (ltb (length s) 4) (λ c. rw (a, b, c) (omega arith, omega arith)) (λ c. rw (a, b, c) tt)))

headers_more : (b : Redundant) (x : Headers) → HeadersPlaced x → HeadersPlaced (prepend_header b x)
headers_more b (unheaded f) h = h
headers_more b (headers_of bs type) h = tt

headers_step_lem : (s : List ℕ) (next : List ℕ → Headers) → ((t : List ℕ) → HeadersPlaced (next t)) → (b : Result BlockHeader Refusal) → HeaderPlaced b → HeadersPlaced (headers_step s next b)
headers_step_lem s next ih (Err r) h = h
headers_step_lem s next ih (Ok (BlockHeader.Primary t)) h = tt
headers_step_lem s next ih (Ok (BlockHeader.Redundant b)) h = headers_more b (next (drop 4 s)) (ih (drop 4 s))

headers_by_lem : (f : ℕ) (s : List ℕ) → HeadersPlaced (headers_by f s)
unfolding headers_by
headers_by_lem zero s = (omega arith, omega arith)
headers_by_lem (suc f) s = headers_step_lem s _ (λ t. headers_by_lem f t) (block_header s) (header_placed s)

redundant_after : (ed : Edition) (n : ℕ) (st : Settings) (time at : ℕ) (s : List ℕ) → n ≤ at → length s ≤ max_packet → RowsAfter n (redundant_rows ed st time at s)
unfolding redundant_rows redundancy_headers headers
redundant_after ed n st time at s l m = rw (le-ltb max_packet (length s) m) (split (headers_by (suc (length s)) s) (headers_by_lem (suc (length s)) s))
  where
    split : (x : Headers) → HeadersPlaced x → RowsAfter n (split_rows ed st time at s x)
    split (unheaded f) h = (h, omega arith)
    split (headers_of bs type) h =
        by-test (ltb (length s - headers_size bs) (redundant_size bs)) (λ a. rw a ((omega arith, omega arith), omega arith))
        (λ a. rw a (cut_after ed st n bs 0 time type (at + headers_size bs) (drop (headers_size bs) s) (omega arith)))

-- Those of a header are 1 to 4

abbrev BoundLow : Result ℕ Refusal → Type 0
BoundLow (Err r) = number r < 6
BoundLow (Ok n) = Unit {0}

abbrev HeaderLow : Result Header Refusal → Type 0
HeaderLow (Err r) = number r < 6
HeaderLow (Ok h) = Unit {0}

start_low : (s : List ℕ) → BoundLow (payload_start s)
unfolding payload_start
start_low s =
    by-test (ltb (length s) (csrc_end s)) (λ a. rw a (omega arith))
    (λ a. by-test (eqb (byte_at s 0 / 16 % 2) 0) (λ b. rw (a, b) tt)
    (λ b. by-test (ltb (length s) (csrc_end s + 4)) (λ c. rw (a, b, c) (omega arith))
    (λ c. by-test (ltb (length s) (extension_end s)) (λ d. rw (a, b, c, d) (omega arith)) (λ d. rw (a, b, c, d) tt))))

end_low : (s : List ℕ) (start : ℕ) → BoundLow (payload_end s start)
unfolding payload_end
end_low s start =
    by-test (eqb (byte_at s 0 / 32 % 2) 0) (λ a. rw a tt)
    (λ a. by-test (eqb (byte_at s (length s - 1)) 0) (λ b. rw (a, b) (omega arith))
    (λ b. by-test (ltb (length s - start) (byte_at s (length s - 1))) (λ c. rw (a, b, c) (omega arith)) (λ c. rw (a, b, c) tt)))

ended_low : (s : List ℕ) (start : ℕ) (b : Result ℕ Refusal) → BoundLow b → HeaderLow (ended_at s start b)
ended_low s start (Err r) h = h
ended_low s start (Ok n) h = tt

started_low : (s : List ℕ) (b : Result ℕ Refusal) → BoundLow b → HeaderLow (started_at s b)
started_low s (Err r) h = h
started_low s (Ok n) h = ended_low s n (payload_end s n) (end_low s n)

header_low : (s : List ℕ) → HeaderLow (header s)
unfolding header
header_low s =
    by-test (ltb (length s) min_packet) (λ a. rw a (omega arith))
    (λ a. by-test (ltb max_packet (length s)) (λ b. rw (a, b) (omega arith))
    (λ b. by-test (eqb (byte_at s 0 / 64) 2) (λ c. rw (a, b, c) (started_low s (payload_start s) (start_low s))) (λ c. rw (a, b, c) (omega arith))))

-- Reading a packet: the answer has a place, after the fixed header, or has none

record Fit (number place : ℕ) : Type 0 where
  none : (Placed number → ⊥) → place ≡ 0
  some : Placed number → min_packet ≤ place

fit_none : (n : ℕ) → (Placed n → ⊥) → Fit n 0
fit_none n h = record { none = λ k. refl; some = λ p. absurd (h p) }

fit_some : (n place : ℕ) → Placed n → min_packet ≤ place → Fit n place
fit_some n place p l = record { none = λ k. absurd (k p); some = λ q. l }

low : (n : ℕ) → n < 6 → Placed n → ⊥
low n l p = omega (arith, p.0)

high : (n : ℕ) → 10 < n → Placed n → ⊥
high n l p = omega (arith, p.1)

abbrev RowsFit : Rows → Type 0
RowsFit (no_rows f) = Fit (number f.refusal) f.offset
RowsFit (rows_of rs) = Unit {0}

abbrev OutcomeFit : Outcome → Type 0
OutcomeFit x = Fit (outcome_numbers x).refusal (outcome_numbers x).offset

after_fit : (x : Rows) → RowsAfter min_packet x → RowsFit x
after_fit (no_rows f) h = fit_some (number f.refusal) f.offset h.0 h.1
after_fit (rows_of rs) h = tt

typed_fit : (ed : Edition) (st : Settings) (h : Header) (p : List ℕ) → min_packet ≤ h.start → length p ≤ max_packet → RowsFit (typed_rows ed st h p)
unfolding typed_rows
typed_fit ed st h p l m =
    by-test (eqb h.payload_type st.payload_type)
    (λ a. rw a (after_fit (payload_rows ed primary_mark st.format st.channels 0 h.timestamp h.start p) (payload_after ed min_packet primary_mark st.format st.channels 0 h.timestamp h.start p l)))
    (λ a. by-test (eqb h.payload_type st.redundancy_type)
    (λ b. rw (a, b) (after_fit (redundant_rows ed st h.timestamp h.start p) (redundant_after ed min_packet st h.timestamp h.start p l m)))
    (λ b. rw (a, b) (fit_none 5 (low 5 (omega arith)))))

outcome_fit : (h : Header) (request : ℕ) (x : Rows) → RowsFit x → OutcomeFit (outcome_of h request x)
unfolding outcome_numbers
outcome_fit h request (no_rows f) k = k
outcome_fit h request (rows_of rs) k = fit_none 0 (low 0 (omega arith))

headed_fit : (ed : Edition) (st : Settings) (s : List ℕ) (x : Result Header Refusal) → header s ≡ x → OutcomeFit (headed_by ed st s x)
unfolding outcome_numbers
headed_fit ed st s (Err r) q = fit_none (number r) (low (number r) (subst HeaderLow q (header_low s)))
headed_fit ed st s (Ok h) q =
    outcome_fit h _ (typed_rows ed st h (payload_in s h)) (typed_fit ed st h (payload_in s h) (within s h q).after (omega (arith, payload_fits s h q)))

reading_fit : (ed : Edition) (st : Settings) (area : ℕ) (s : List ℕ) → OutcomeFit (reading ed st area s)
unfolding reading outcome_numbers
reading_fit ed st area s =
    by-test (in_range ed st)
    (λ i. by-test (ltb area (row_area ed)) (λ a. rw (i, a) (fit_none 12 (high 12 (omega arith)))) (λ a. rw (i, a) (headed_fit ed st s (header s) refl)))
    (λ i. rw i (fit_none 11 (high 11 (omega arith))))

inside_numbers : (n : ℕ) (x : Outcome) → OutcomeInside n x → (outcome_numbers x).offset ≤ n
unfolding outcome_numbers
inside_numbers n (refused f) h = h
inside_numbers n (read_as h rs request) k = omega arith

pub place_theorem : (ed : Edition) → PlaceClaims ed
place_theorem ed = record {
  inside = λ st area s. inside_numbers (length s) (reading ed st area s) (reading_inside ed st area s).1;
  placeless = λ st area s. (reading_fit ed st area s).none;
  placed = λ st area s. (reading_fit ed st area s).some;
}
