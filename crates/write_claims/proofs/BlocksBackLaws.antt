-- Laws of a redundancy payload as it is written: its block headers and its blocks read back.
use mathlib.Core.Path.{◌≡◌, refl, ap, sym, ◌∙◌, subst}
use Rattle.std.specs.Prelude.{Ok}
use mathlib.Core.List.{List, [], ◌∷◌, ◌++◌, append_assoc, append-nil}
use mathlib.Core.Bool.{false}
use Prim.Native.Nat.{ℕ, suc, ◌+◌, ◌-◌, ◌*◌, ◌/◌, ◌%◌, ◌^◌, ◌≤◌, ◌<◌}
use native.Mathlib.Omega.{arith}
use lib.ListN.{length, take, drop, length-append, take-append-drop}
use lib.Seq.{take-append_seam, drop-append_seam}
use borrow.Author.Tests.{lt-ltb, le-ltb, eq-eqb, ne_eqb}
use Rattle.rtp.specs.Editions.{Edition}
use Rattle.rtp.specs.Sizes.{max_packet, max_rows}
use Rattle.rtp.specs.Time.{difference}
use Rattle.read_headers.specs.Redundancy.{block_header, headers_of, prepend, headers, redundancy_headers, headers_size, redundant_size}
use Rattle.rtp.specs.declared.settings.Settings.{Settings}
use Rattle.read_headers.specs.declared.redundancy.Redundant.{Redundant}
use Rattle.read_headers.specs.declared.redundancy.BlockHeader.{BlockHeader}
use Rattle.read_headers.proofs.RedundancyLaws.{headers_step_lem}
use Rattle.row_tags.specs.Tags.{primary_mark, redundant_mark}
use Rattle.read_rows.specs.Rows.{Row}
use Rattle.read_payload.specs.Payloads.{Rows, no_request, request_of}
use Rattle.read_redundancy.specs.Blocks.{cut, typed_block_rows, then_rows, blocks_rows, redundant_rows}
use Rattle.read_mode_request.specs.Requests.{block_request, blocks_request, redundant_request}
use Rattle.read_redundancy.proofs.AnswerLaws.{then_none}
use Rattle.read_redundancy.proofs.BlockLaws.{block}
use Rattle.write_plan.specs.Lists.{outside, first_time}
use Rattle.write_parts.proofs.WordLaws.{outside_take, outside_drop}
use Rattle.write_claims.specs.Marks.{AllMarked, PrimaryLast}
use Rattle.write_claims.specs.ReadingBack.{read_request, SameFrames}
use Rattle.write_claims.proofs.PlanRowLaws.{Times}
use Rattle.write_parts.specs.Parts.{max_offset, max_block, Part}
use Rattle.write_packet.specs.Packets.{headers_bytes, blocks_bytes}
use Rattle.write_parts.specs.Headings.{block_header_bytes}
use Rattle.write_claims.proofs.SameFrameLaws.{same_length, same_append}
use Rattle.write_claims.proofs.MarkLaws.{first_count, later_counts, one_list, more_lists}
use Rattle.write_claims.proofs.PayloadBackLaws.{Back, Reads, payload_back}
use Rattle.write_claims.proofs.PartLaws.{Made, times_take, times_drop, first_small}

-- Block headers

-- what a part's header says
abbrev redundant_of : ℕ → Part → Redundant
redundant_of type b = record { payload_type = type; offset = b.offset; length = length b.bytes }

abbrev redundants_of : ℕ → List Part → List Redundant
redundants_of type [] = []
redundants_of type (b ∷ bs) = redundant_of type b ∷ redundants_of type bs

offset_back : (o n : ℕ) → o ≤ max_offset → n ≤ max_block → 64 * (o / 64) + (4 * (o % 64) + n / 256) / 4 ≡ o
offset_back o n h k = omega arith

length_back : (o n : ℕ) → n ≤ max_block → 256 * ((4 * (o % 64) + n / 256) % 4) + n % 256 ≡ n
length_back o n k = omega arith

block_header_back : (type : ℕ) (b : Part) (rest : List ℕ) → type < 128 → b.offset ≤ max_offset → length b.bytes ≤ max_block
    → block_header (block_header_bytes type b.offset (length b.bytes) ++ rest) ≡ Ok (BlockHeader.Redundant (redundant_of type b))
unfolding block_header
block_header_back type b rest t o n =
    let s = block_header_bytes type b.offset (length b.bytes) ++ rest in
    let e : (128 + type) % 128 ≡ type = omega arith in
    rw (ne_eqb (length s) 0 (omega arith), le-ltb (128 + type) 128 (omega arith), le-ltb (length s) 4 (omega arith))
    (λ i. Ok (BlockHeader.Redundant (record { payload_type = e i; offset = offset_back b.offset (length b.bytes) o n i; length = length_back b.offset (length b.bytes) n i })))

last_header_back : (type : ℕ) (rest : List ℕ) → type < 128 → block_header (type ∷ rest) ≡ Ok (BlockHeader.Primary type)
unfolding block_header
last_header_back type rest t = rw (ne_eqb (suc (length rest)) 0 (omega arith), lt-ltb type 128 t)

length_headers : (type : ℕ) (bs : List Part) → length (headers_bytes type bs) ≡ headers_size (redundants_of type bs)
unfolding headers_bytes headers_size
length_headers type [] = refl
length_headers type (b ∷ bs) = let e = length_headers type bs in omega arith

within_blocks : (type : ℕ) (bs : List Part) (p : List ℕ) → redundant_size (redundants_of type bs) ≤ length (blocks_bytes bs p)
unfolding redundant_size blocks_bytes
within_blocks type [] p = omega arith
within_blocks type (b ∷ bs) p = let e = within_blocks type bs p in rw length-append (omega arith)

module _ (ed : Edition) (st : Settings) (request : ℕ) (bytes : List ℕ) (time type : ℕ) (small : type < 128) where
  headers_back : (counts : List ℕ) (bs : List Part) (p rest : List ℕ) (rs : List Row) → Made ed st request bytes time counts bs p rs → headers (headers_bytes type bs ++ rest) ≡ headers_of (redundants_of type bs) type
  unfolding headers_bytes
  headers_back counts [] p rest rs m = rw (headers_step_lem (type ∷ rest), last_header_back type rest small)
  headers_back counts (b ∷ bs) p rest rs m =
      let next = headers_bytes type bs ++ rest in
      let e = headers_back (later_counts counts) bs p rest (drop (first_count counts) rs) m.1 in
      rw (headers_step_lem (block_header_bytes type b.offset (length b.bytes) ++ next), block_header_back type b next small m.0.near m.0.short) (ap (prepend (redundant_of type b)) e)

-- Blocks

difference_back : (time u : ℕ) → time < 2 ^ 32 → u < 2 ^ 32 → difference time (difference time u) ≡ u
difference_back time u t h = omega arith

difference_none : (time : ℕ) → time < 2 ^ 32 → difference time 0 ≡ time
difference_none time t = omega arith

-- the rows of one list are the primary block's
pub back_last : (s bytes counts : List ℕ) (rs : List Row) (x : Rows) → length counts ≡ 1 → Back s bytes rs (AllMarked primary_mark) x → Back s bytes rs (PrimaryLast counts) x
back_last s bytes counts rs x n b = record { rows = b.rows; read = b.read; same = b.same; heard = one_list counts b.rows n b.heard }

-- the rows of the first list, a redundant block's, and those of the others after them
back_then : (s bytes counts : List ℕ) (rs : List Row) (x : Rows) (next : ℕ → Rows) → 2 ≤ length counts → Back s bytes (take (first_count counts) rs) (AllMarked redundant_mark) x
    → Back s bytes (drop (first_count counts) rs) (PrimaryLast (later_counts counts)) (next (length (take (first_count counts) rs))) → Back s bytes rs (PrimaryLast counts) (then_rows x next)
back_then s bytes counts rs x next h a b =
    let n = first_count counts in
    let k = same_length s bytes a.rows (take n rs) a.same in
    let l = same_length s bytes b.rows (drop n rs) b.same in
    record {
      rows = a.rows ++ b.rows;
      read = rw (a.read, k, b.read);
      same = subst (SameFrames s bytes (a.rows ++ b.rows)) (take-append-drop n rs) (same_append s bytes a.rows (take n rs) b.rows (drop n rs) a.same b.same);
      heard = more_lists counts rs a.rows b.rows h k l a.heard b.heard;
    }

last_block : (ed : Edition) (st : Settings) (done time type at : ℕ) (p : List ℕ) → blocks_rows ed st done time (cut [] type at p) ≡ typed_block_rows ed st done time (block primary_mark type 0 at p)
unfolding blocks_rows cut
last_block ed st done time type at p = then_none (typed_block_rows ed st done time (block primary_mark type 0 at p))

first_block : (ed : Edition) (st : Settings) (done time type at : ℕ) (b : Part) (hs : List Redundant) (c : List ℕ) → blocks_rows ed st done time (cut (redundant_of type b ∷ hs) type at (b.bytes ++ c))
    ≡ then_rows (typed_block_rows ed st done time (block redundant_mark type b.offset at b.bytes)) (λ n. blocks_rows ed st (done + n) time (cut hs type (at + length b.bytes) c))
unfolding blocks_rows cut
first_block ed st done time type at b hs c = rw (take-append_seam b.bytes c, drop-append_seam b.bytes c)

-- the mode request of the blocks is that of the last, which is not empty
blocks_request_lem : (st : Settings) (found at : ℕ) (bs : List Part) (p : List ℕ) → 1 ≤ length p
    → blocks_request st found (cut (redundants_of st.payload_type bs) st.payload_type at (blocks_bytes bs p)) ≡ request_of st.format p
unfolding blocks_request block_request cut blocks_bytes
blocks_request_lem st found at [] p h = rw (eq-eqb st.payload_type st.payload_type refl, ne_eqb (length p) 0 (omega arith))
blocks_request_lem st found at (b ∷ bs) p h =
    rw (take-append_seam b.bytes (blocks_bytes bs p), drop-append_seam b.bytes (blocks_bytes bs p)) (blocks_request_lem st (block_request st found st.payload_type b.bytes) (at + length b.bytes) bs p h)

module _ (ed : Edition) (st : Settings) (request : ℕ) (bytes : List ℕ) (time : ℕ) (some : 1 ≤ st.channels) (t : time < 2 ^ 32) where
  -- a block whose time is its list's, anywhere
  block_back : (mark offset : ℕ) (p : List ℕ) (rs : List Row) → Reads ed st request bytes p rs → difference time offset ≡ first_time rs → (front rest : List ℕ) (done : ℕ) → done + length rs ≤ max_rows ed
      → Back (front ++ (p ++ rest)) bytes rs (AllMarked mark) (typed_block_rows ed st done time (block mark st.payload_type offset (length front) p))
  unfolding typed_block_rows
  block_back mark offset p rs r e front rest done few =
      let b = r.back mark front rest done few in
      record { rows = b.rows; read = rw (eq-eqb st.payload_type st.payload_type refl, ne_eqb (length p) 0 (omega (arith, r.some)), e) b.read; same = b.same; heard = b.heard }

  blocks_back : (counts : List ℕ) (bs : List Part) (p : List ℕ) (rs : List Row) → Made ed st request bytes time counts bs p rs → Times rs → outside (length bytes) rs ≡ false
      → (front : List ℕ) (done : ℕ) → done + length rs ≤ max_rows ed
      → Back (front ++ blocks_bytes bs p) bytes rs (PrimaryLast counts) (blocks_rows ed st done time (cut (redundants_of st.payload_type bs) st.payload_type (length front) (blocks_bytes bs p)))
  unfolding blocks_bytes
  blocks_back counts [] p rs m times inside front done few =
      let x = block_back primary_mark 0 p rs (payload_back ed st request bytes p rs some times inside m.0) (difference_none time t ∙ sym m.1) front [] done few in
      rw (last_block ed st done time st.payload_type (length front) p) (back_last _ bytes counts rs _ m.2 (rw (append-nil p) at x))
  blocks_back counts (b ∷ bs) p rs m times inside front done few =
      let n = first_count counts in
      let c = blocks_bytes bs p in
      let first : Times (take n rs) = times_take n rs times in
      let size : length (take n rs) + length (drop n rs) ≡ length rs = sym (length-append (take n rs) (drop n rs)) ∙ ap (λ (l : List Row). length l) (take-append-drop n rs) in
      let x =
      block_back redundant_mark b.offset b.bytes (take n rs)
      (payload_back ed st request bytes b.bytes (take n rs) some first (outside_take (length bytes) n rs inside) m.0.payload)
      (ap (difference time) m.0.offset ∙ difference_back time (first_time (take n rs)) t (first_small (take n rs) first)) front c done (omega arith) in
      let y =
      blocks_back (later_counts counts) bs p (drop n rs) m.1 (times_drop n rs times) (outside_drop (length bytes) n rs inside) (front ++ b.bytes) (done + length (take n rs)) (omega arith) in
      rw (first_block ed st done time st.payload_type (length front) b (redundants_of st.payload_type bs) c)
      (back_then (front ++ (b.bytes ++ c)) bytes counts rs _ _ m.2 x (rw (append_assoc front b.bytes c, length-append front b.bytes) at y))

  -- the whole payload, after a front
  pub redundant_back : (counts : List ℕ) (bs : List Part) (p : List ℕ) (rs : List Row) → Made ed st request bytes time counts bs p rs → Times rs → outside (length bytes) rs ≡ false → st.payload_type < 128
      → length rs ≤ max_rows ed → length (headers_bytes st.payload_type bs ++ blocks_bytes bs p) ≤ max_packet → (front : List ℕ)
      → Back (front ++ (headers_bytes st.payload_type bs ++ blocks_bytes bs p)) bytes rs (PrimaryLast counts) (redundant_rows ed st time (length front) (headers_bytes st.payload_type bs ++ blocks_bytes bs p))
  unfolding redundant_rows redundancy_headers
  redundant_back counts bs p rs m times inside small few short front =
      let type = st.payload_type in
      let a = headers_bytes type bs in
      let c = blocks_bytes bs p in
      let hs = redundants_of type bs in
      let n = length_headers type bs in
      let room : redundant_size hs ≤ length (a ++ c) - headers_size hs = rw (length-append a c, ← n) (omega (arith, within_blocks type bs p)) in
      let x = blocks_back counts bs p rs m times inside (front ++ a) 0 (omega arith) in
      rw (le-ltb max_packet (length (a ++ c)) short, headers_back ed st request bytes time type small counts bs p c rs m)
      (rw (le-ltb (length (a ++ c) - headers_size hs) (redundant_size hs) room, ← n, drop-append_seam a c) (rw (append_assoc front a c, length-append front a) at x))

  -- the mode request of a made packet is that of its primary payload, the last
  pub primary_request : (counts : List ℕ) (bs : List Part) (p : List ℕ) (rs : List Row) → Made ed st request bytes time counts bs p rs → Times rs → outside (length bytes) rs ≡ false
      → (1 ≤ length p) × (request_of st.format p ≡ read_request st.format request)
  primary_request counts [] p rs m times inside = let r = payload_back ed st request bytes p rs some times inside m.0 in (r.some, r.asked)
  primary_request counts (b ∷ bs) p rs m times inside =
      let n = first_count counts in
      primary_request (later_counts counts) bs p (drop n rs) m.1 (times_drop n rs times) (outside_drop (length bytes) n rs inside)

  pub redundant_request_lem : (counts : List ℕ) (bs : List Part) (p : List ℕ) (rs : List Row) → Made ed st request bytes time counts bs p rs → Times rs → outside (length bytes) rs ≡ false → st.payload_type < 128
      → length (headers_bytes st.payload_type bs ++ blocks_bytes bs p) ≤ max_packet
      → redundant_request st (headers_bytes st.payload_type bs ++ blocks_bytes bs p) ≡ read_request st.format request
  unfolding redundant_request redundancy_headers
  redundant_request_lem counts bs p rs m times inside small short =
      let type = st.payload_type in
      let a = headers_bytes type bs in
      let c = blocks_bytes bs p in
      let r = primary_request counts bs p rs m times inside in
      rw (le-ltb max_packet (length (a ++ c)) short, headers_back ed st request bytes time type small counts bs p c rs m, ← (length_headers type bs), drop-append_seam a c)
      (blocks_request_lem st no_request 0 bs p r.0 ∙ r.1)
