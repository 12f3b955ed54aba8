-- What every row of a payload is like.
use mathlib.Core.Path.{◌≡◌, refl, sym, subst}
use Rattle.rtp.specs.declared.refusal.Refusal.{Refusal}
use Rattle.read_contents.specs.declared.entries.Sizes.{Sizes}
use Rattle.rtp.specs.declared.refusal.Fault.{Fault}
use Rattle.read_contents.specs.declared.entries.Entry.{Entry}
use Rattle.std.specs.Prelude.{None, Option, Some, Err, Ok, Result}
use Rattle.formats.specs.declared.frames.Frame.{Frame}
use mathlib.Core.List.{List, [], ◌∷◌, ◌++◌}
use mathlib.Core.Bool.{Bool}
use Prim.Native.Nat.{ℕ, zero, suc, ◌+◌, ◌*◌, ◌^◌, ◌≤◌, ◌<◌}
use native.Mathlib.Omega.{arith}
use native.Mathlib.Nat.{suc-mul, add-mul}
use lib.ListN.{length, drop, length-drop}
use lib.Dec.{ltb, eqb}
use borrow.Author.Tests.{ltb-true, ltb-false, eqb-true}
use Rattle.rtp.specs.Editions.{Edition}
use Rattle.rtp.specs.Sizes.{max_rows}
use Rattle.rtp.specs.Numbers.{byte_at}
use Rattle.rtp.proofs.TestLaws.{by-test}
use Rattle.formats.specs.Formats.{format_of}
use Rattle.formats.specs.Frames.{frame_of, step_of}
use Rattle.frame_codes.specs.Codes.{no_code, code_for}
use Rattle.read_contents.specs.Contents.{min_entry, code_in, blocks_in, entry_size, coded_entry, entry_of, Group, Contents, refused, groups, meaning, prepend, contents_step, contents, pass_first, size_in, frames_in, sizes_answer}
use Rattle.read_rows.specs.Rows.{Row, placed, next_place, time_after, block_rows, group_rows, table_rows, marked}
use Rattle.read_rows.specs.Tables.{exact}
use Rattle.read_rows.proofs.RowLaws.{length_marked}
use Rattle.read_payload.specs.Payloads.{table_start, starting_at, body, payload, Rows, no_rows, rows_of, placed_rows, payload_rows}
use Rattle.frame_codes.proofs.CodeLaws.{code_some}
use Rattle.read_contents.proofs.EntryLaws.{code_in_lem}
use Rattle.read_contents.proofs.ContentsLaws.{contents_step_lem, shorter, Within, within}
use Rattle.read_rows.proofs.FirstLaws.{sizes_passed}
use Rattle.read_payload.proofs.PayloadLaws.{length_table, pay_headless}

-- a row that was read: its frame is one of the format, its channel one of ch, its time a word, its mark 0 or 1, and its bytes lie within n
pub record RowFine (format ch n : ℕ) (r : Row) : Type 0 where
  pub coded : code_for format r.class r.length < no_code
  pub channel : r.channel < ch
  pub word : r.time < 2 ^ 32
  pub mark : r.primary < 2
  pub inside : r.start + r.length ≤ n

abbrev pub AllRows : (Row → Type 0) → List Row → Type 0
AllRows P [] = Unit {0}
AllRows P (r ∷ rs) = P r × AllRows P rs

pub all_append : (P : Row → Type 0) (a b : List Row) → AllRows P a → AllRows P b → AllRows P (a ++ b)
all_append P [] b h k = k
all_append P (r ∷ a) b h k = (h.0, all_append P a b h.1 k)

-- The groups of a table: their frames are frames of the format

abbrev AllCoded : ℕ → List Group → Type 0
AllCoded format [] = Unit {0}
AllCoded format (g ∷ gs) = (code_for format g.class g.length < no_code) × AllCoded format gs

abbrev CodedIn : ℕ → Contents → Type 0
CodedIn format (refused r) = Unit {0}
CodedIn format (groups gs) = AllCoded format gs

abbrev EntryCoded : ℕ → Result Entry Refusal → Type 0
EntryCoded format (Err r) = Unit {0}
EntryCoded format (Ok e) = code_for format e.class e.length < no_code

frame_coded : (format code blocks size : ℕ) (m : Bool) (c : Option Frame) → code < (format_of format).codes → frame_of format code ≡ c → EntryCoded format (coded_entry m blocks size c)
frame_coded format code blocks size m None l q = tt
frame_coded format code blocks size m (Some f) l q = by-test (eqb blocks 0) (λ a. rw a tt) (λ a. rw a (code_some format f.class f.length code l q))

entry_coded : (format : ℕ) (s : List ℕ) → EntryCoded format (entry_of format s)
unfolding entry_of
entry_coded format s =
    by-test (ltb (length s) (min_entry format)) (λ a. rw a tt)
    (λ a. by-test (ltb (length s) (entry_size format (blocks_in format s))) (λ b. rw (a, b) tt)
    (λ b. rw (a, b) (frame_coded format (code_in format (byte_at s 0)) _ _ _ (frame_of format (code_in format (byte_at s 0))) (code_in_lem format (byte_at s 0)) refl)))

coded_more : (format n : ℕ) (g : Group) (p : Contents) → code_for format g.class g.length < no_code → CodedIn format p → CodedIn format (prepend n g p)
coded_more format n g (refused r) h k = tt
coded_more format n g (groups gs) h k = (h, k)

-- the first entry's DIS1 has no part in it
coded_passed : (format : ℕ) (p : Contents) → CodedIn format p → CodedIn format (pass_first p)
coded_passed format (refused r) h = tt
coded_passed format (groups []) h = tt
coded_passed format (groups (g ∷ gs)) h = h

coded_step : (ed : Edition) (format ch rows : ℕ) (s : List ℕ) → ((n : ℕ) (t : List ℕ) → length t < length s → CodedIn format (contents ed format ch n t))
    → (r : Result Entry Refusal) → entry_of format s ≡ r → CodedIn format (contents_step ed format ch rows s (λ n t. contents ed format ch n t) r)
unfolding meaning
coded_step ed format ch rows s ih (Err r) q = tt
coded_step ed format ch rows s ih (Ok e) q =
    let c : code_for format e.class e.length < no_code = subst (EntryCoded format) q (entry_coded format s) in
    by-test (ltb (max_rows ed) (rows + e.blocks * ch)) (λ a. rw a tt)
    (λ a. by-test e.more
    (λ m. rw (a, m) (coded_more format e.size (meaning format s e) (contents ed format ch (rows + e.blocks * ch) (drop e.size s)) c
    (ih (rows + e.blocks * ch) (drop e.size s) (shorter format s e q))))
    (λ m. rw (a, m) (c, tt)))

coded_by : (ed : Edition) (f format ch rows : ℕ) (s : List ℕ) → length s < f → CodedIn format (contents ed format ch rows s)
coded_by ed zero format ch rows s h = absurd (omega arith)
coded_by ed (suc f) format ch rows s h =
    rw (contents_step_lem ed) (coded_step ed format ch rows s (λ n t l. coded_by ed f format ch n t (omega arith)) (entry_of format s) refl)

-- The rows of a table whose frames end within n bytes

module _ (format n : ℕ) where
  block_fine : (ch k c time class start len : ℕ) → code_for format class len < no_code → c + k ≤ ch → time < 2 ^ 32 → start + k * len ≤ n
      → AllRows (RowFine format ch n) (block_rows k c time class start len)
  unfolding block_rows
  block_fine ch zero c time class start len h i w e = tt
  block_fine ch (suc k) c time class start len h i w e =
      let m = suc-mul k len in
      (record { coded = h; channel = omega arith; word = w; mark = omega arith; inside = omega arith }, block_fine ch k (c + 1) time class (start + len) len h (omega arith) w (omega arith))

  group_fine : (step ch time class start len : ℕ) (gs : List ℕ) → code_for format class len < no_code → start + length gs * ch * len ≤ n
      → AllRows (RowFine format ch n) (group_rows step ch time class start len gs)
  unfolding group_rows
  group_fine step ch time class start len [] h e = tt
  group_fine step ch time class start len (g ∷ gs) h e =
      let m : suc (length gs) * ch * len ≡ length gs * ch * len + ch * len = rw suc-mul (add-mul (length gs * ch) ch len) in
      all_append _ (block_rows ch 0 (placed step time g) class start len) _
      (block_fine ch ch 0 (placed step time g) class start len h (omega arith) (omega arith) (omega arith))
      (group_fine step ch (next_place step time g) class (start + ch * len) len gs h (omega arith))

  table_fine : (step ch time start : ℕ) (gs : List Group) → AllCoded format gs → start + frames_in ch gs ≤ n
      → AllRows (RowFine format ch n) (table_rows step ch time start gs)
  unfolding table_rows frames_in
  table_fine step ch time start [] h e = tt
  table_fine step ch time start (g ∷ gs) h e =
      all_append _ (group_rows step ch time g.class start g.length g.gaps) _
      (group_fine step ch time g.class start g.length g.gaps h.0 (omega arith))
      (table_fine step ch (time_after step time g.gaps) (start + length g.gaps * ch * g.length) gs h.1 (omega arith))

-- with another mark
marked_fine : (format ch n mark : ℕ) (rs : List Row) → mark < 2 → AllRows (RowFine format ch n) rs → AllRows (RowFine format ch n) (marked mark rs)
unfolding marked
marked_fine format ch n mark [] l h = tt
marked_fine format ch n mark (r ∷ rs) l h =
    (record { coded = h.0.coded; channel = h.0.channel; word = h.0.word; mark = l; inside = h.0.inside }, marked_fine format ch n mark rs l h.1)

-- The rows of a payload that ends within n bytes, after `done` rows of the same packet

abbrev pub FineRows : Edition → ℕ → ℕ → ℕ → ℕ → Rows → Type 0
FineRows ed format ch n done (no_rows r) = Unit {0}
FineRows ed format ch n done (rows_of rs) = AllRows (RowFine format ch n) rs × (done + length rs ≤ max_rows ed)

placed_fine : (ed : Edition) (mark format ch n done time at k size : ℕ) (p : Contents) → mark < 2 → at + (format_of format).header + size ≤ n → CodedIn format p → Within ed done size (sizes_answer format ch p)
    → FineRows ed format ch n done (placed_rows mark format ch time at (starting_at k (exact format ch size p)))
unfolding placed_rows sizes_answer
placed_fine ed mark format ch n done time at k size (refused r) l e h w = tt
placed_fine ed mark format ch n done time at k size (groups gs) l e h w =
    by-test (eqb (size_in format gs + frames_in ch gs) size)
    (λ a.
    let m = eqb-true (size_in format gs + frames_in ch gs) size a in
    let rs = table_rows (step_of format) ch time (at + (format_of format).header + size_in format gs) gs in
    rw a (marked_fine format ch n mark rs l (table_fine format n (step_of format) ch time (at + (format_of format).header + size_in format gs) gs h (omega arith)), rw (length_marked, length_table) w.few))
    (λ a. rw a tt)

pub payload_fine : (ed : Edition) (mark format ch n done time at : ℕ) (s : List ℕ) → mark < 2 → at + length s ≤ n → FineRows ed format ch n done (payload_rows ed mark format ch done time at s)
unfolding payload_rows payload
payload_fine ed mark format ch n done time at s l e =
    let b = body format s in
    let p = contents ed format ch done b in
    by-test (ltb (length s) (format_of format).header)
    (λ a. rw (pay_headless ed mark format ch done time at s (ltb-true (length s) (format_of format).header a)) tt)
    (λ a. placed_fine ed mark format ch n done time at (table_start format s) (length b) (pass_first p) l (rw length-drop (omega (arith, ltb-false (length s) (format_of format).header a)))
    (coded_passed format p (coded_by ed (suc (length b)) format ch done b (omega arith)))
    (subst (λ (x : Result Sizes Fault). Within ed done (length b) x) (sym (sizes_passed format ch p)) (within ed format ch done b)))
