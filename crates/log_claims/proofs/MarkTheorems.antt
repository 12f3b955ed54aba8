-- The mark that rows are given with is ignored, and bits above it belong to a row's class, which no format has.
use mathlib.Core.Path.{◌≡◌, refl, ap, subst}
use mathlib.Core.List.{List, [], ◌∷◌, ◌++◌}
use mathlib.Core.Bool.{true, false}
use Prim.Native.Nat.{ℕ, ◌%◌, ◌≤◌}
use native.Mathlib.Omega.{arith}
use lib.ListN.{length}
use lib.Dec.{ltb, eqb}
use borrow.Author.Tests.{ltb-true}
use Rattle.rtp.specs.Editions.{Edition}
use Rattle.rtp.specs.Sizes.{row_width}
use Rattle.rtp.specs.declared.settings.Settings.{Settings}
use Rattle.rtp.proofs.TestLaws.{by-test, both, either}
use Rattle.formats.specs.Frames.{no_data, max_class}
use Rattle.row_tags.specs.Tags.{redundant_mark, tag_mark, tag_class, tag_channel}
use Rattle.frame_codes.specs.Codes.{no_code, code_for}
use Rattle.frame_codes.proofs.CodeLaws.{code_small}
use Rattle.read_rows.specs.Rows.{Row, row_of, rows_in, marked}
use Rattle.read_rows.proofs.RowLaws.{length_marked}
use Rattle.write_plan.specs.Lists.{whole, outside}
use Rattle.log_writer.specs.FieldBytes.{max_frames}
use Rattle.log_writer.specs.Writings.{row_bytes, rows_bytes, log_bytes, row_fits, all_fit, loggable, writing}
use Rattle.write_claims.specs.Marks.{cleared_tag, cleared, BitAbove}
use Rattle.log_claims.specs.Claims.{MarkIgnored, BitAboveRefused}

-- Words with bit 16 of each second word cleared

class_cleared : (tag : ℕ) → tag_class (cleared_tag tag) ≡ tag_class tag
class_cleared tag = omega arith

channel_cleared : (tag : ℕ) → tag_channel (cleared_tag tag) ≡ tag_channel tag
channel_cleared tag = omega arith

mark_cleared : (tag : ℕ) → tag_mark (cleared_tag tag) ≡ redundant_mark
mark_cleared tag = omega arith

length_cleared : (ws : List ℕ) → length (cleared ws) ≡ length ws
unfolding cleared
length_cleared [] = refl
length_cleared (a ∷ []) = refl
length_cleared (a ∷ b ∷ []) = refl
length_cleared (a ∷ b ∷ c ∷ []) = refl
length_cleared (a ∷ b ∷ c ∷ d ∷ ws) = let e = length_cleared ws in omega arith

rows_cleared : (ws : List ℕ) → rows_in (cleared ws) ≡ marked redundant_mark (rows_in ws)
unfolding cleared rows_in marked
rows_cleared [] = refl
rows_cleared (a ∷ []) = refl
rows_cleared (a ∷ b ∷ []) = refl
rows_cleared (a ∷ b ∷ c ∷ []) = refl
rows_cleared (a ∷ b ∷ c ∷ d ∷ ws) =
    let e = rows_cleared ws in
    λ j. record { time = a; class = class_cleared b j; channel = channel_cleared b j; start = c; length = d; primary = mark_cleared b j } ∷ e j

-- Rows with another mark

module _ (mark : ℕ) where
  outside_marked : (n : ℕ) (rs : List Row) → outside n (marked mark rs) ≡ outside n rs
  unfolding outside marked
  outside_marked n [] = refl
  outside_marked n (r ∷ rs) = rw (outside_marked n rs)

  fit_marked : (st : Settings) (rs : List Row) → all_fit st (marked mark rs) ≡ all_fit st rs
  unfolding all_fit marked
  fit_marked st [] = refl
  fit_marked st (r ∷ rs) = rw (fit_marked st rs)

  bytes_marked : (bytes : List ℕ) (rs : List Row) → rows_bytes bytes (marked mark rs) ≡ rows_bytes bytes rs
  unfolding rows_bytes marked
  bytes_marked bytes [] = refl
  bytes_marked bytes (r ∷ rs) = ap (λ (l : List ℕ). row_bytes bytes r ++ l) (bytes_marked bytes rs)

pub mark_ignored : (ed : Edition) → MarkIgnored ed
unfolding writing loggable log_bytes
mark_ignored ed st ws bytes area =
    let rs = rows_in ws in
    rw (
      rows_cleared ws,
      length_cleared ws,
      outside_marked redundant_mark (length bytes) rs,
      fit_marked redundant_mark st rs,
      bytes_marked redundant_mark bytes rs,
      length_marked redundant_mark rs,
    )

-- A row that fits is of a class that there is

known : (st : Settings) (r : Row) → row_fits st r ≡ true → r.class ≤ max_class
known st r h =
    let a = both (ltb r.channel st.channels) _ h in
    let b = either (eqb r.class no_data) _ a.1 in
    (code_small st.format r.class r.length (ltb-true (code_for st.format r.class r.length) no_code b.1)).classes

known_tag : (st : Settings) (before : List ℕ) (time tag start size : ℕ) (after : List ℕ) → length before % row_width ≡ 0
    → all_fit st (rows_in (before ++ time ∷ tag ∷ start ∷ size ∷ after)) ≡ true → tag_class tag ≤ max_class
unfolding rows_in all_fit
known_tag st [] time tag start size after h k = known st (row_of time tag start size) (both (row_fits st (row_of time tag start size)) _ k).0
known_tag st (a ∷ []) time tag start size after h k = absurd (omega arith)
known_tag st (a ∷ b ∷ []) time tag start size after h k = absurd (omega arith)
known_tag st (a ∷ b ∷ c ∷ []) time tag start size after h k = absurd (omega arith)
known_tag st (a ∷ b ∷ c ∷ d ∷ before) time tag start size after h k =
    known_tag st before time tag start size after (omega arith) (both (row_fits st (row_of a b c d)) _ k).1

unknown : (st : Settings) (ws : List ℕ) → BitAbove ws → all_fit st (rows_in ws) ≡ true → ⊥
unknown st ws b k =
    let h = known_tag st b.before b.time b.tag b.start b.size b.after b.rows (subst (λ (l : List ℕ). all_fit st (rows_in l) ≡ true) b.is k) in
    omega (arith, h, b.above)

not_loggable : (st : Settings) (ws : List ℕ) → BitAbove ws → loggable st ws ≡ false
unfolding loggable
not_loggable st ws b =
    by-test (whole ws)
    (λ w. by-test (ltb max_frames (length (rows_in ws))) (λ n. rw (w, n))
    (λ n. by-test (all_fit st (rows_in ws)) (λ k. absurd (unknown st ws b k)) (λ k. rw (w, n, k))))
    (λ w. rw w)

pub bit_above_refused : (ed : Edition) → BitAboveRefused ed
unfolding writing
bit_above_refused ed st ws bytes area range inside b = rw (range, inside, not_loggable st ws b)
