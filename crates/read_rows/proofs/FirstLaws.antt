-- The first entry's DIS1 passed over: a table's sizes stay, and its rows are those counted from a time before the payload's.
use Rattle.std.proofs.Common.{◌≡◌, ℕ, zero, suc, ◌+◌, ◌*◌, ◌%◌, ◌^◌, ◌<◌, ◌≤◌, ltb, List, [], ◌∷◌, ◌++◌, length, drop, sym, refl, ap, subst, arith, ltb-false, ltb-true, lt-ltb}
use Rattle.std.specs.Prelude.{Err, Ok, Result}
use Rattle.rtp.specs.declared.refusal.Refusal.{Refusal}
use Rattle.rtp.specs.Editions.{Edition}
use Rattle.rtp.specs.Sizes.{max_rows}
use Rattle.rtp.specs.Time.{difference}
use Rattle.rtp.specs.Faults.{fault}
use Rattle.rtp.specs.declared.refusal.Refusal.TheVariants.{TooManyRows}
use Rattle.rtp.proofs.TestLaws.{by-test}
use Rattle.formats.specs.Frames.{step_of}
use Rattle.read_contents.specs.declared.entries.Entry.{Entry}
use Rattle.read_contents.specs.Contents.{entry_of, Group, Contents, refused, groups, gap_at, gaps_from, meaning, prepend, contents, direct, pass_first, row_count, size_in, frames_in, sizes_answer}
use Rattle.read_rows.specs.Rows.{Row, placed, time_after, block_rows, group_rows, table_rows, words, marked}
use Rattle.read_rows.specs.Room.{contents_words}
use Rattle.read_contents.proofs.EntryLaws.{fair}
use Rattle.read_contents.proofs.ContentsLaws.{contents_step_lem, contents_refused, contents_last, contents_more}

pub length_direct : (gaps : List ℕ) → length (direct gaps) ≡ length gaps
length_direct [] = refl
length_direct (g ∷ gs) = refl

pub sizes_passed : (format ch : ℕ) (p : Contents) → sizes_answer format ch (pass_first p) ≡ sizes_answer format ch p
unfolding sizes_answer row_count size_in frames_in
sizes_passed format ch (refused r) = refl
sizes_passed format ch (groups []) = refl
sizes_passed format ch (groups (g ∷ gs)) = rw (length_direct g.gaps)

-- The first gap of a table that was read

abbrev pub Begins : ℕ → Contents → Type 0
Begins d (refused r) = Unit {0}
Begins d (groups []) = Unit {0}
Begins d (groups (g ∷ gs)) = (rest : List ℕ) × (g.gaps ≡ d ∷ rest)

begins_group : (format : ℕ) (s : List ℕ) (e : Entry) → 1 ≤ e.blocks → (rest : List ℕ) × ((meaning format s e).gaps ≡ gap_at format s 0 ∷ rest)
unfolding meaning gaps_from
begins_group format s e h = go e.blocks h
  where
    go : (n : ℕ) → 1 ≤ n → (rest : List ℕ) × (gaps_from format s 0 n ≡ gap_at format s 0 ∷ rest)
    go zero l = absurd (omega arith)
    go (suc n) l = (gaps_from format s 1 n, refl)

begins_prepend : (d n : ℕ) (g : Group) (p : Contents) → (rest : List ℕ) × (g.gaps ≡ d ∷ rest) → Begins d (prepend n g p)
begins_prepend d n g (refused r) h = tt
begins_prepend d n g (groups gs) h = h

module _ (ed : Edition) (format ch done : ℕ) (s : List ℕ) where
  contents_many : (e : Entry) → entry_of format s ≡ Ok e → max_rows ed < done + e.blocks * ch → contents ed format ch done s ≡ refused (fault TooManyRows)
  contents_many e h l = rw (contents_step_lem ed, h) (simp (lt-ltb _ _ l))

  pub begins : Begins (gap_at format s 0) (contents ed format ch done s)
  begins = go (entry_of format s) refl
    where
      go : (r : Result Entry Refusal) → entry_of format s ≡ r → Begins (gap_at format s 0) (contents ed format ch done s)
      go (Err n) q = rw (contents_refused ed format ch done s n q) tt
      go (Ok e) q =
          let b = begins_group format s e (fair format s e q).blocks_some in
          by-test (ltb (max_rows ed) (done + e.blocks * ch))
          (λ a. rw (contents_many e q (ltb-true _ _ a)) tt)
          (λ a. by-test e.more
          (λ m. rw (contents_more ed format ch done s e q (ltb-false _ _ a) m) (begins_prepend (gap_at format s 0) e.size (meaning format s e) (contents ed format ch (done + e.blocks * ch) (drop e.size s)) b))
          (λ m. rw (contents_last ed format ch done s e q (ltb-false _ _ a) m) b))

-- Rows counted from a time before

table_from : (step ch start class len t u d : ℕ) (rest : List ℕ) (gs : List Group) → placed step t d ≡ placed step u 0
    → table_rows step ch t start (record { class = class; length = len; gaps = d ∷ rest } ∷ gs) ≡ table_rows step ch u start (record { class = class; length = len; gaps = 0 ∷ rest } ∷ gs)
unfolding table_rows group_rows time_after
table_from step ch start class len t u d rest gs h =
    ap (λ (x : ℕ). (block_rows ch 0 x class start len ++ group_rows step ch ((x + step) % 2 ^ 32) class (start + ch * len) len rest)
    ++ table_rows step ch (time_after step ((x + step) % 2 ^ 32) rest) (start + suc (length rest) * ch * len) gs) h

pub words_from : (mark format ch d time start : ℕ) (p : Contents) → time < 2 ^ 32 → d * step_of format ≤ 2 ^ 32 → Begins d p
    → contents_words mark format ch (difference time (d * step_of format)) start p ≡ contents_words mark format ch time start (pass_first p)
unfolding contents_words table_rows
words_from mark format ch d time start (refused r) w m b = refl
words_from mark format ch d time start (groups []) w m b = refl
words_from mark format ch d time start (groups (g ∷ gs)) w m b =
    let step = step_of format in
    let same : placed step (difference time (d * step)) d ≡ placed step time 0 = omega arith in
    subst
    (λ (x : List ℕ). words (marked mark (table_rows step ch (difference time (d * step)) start (record { class = g.class; length = g.length; gaps = x } ∷ gs)))
    ≡ words (marked mark (table_rows step ch time start (record { class = g.class; length = g.length; gaps = direct x } ∷ gs))))
    (sym b.1) (ap (λ (rs : List Row). words (marked mark rs)) (table_from step ch start g.class g.length (difference time (d * step)) time d b.0 gs same))
