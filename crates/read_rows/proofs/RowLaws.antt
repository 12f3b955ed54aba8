-- Laws of rows, and of a frame-block's.
use Rattle.std.proofs.Common.{◌≡◌, ℕ, zero, suc, ◌+◌, ◌-◌, ◌*◌, ◌/◌, ◌<◌, ◌≤◌, List, [], ◌∷◌, ◌++◌, length, get_or, take, drop, sym, refl, ap, ◌∙◌, suc-mul, add-one, arith}
use borrow.Rule.Slice.PartMut.{put_mid}
use Rattle.rtp.specs.Sizes.{row_width}
use Rattle.rtp.specs.Areas.{over}
use Rattle.rtp.proofs.AreaLaws.{over_none, over_part}
use Rattle.row_tags.specs.Tags.{redundant_mark}
use Rattle.row_tags.proofs.TagLaws.{mark_of, class_of, channel_of}
use Rattle.read_rows.specs.Rows.{Row, row_words, with_mark, words, row_of, rows_in, block_rows, marked}

pub length_words : (rs : List Row) → length (words rs) ≡ row_width * length rs
unfolding words
length_words [] = refl
length_words (r ∷ rs) = let e = length_words rs in omega arith

pub words_append : (a b : List Row) → words (a ++ b) ≡ words a ++ words b
unfolding words
words_append [] b = refl
words_append (r ∷ a) b = rw (words_append a b)

-- rows with a mark
pub length_marked : (mark : ℕ) (rs : List Row) → length (marked mark rs) ≡ length rs
unfolding marked
length_marked mark [] = refl
length_marked mark (r ∷ rs) = ap suc (length_marked mark rs)

pub marked_append : (mark : ℕ) (a b : List Row) → marked mark (a ++ b) ≡ marked mark a ++ marked mark b
unfolding marked
marked_append mark [] b = refl
marked_append mark (r ∷ a) b = rw (marked_append mark a b)

pub length_block : (n c time class start len : ℕ) → length (block_rows n c time class start len) ≡ n
unfolding block_rows
length_block zero c time class start len = refl
length_block (suc n) c time class start len = ap suc (length_block n (c + 1) time class (start + len) len)

-- a frame-block with one channel more
block_more : (n c time class start len : ℕ) → block_rows (suc n) c time class start len
    ≡ block_rows n c time class start len ++ (record { time = time; class = class; channel = c + n; start = start + n * len; length = len; primary = redundant_mark } ∷ [])
unfolding block_rows
block_more zero c time class start len =
    let at : c + 0 ≡ c = omega arith in
    let from : start + 0 * len ≡ start = omega arith in
    rw (at, from)
block_more (suc n) c time class start len =
    let at : c + 1 + n ≡ c + suc n = omega arith in
    let from : start + len + n * len ≡ start + suc n * len = omega (arith, suc-mul n len) in
    rw (block_more n (c + 1) time class (start + len) len, at, from)

single_words : (mark : ℕ) (r : Row) → words (marked mark (r ∷ [])) ≡ row_words (with_mark mark r)
unfolding words marked
single_words mark r = refl

block_words : (mark n time class start len : ℕ) → words (marked mark (block_rows (n + 1) 0 time class start len))
    ≡ words (marked mark (block_rows n 0 time class start len)) ++ row_words (record { time = time; class = class; channel = n; start = start + n * len; length = len; primary = mark })
block_words mark n time class start len =
    let none : 0 + n ≡ n = omega arith in rw (add-one, block_more n 0 time class start len, none, marked_append, words_append, single_words)

-- the words of the rows before that of channel n, and then its words in the area lent on
pub block_put : (mark n time class start len : ℕ) (l m e : List ℕ) → m ≡ over (words (marked mark (block_rows n 0 time class start len))) l
    → e ≡ over (row_words (record { time = time; class = class; channel = n; start = start + n * len; length = len; primary = mark })) (take (length m - row_width * n) (drop (row_width * n) m))
    → put_mid (row_width * n) (length m - row_width * n) m e ≡ over (words (marked mark (block_rows (n + 1) 0 time class start len))) l
block_put mark n time class start len l m e a b =
    let before = block_rows n 0 time class start len in
    over_part (words (marked mark before)) _ l m e (row_width * n)
    (length_words (marked mark before) ∙ ap (λ (x : ℕ). row_width * x) (length_marked mark before ∙ length_block n 0 time class start len)) a b
    ∙ ap (λ (w : List ℕ). over w l) (sym (block_words mark n time class start len))

pub block_none : (mark time class start len : ℕ) (l : List ℕ) → l ≡ over (words (marked mark (block_rows 0 0 time class start len))) l
unfolding words marked block_rows
block_none mark time class start len l = sym (over_none l)

-- what a row's tag can hold
pub record TagFits (r : Row) : Type 0 where
  pub mark : r.primary < 2
  pub class : r.class < 256
  pub channel : r.channel < 256

abbrev pub TagsFit : List Row → Type 0
TagsFit [] = Unit {0}
TagsFit (r ∷ rs) = TagFits r × TagsFit rs

-- rows read off their words again
pub rows_words : (rs : List Row) → TagsFit rs → rows_in (words rs) ≡ rs
unfolding words rows_in
rows_words [] h = refl
rows_words (r ∷ rs) h =
    let k = h.0 in
    let ih = rows_words rs h.1 in
    λ j. record {
      time = r.time;
      class = class_of r.primary r.class r.channel k.mark k.class k.channel j;
      channel = channel_of r.primary r.class r.channel k.channel j;
      start = r.start;
      length = r.length;
      primary = mark_of r.primary r.class r.channel k.mark k.class k.channel j;
    } ∷ ih j

-- Rows in a word area

-- fewer words than a row are no row
pub rows_none : (ws : List ℕ) → length ws < row_width → rows_in ws ≡ []
unfolding rows_in
rows_none [] h = refl
rows_none (a ∷ []) h = refl
rows_none (a ∷ b ∷ []) h = refl
rows_none (a ∷ b ∷ c ∷ []) h = refl
rows_none (a ∷ b ∷ c ∷ d ∷ ws) h = absurd (omega arith)

-- the first row and the others
pub rows_more : (ws : List ℕ) → row_width ≤ length ws → rows_in ws ≡ row_of (get_or ws 0 0) (get_or ws 1 0) (get_or ws 2 0) (get_or ws 3 0) ∷ rows_in (drop row_width ws)
unfolding rows_in
rows_more [] h = absurd (omega arith)
rows_more (a ∷ []) h = absurd (omega arith)
rows_more (a ∷ b ∷ []) h = absurd (omega arith)
rows_more (a ∷ b ∷ c ∷ []) h = absurd (omega arith)
rows_more (a ∷ b ∷ c ∷ d ∷ ws) h = refl

pub length_rows : (ws : List ℕ) → length (rows_in ws) ≡ length ws / row_width
unfolding rows_in
length_rows [] = refl
length_rows (a ∷ []) = refl
length_rows (a ∷ b ∷ []) = refl
length_rows (a ∷ b ∷ c ∷ []) = refl
length_rows (a ∷ b ∷ c ∷ d ∷ ws) = let e = length_rows ws in omega arith
