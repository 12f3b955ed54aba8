-- Laws of the rows of a log: one after another, whether the settings allow them, how many bytes their fields take, and how these are laid.
use mathlib.Core.Path.{◌≡◌, refl, ap, sym, ◌∙◌}
use mathlib.Core.List.{List, [], ◌∷◌, ◌++◌, append_assoc, append-nil}
use mathlib.Core.Bool.{Bool, true, false, cond}
use Prim.Native.Nat.{ℕ, ◌+◌, ◌-◌, ◌*◌, ◌≤◌, ◌<◌}
use native.Mathlib.Omega.{arith}
use lib.ListN.{length, take, drop, length-append, length-drop, take-append-drop, drop_of_length-le}
use lib.Seq.{take_at, drop_at, length-take-le}
use lib.Dec.{ltb}
use borrow.Author.Tests.{ltb-false}
use borrow.Rule.Slice.PartMut.{put_mid, same_len_mid}
use Rattle.rtp.specs.Sizes.{row_width, max_frame}
use Rattle.rtp.specs.Areas.{over}
use Rattle.rtp.specs.declared.settings.Settings.{Settings}
use Rattle.rtp.proofs.TestLaws.{both, neither}
use Rattle.rtp.proofs.AreaLaws.{over_none, over_more, length_over, part_to_end, part_length, part_cut, part_size}
use Rattle.row_tags.specs.Tags.{tag_class, tag_channel}
use Rattle.read_rows.specs.Rows.{Row, frame_in, rows_in}
use Rattle.write_plan.specs.Lists.{outside}
use Rattle.write_plan.specs.Room.{words_at, row_as}
use Rattle.write_plan.specs.declared.lists.RowWords.{RowWords}
use Rattle.write_plan.proofs.ListLaws.{rows_none}
use Rattle.log_writer.specs.FieldBytes.{frame_bytes}
use Rattle.log_writer.specs.Writings.{row_bytes, rows_bytes, row_fits, all_fit}
use Rattle.log_writer.specs.Room.{frame_start, rows_size, SmallRow, SmallRows, RowRoom, RowsRoom}
use Rattle.log_writer.proofs.FieldBytesLaws.{length_frame, fits_small}

-- The next row of words, and the rows behind it

next_row : (x t : List ℕ) → length x ≡ row_width → rows_in (x ++ t) ≡ row_as (words_at x 0) ∷ rows_in t
unfolding rows_in
next_row [] t h = absurd (omega arith)
next_row (a ∷ []) t h = absurd (omega arith)
next_row (a ∷ b ∷ []) t h = absurd (omega arith)
next_row (a ∷ b ∷ c ∷ []) t h = absurd (omega arith)
next_row (a ∷ b ∷ c ∷ d ∷ []) t h = refl
next_row (a ∷ b ∷ c ∷ d ∷ e ∷ x) t h = absurd (omega arith)

module _ (ws x t : List ℕ) (w : RowWords) (e : ws ≡ x ++ t) (h : length x ≡ row_width) (k : w ≡ words_at x 0) where
  pub row_next : rows_in ws ≡ row_as w ∷ rows_in t
  row_next = ap rows_in e ∙ next_row x t h ∙ ap (λ (v : RowWords). row_as v ∷ rows_in t) (sym k)

  pub size_next : rows_size (rows_in ws) ≡ (frame_start + w.length) + rows_size (rows_in t)
  unfolding rows_size
  size_next = ap rows_size row_next

pub size_none : (ws : List ℕ) → length ws < row_width → rows_size (rows_in ws) ≡ 0
unfolding rows_size
size_none ws h = ap rows_size (rows_none ws h)

-- Whether the settings allow them

module _ (st : Settings) (rs : List Row) where
  pub fit_none : rs ≡ [] → all_fit st rs ≡ true
  unfolding all_fit
  fit_none e = ap (all_fit st) e

  module _ (r : Row) (rest : List Row) (e : rs ≡ r ∷ rest) where
    pub fit_not : row_fits st r ≡ false → all_fit st rs ≡ false
    unfolding all_fit
    fit_not f = ap (all_fit st) e ∙ ap (λ (b : Bool). cond b (all_fit st rest) false) f

    pub fit_more : row_fits st r ≡ true → all_fit st rs ≡ all_fit st rest
    unfolding all_fit
    fit_more f = ap (all_fit st) e ∙ ap (λ (b : Bool). cond b (all_fit st rest) false) f

pub fit_small : (st : Settings) (rs : List Row) → all_fit st rs ≡ true → SmallRows rs
unfolding all_fit
fit_small st [] h = tt
fit_small st (r ∷ rs) h =
    let b = both (row_fits st r) (all_fit st rs) h in
    let s = fits_small st r.channel r.class r.length b.0 in
    (record { class = s.classes; short = s.short }, fit_small st rs b.1)

-- How many bytes their fields take

pub size_bound : (rs : List Row) → SmallRows rs → rows_size rs ≤ (frame_start + max_frame) * length rs
unfolding rows_size
size_bound [] s = omega arith
size_bound (r ∷ rs) s = let i = size_bound rs s.1 in let h = s.0.short in omega arith

inside_more : (n : ℕ) (r : Row) (rs : List Row) → outside n (r ∷ rs) ≡ false → (r.start + r.length ≤ n) × (outside n rs ≡ false)
unfolding outside
inside_more n r rs h = let i = neither (ltb n (r.start + r.length)) (outside n rs) h in (ltb-false n (r.start + r.length) i.0, i.1)

length_row : (bytes : List ℕ) (r : Row) → r.start + r.length ≤ length bytes → length (row_bytes bytes r) ≡ frame_start + r.length
length_row bytes r h = length_frame r.time r.channel r.class (frame_in bytes r) ∙ ap (λ (n : ℕ). frame_start + n) (part_size bytes r.start r.length h)

pub length_fields : (bytes : List ℕ) (rs : List Row) → outside (length bytes) rs ≡ false → length (rows_bytes bytes rs) ≡ rows_size rs
unfolding rows_bytes rows_size
length_fields bytes [] h = refl
length_fields bytes (r ∷ rs) h =
    let i = inside_more (length bytes) r rs h in
    length-append (row_bytes bytes r) (rows_bytes bytes rs) ∙ rw (length_row bytes r i.0, length_fields bytes rs i.1)

-- How they are laid

-- a row's field
pub row_laid : (w : RowWords) (bytes l m : List ℕ) (channel class : ℕ) → channel ≡ tag_channel w.tag → class ≡ tag_class w.tag
    → m ≡ over (frame_bytes w.time channel class (take (w.start + w.length - w.start) (drop w.start bytes))) l → m ≡ over (row_bytes bytes (row_as w)) l
row_laid w bytes l m channel class h k e = e ∙ rw (h, k, part_cut w.start w.length bytes)

-- the area with ws written over it from a place on
abbrev pub over_from : ℕ → List ℕ → List ℕ → List ℕ
over_from place ws l = take place l ++ over ws (drop place l)

from_end : (place : ℕ) (l : List ℕ) → over_from place [] l ≡ l
from_end place l = rw over_none (take-append-drop place l)

over_split : (a l : List ℕ) → over a l ≡ a ++ drop (length a) l
unfolding over
over_split a l = refl

-- the area from a place on, lent and written over, and then more behind it
from_more : (place : ℕ) (a b l e : List ℕ) → place ≤ length l → e ≡ over a (take (length l - place) (drop place l))
    → over_from (place + length a) b (put_mid place (length l - place) l e) ≡ over_from place (a ++ b) l
from_more place a b l e h q =
    let front = take place l ++ a in
    let rest = drop (length a) (drop place l) in
    let m : put_mid place (length l - place) l e ≡ front ++ rest =
    ap (λ (x : List ℕ). take place l ++ x) (ap (λ (x : List ℕ). e ++ x) (drop_of_length-le (drop place l) {i = length l - place} (simp length-drop (omega arith))) ∙ append-nil e ∙ q ∙ ap (over a) (part_to_end place l) ∙ over_split a (drop place l))
    ∙ sym (append_assoc (take place l) a rest) in
    let n : length front ≡ place + length a = length-append (take place l) a ∙ ap (λ (k : ℕ). k + length a) (length-take-le place l h) in
    ap (over_from (place + length a) b) m
    ∙ ap (λ (x : List ℕ). x ++ over b (drop (place + length a) (front ++ rest))) (take_at front rest (place + length a) n)
    ∙ ap (λ (x : List ℕ). front ++ over b x) (drop_at front rest (place + length a) n)
    ∙ append_assoc (take place l) a (over b rest)
    ∙ ap (λ (x : List ℕ). take place l ++ x) (sym (over_more a b (drop place l)))

-- after the rows before the rest, whose fields end at a place: the others have room, and with them all is done
pub record Going (ws bytes l m rest : List ℕ) (place : ℕ) : Type 0 where
  pub small : SmallRows (rows_in rest)
  pub inside : outside (length bytes) (rows_in rest) ≡ false
  pub room : place + rows_size (rows_in rest) ≤ length m
  pub kept : length m ≡ length l
  pub laid : over_from place (rows_bytes bytes (rows_in rest)) m ≡ over (rows_bytes bytes (rows_in ws)) l

pub going_start : (ws bytes l : List ℕ) → RowsRoom (rows_in ws) (length bytes) (length l) → Going ws bytes l l ws 0
going_start ws bytes l r = record { small = r.small; inside = r.inside; room = omega (arith, r.room); kept = refl; laid = refl }

module _ (ws bytes l m rest : List ℕ) (place : ℕ) (g : Going ws bytes l m rest place) where
  pub going_end : rows_in rest ≡ [] → m ≡ over (rows_bytes bytes (rows_in ws)) l
  unfolding rows_bytes
  going_end e = sym (from_end place m) ∙ ap (λ (rs : List Row). over_from place (rows_bytes bytes rs) m) (sym e) ∙ g.laid

  module _ (r : Row) (next : List ℕ) (e : rows_in rest ≡ r ∷ rows_in next) where
    small_here : SmallRow r × SmallRows (rows_in next)
    small_here = rw e at g.small

    inside_here : (r.start + r.length ≤ length bytes) × (outside (length bytes) (rows_in next) ≡ false)
    inside_here = inside_more (length bytes) r _ (rw e at g.inside)

    bytes_here : rows_bytes bytes (rows_in rest) ≡ row_bytes bytes r ++ rows_bytes bytes (rows_in next)
    unfolding rows_bytes
    bytes_here = ap (rows_bytes bytes) e

    size_here : rows_size (rows_in rest) ≡ (frame_start + r.length) + rows_size (rows_in next)
    unfolding rows_size
    size_here = ap rows_size e

    pub going_room : RowRoom r (length bytes) (length (take (length m - place) (drop place m)))
    going_room = record {
      small = small_here.0;
      inside = inside_here.0;
      room = rw (part_length m m place refl) (omega (arith, size_here, g.room));
    }

    pub going_more : (z : List ℕ) → z ≡ over (row_bytes bytes r) (take (length m - place) (drop place m))
        → Going ws bytes l (put_mid place (length m - place) m z) next (place + (frame_start + r.length))
    going_more z q =
        let n = length_row bytes r inside_here.0 in
        let i : length (row_bytes bytes r) ≤ length (take (length m - place) (drop place m)) = rw n going_room.room in
        let k : length (put_mid place (length m - place) m z) ≡ length m = same_len_mid place (length m - place) m z (ap length q ∙ length_over (row_bytes bytes r) (take (length m - place) (drop place m)) i) in
        record {
          small = small_here.1;
          inside = inside_here.1;
          room = omega (arith, k, size_here, g.room);
          kept = k ∙ g.kept;
          laid =
              ap (λ (s : ℕ). over_from (place + s) (rows_bytes bytes (rows_in next)) (put_mid place (length m - place) m z)) (sym n)
              ∙ from_more place (row_bytes bytes r) (rows_bytes bytes (rows_in next)) m z (omega (arith, g.room)) q
              ∙ ap (λ (w : List ℕ). over_from place w m) (sym bytes_here)
              ∙ g.laid;
        }
