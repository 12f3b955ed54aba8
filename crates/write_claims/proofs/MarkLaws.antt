-- Laws of rows' marks: rows that all have one, and the rows of a packet's lists.
use mathlib.Core.Path.{◌≡◌, refl, ap, sym, ◌∙◌, subst}
use mathlib.Core.List.{List, [], ◌∷◌, ◌++◌}
use Prim.Native.Nat.{ℕ, zero, suc, ◌≤◌}
use native.Mathlib.Omega.{arith}
use lib.ListN.{length, take, drop}
use Rattle.row_tags.specs.Tags.{primary_mark, redundant_mark}
use Rattle.read_rows.specs.Rows.{Row, marked}
use Rattle.write_claims.specs.Marks.{AllMarked, PrimaryLast}
use Rattle.write_claims.specs.ReadingBack.{SameFrames}
use Rattle.write_claims.proofs.FrameLaws.{plain, plains}

-- Rows given a mark

pub all_marked : (mark : ℕ) (rs : List Row) → AllMarked mark (marked mark rs)
unfolding marked
all_marked mark [] = tt
all_marked mark (r ∷ rs) = (refl, all_marked mark rs)

pub plains_marked : (mark : ℕ) (rs : List Row) → plains (marked mark rs) ≡ plains rs
unfolding marked
plains_marked mark [] = refl
plains_marked mark (r ∷ rs) = ap (λ (l : List Row). plain r ∷ l) (plains_marked mark rs)

pub same_marked : (p bytes : List ℕ) (mark : ℕ) (qs rs : List Row) → SameFrames p bytes qs rs → SameFrames p bytes (marked mark qs) rs
unfolding marked
same_marked p bytes mark [] [] h = tt
same_marked p bytes mark [] (r ∷ rs) h = absurd h
same_marked p bytes mark (q ∷ qs) [] h = absurd h
same_marked p bytes mark (q ∷ qs) (r ∷ rs) h =
    (record { time = h.0.time; class = h.0.class; channel = h.0.channel; length = h.0.length; frame = h.0.frame }, same_marked p bytes mark qs rs h.1)

-- The rows of lists

-- the first list's number of rows, and those of the others
abbrev pub first_count : List ℕ → ℕ
first_count [] = 0
first_count (n ∷ ns) = n

abbrev pub later_counts : List ℕ → List ℕ
later_counts [] = []
later_counts (n ∷ ns) = ns

pub one_list : (counts : List ℕ) (rs : List Row) → length counts ≡ 1 → AllMarked primary_mark rs → PrimaryLast counts rs
one_list [] rs n h = absurd (omega arith)
one_list (c ∷ []) rs n h = h
one_list (c ∷ d ∷ cs) rs n h = absurd (omega arith)

-- rows as many as those of a list cut at n, cut there
record CutAt (n : ℕ) (a b : List Row) : Type 0 where
  before : a ≡ take n (a ++ b)
  after : b ≡ drop n (a ++ b)

no_rows : (a : List Row) → length a ≡ 0 → a ≡ []
no_rows [] h = refl
no_rows (r ∷ a) h = absurd (omega arith)

cut_at : (n : ℕ) (rs a b : List Row) → length a ≡ length (take n rs) → length b ≡ length (drop n rs) → CutAt n a b
cut_at zero rs [] b h k = record { before = refl; after = refl }
cut_at zero rs (q ∷ a) b h k = absurd (omega arith)
cut_at (suc n) [] [] b h k = record { before = sym (ap (take (suc n)) (no_rows b k)); after = no_rows b k ∙ sym (ap (drop (suc n)) (no_rows b k)) }
cut_at (suc n) [] (q ∷ a) b h k = absurd (omega arith)
cut_at (suc n) (r ∷ rs) [] b h k = absurd (omega arith)
cut_at (suc n) (r ∷ rs) (q ∷ a) b h k = let c = cut_at n rs a b (omega arith) k in record { before = ap (λ (l : List Row). q ∷ l) c.before; after = c.after }

-- the rows of a redundant list, and those of the lists after it
pub more_lists : (counts : List ℕ) (rs a b : List Row) → 2 ≤ length counts → length a ≡ length (take (first_count counts) rs) → length b ≡ length (drop (first_count counts) rs)
    → AllMarked redundant_mark a → PrimaryLast (later_counts counts) b → PrimaryLast counts (a ++ b)
more_lists [] rs a b n h k x y = absurd (omega arith)
more_lists (c ∷ []) rs a b n h k x y = absurd (omega arith)
more_lists (c ∷ d ∷ cs) rs a b n h k x y =
    let e = cut_at c rs a b h k in
    (subst (AllMarked redundant_mark) e.before x, subst (PrimaryLast (d ∷ cs)) e.after y)
