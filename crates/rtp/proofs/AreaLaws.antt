-- Laws of areas, of what is written over their fronts and of the parts that are lent on.
use Rattle.std.proofs.Common.{◌≡◌, ℕ, ◌+◌, ◌-◌, ◌<◌, ◌≤◌, List, [], ◌∷◌, ◌++◌, length, take, drop, set, sym, refl, ap, ◌∙◌, append_assoc, append-nil, arith, length-append, length-drop, drop_of_length-le, length-take-le, take_all, drop-drop, take_at, drop_at, le-leb}
use borrow.Author.Tests.{lt-leb}
use borrow.Rule.Slice.PartMut.{put_mid}
use Rattle.rtp.specs.Areas.{over, fitted}

pub over_none : (l : List ℕ) → over [] l ≡ l
unfolding over
over_none l = refl

-- one over another, the second after the first
pub over_more : (a b l : List ℕ) → over (a ++ b) l ≡ a ++ over b (drop (length a) l)
unfolding over
over_more a b l = simp (append_assoc, length-append, drop-drop)

-- the area past what was written is as it was
pub over_rest : (a l : List ℕ) (n : ℕ) → length a ≡ n → drop n (over a l) ≡ drop n l
unfolding over
over_rest a l n h = drop_at a (drop (length a) l) n h ∙ rw h

-- the area from n on to its end, lent and written over
pub over_part : (a b l m e : List ℕ) (n : ℕ) → length a ≡ n → m ≡ over a l → e ≡ over b (take (length m - n) (drop n m))
    → put_mid n (length m - n) m e ≡ over (a ++ b) l
unfolding over
over_part a b l m e n h p q =
    let first : take n m ≡ a = ap (take n) p ∙ take_at a (drop (length a) l) n h in
    let rest : drop n m ≡ drop n l = ap (drop n) p ∙ over_rest a l n h in
    let none : drop (length m - n) (drop n m) ≡ [] = drop_of_length-le (drop n m) {i = length m - n} (simp length-drop (omega arith)) in
    let all : take (length m - n) (drop n m) ≡ drop n m = take_all (length m - n) (drop n m) (simp length-drop (omega arith)) in
    rw (first, none, append-nil, q, all, rest, ← h) (sym (over_more a b l))

-- how long the part from n on is, where the area kept its length
pub part_length : (m l : List ℕ) (n : ℕ) → length m ≡ length l → length (take (length m - n) (drop n m)) ≡ length l - n
part_length m l n h = rw (take_all (length m - n) (drop n m) (simp length-drop (omega arith)), length-drop, h)

-- what fits is written over the front, and what does not leaves the area
pub fitted_in : (ws l : List ℕ) → length ws ≤ length l → fitted ws l ≡ over ws l
unfolding fitted
fitted_in ws l h = rw (le-leb (length ws) (length l) h)

pub fitted_short : (ws l : List ℕ) → length l < length ws → fitted ws l ≡ l
unfolding fitted
fitted_short ws l h = rw (lt-leb (length ws) (length l) h)

-- the area keeps its length
pub length_over : (ws l : List ℕ) → length ws ≤ length l → length (over ws l) ≡ length l
unfolding over
length_over ws l h = simp (length-append, length-drop) (omega arith)

-- the area from n on to its end, lent and written where it fits
pub fitted_part : (a b l m e : List ℕ) (n : ℕ) → length a ≡ n → n + length b ≤ length l → m ≡ over a l → e ≡ fitted b (take (length m - n) (drop n m))
    → put_mid n (length m - n) m e ≡ over (a ++ b) l
fitted_part a b l m e n h r p q =
    let k : length m ≡ length l = ap length p ∙ length_over a l (omega arith) in
    let room : length b ≤ length (take (length m - n) (drop n m)) = rw (part_length m l n k) (omega arith) in
    over_part a b l m e n h p (q ∙ fitted_in b _ room)

-- one store, two and four at the front
pub over_one : (l : List ℕ) (a : ℕ) → 1 ≤ length l → set l 0 a ≡ over (a ∷ []) l
unfolding over
over_one [] a h = absurd (omega arith)
over_one (x ∷ l) a h = refl

pub over_two : (l : List ℕ) (a b : ℕ) → 2 ≤ length l → set (set l 0 a) 1 b ≡ over (a ∷ b ∷ []) l
unfolding over
over_two [] a b h = absurd (omega arith)
over_two (x ∷ []) a b h = absurd (omega arith)
over_two (x ∷ y ∷ l) a b h = refl

pub over_four : (l : List ℕ) (a b c d : ℕ) → 4 ≤ length l → set (set (set (set l 0 a) 1 b) 2 c) 3 d ≡ over (a ∷ b ∷ c ∷ d ∷ []) l
unfolding over
over_four [] a b c d h = absurd (omega arith)
over_four (w ∷ []) a b c d h = absurd (omega arith)
over_four (w ∷ x ∷ []) a b c d h = absurd (omega arith)
over_four (w ∷ x ∷ y ∷ []) a b c d h = absurd (omega arith)
over_four (w ∷ x ∷ y ∷ z ∷ l) a b c d h = refl

-- a part to the end
pub part_to_end : (n : ℕ) (s : List ℕ) → take (length s - n) (drop n s) ≡ drop n s
part_to_end n s = take_all (length s - n) (drop n s) (simp length-drop (omega arith))

-- a part cut out by its start and its end, and how long it is
pub part_cut : (n k : ℕ) (s : List ℕ) → take (n + k - n) (drop n s) ≡ take k (drop n s)
part_cut n k s = let e : n + k - n ≡ k = omega arith in ap (λ (m : ℕ). take m (drop n s)) e

pub part_size : (s : List ℕ) (start n : ℕ) → start + n ≤ length s → length (take n (drop start s)) ≡ n
part_size s start n h = length-take-le n (drop start s) (simp length-drop (omega arith))
