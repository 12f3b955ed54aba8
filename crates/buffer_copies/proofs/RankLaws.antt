-- `greater` is a linear order on lists of numbers, and `better` one on copies of a pair.
use mathlib.Core.Path.{◌≡◌, refl, sym, ap₂, ◌∙◌}
use mathlib.Core.Logic.{◌⊎◌, inl, inr}
use mathlib.Core.List.{List, [], ◌∷◌}
use mathlib.Core.Bool.{Bool, true, false, cond, true≢false, false≢true}
use Prim.Native.Nat.{ℕ, ◌≤◌, ◌<◌, compare, Ordering}
use native.Mathlib.Omega.{arith}
use lib.ListN.{length}
use lib.Dec.{eqb, ltb}
use borrow.Author.Tests.{le-ltb, lt-ltb}
use Rattle.std.specs.Prelude.{◌≢◌}
use Rattle.std.specs.Ordering.{MatchOrdering, nat_cmp, is_gt}
use Rattle.std.specs.Cmp.Lexicographic.{slice_cmp}
use Rattle.std.specs.declared.cmp.Ordering.{Ordering as Side}
use Rattle.std.specs.declared.cmp.Ordering.TheVariants.{Less, Equal, Greater}
use Rattle.std.proofs.lemmas.Cmp.{ranked, same_from_slice_cmp}
use Rattle.formats.specs.Frames.{no_data, sound, sid, damaged_sound, damaged_sid, max_class, FrameClass}
use Rattle.buffer_copies.specs.Copies.{Copy, quality, soundness, greater_at, greater, rank, better_frame, better}
use Rattle.buffer_copies.specs.Lists.{SamePair}
use Rattle.buffer_copies.proofs.InsertionLaws.{Cmp, cmp}

-- what a comparison at two heads says, and back
module _ (x y : ℕ) (r : Bool) where
  at_false : greater_at (compare x y) r ≡ false → (x < y) ⊎ ((x ≡ y) × (r ≡ false))
  at_false e = go (compare x y) (cmp x y) e
    where
      go : (o : Ordering) → Cmp o x y → greater_at o r ≡ false → (x < y) ⊎ ((x ≡ y) × (r ≡ false))
      go Ordering.lt c e = inl c
      go Ordering.eq c e = inr (c, e)
      go Ordering.gt c e = absurd (true≢false e)

  at_true : greater_at (compare x y) r ≡ true → (y < x) ⊎ ((x ≡ y) × (r ≡ true))
  at_true e = go (compare x y) (cmp x y) e
    where
      go : (o : Ordering) → Cmp o x y → greater_at o r ≡ true → (y < x) ⊎ ((x ≡ y) × (r ≡ true))
      go Ordering.lt c e = absurd (false≢true e)
      go Ordering.eq c e = inr (c, e)
      go Ordering.gt c e = inl c

  false_at : (x < y) ⊎ ((x ≡ y) × (r ≡ false)) → greater_at (compare x y) r ≡ false
  false_at p = go (compare x y) (cmp x y) p
    where
      go : (o : Ordering) → Cmp o x y → (x < y) ⊎ ((x ≡ y) × (r ≡ false)) → greater_at o r ≡ false
      go Ordering.lt c p = refl
      go Ordering.eq c (inl l) = absurd (omega arith)
      go Ordering.eq c (inr q) = q.1
      go Ordering.gt c (inl l) = absurd (omega arith)
      go Ordering.gt c (inr q) = absurd (omega arith)

pub greater_self : (xs : List ℕ) → greater xs xs ≡ false
unfolding greater
greater_self [] = refl
greater_self (x ∷ xs) = false_at x x (greater xs xs) (inr (refl, greater_self xs))

pub greater_chain : (xs ys zs : List ℕ) → greater xs ys ≡ false → greater ys zs ≡ false → greater xs zs ≡ false
unfolding greater
greater_chain [] ys zs p q = refl
greater_chain (x ∷ xs) [] zs p q = absurd (true≢false p)
greater_chain (x ∷ xs) (y ∷ ys) [] p q = absurd (true≢false q)
greater_chain (x ∷ xs) (y ∷ ys) (z ∷ zs) p q =
    false_at x z (greater xs zs) (go (greater_chain xs ys zs) (at_false x y (greater xs ys) p) (at_false y z (greater ys zs) q))
  where
    go : (greater xs ys ≡ false → greater ys zs ≡ false → greater xs zs ≡ false) → (x < y) ⊎ ((x ≡ y) × (greater xs ys ≡ false)) → (y < z) ⊎ ((y ≡ z) × (greater ys zs ≡ false)) → (x < z) ⊎ ((x ≡ z) × (greater xs zs ≡ false))
    go ih (inl l) (inl m) = inl (omega arith)
    go ih (inl l) (inr m) = inl (omega arith)
    go ih (inr l) (inl m) = inl (omega arith)
    go ih (inr l) (inr m) = inr (l.0 ∙ m.0, ih l.1 m.1)

pub greater_turn : (xs ys : List ℕ) → greater xs ys ≡ true → greater ys xs ≡ false
unfolding greater
greater_turn [] ys p = absurd (false≢true p)
greater_turn (x ∷ xs) [] p = refl
greater_turn (x ∷ xs) (y ∷ ys) p = false_at y x (greater ys xs) (go (greater_turn xs ys) (at_true x y (greater xs ys) p))
  where
    go : (greater xs ys ≡ true → greater ys xs ≡ false) → (y < x) ⊎ ((x ≡ y) × (greater xs ys ≡ true)) → (y < x) ⊎ ((y ≡ x) × (greater ys xs ≡ false))
    go ih (inl l) = inl l
    go ih (inr l) = inr (sym l.0, ih l.1)

pub greater_equal : (xs ys : List ℕ) → greater xs ys ≡ false → greater ys xs ≡ false → xs ≡ ys
unfolding greater
greater_equal [] [] p q = refl
greater_equal [] (y ∷ ys) p q = absurd (true≢false q)
greater_equal (x ∷ xs) [] p q = absurd (true≢false p)
greater_equal (x ∷ xs) (y ∷ ys) p q = go (greater_equal xs ys) (at_false x y (greater xs ys) p) (at_false y x (greater ys xs) q)
  where
    go : (greater xs ys ≡ false → greater ys xs ≡ false → xs ≡ ys) → (x < y) ⊎ ((x ≡ y) × (greater xs ys ≡ false)) → (y < x) ⊎ ((y ≡ x) × (greater ys xs ≡ false)) → x ∷ xs ≡ y ∷ ys
    go ih (inl l) (inl m) = absurd (omega arith)
    go ih (inl l) (inr m) = absurd (omega (arith, m.0))
    go ih (inr l) (inl m) = absurd (omega (arith, l.0))
    go ih (inr l) (inr m) = ap₂ ◌∷◌ l.0 (ih l.1 m.1)

-- it is above that of no data, and small
pub frame_class : (k : ℕ) → FrameClass k → (no_data < k) × (k ≤ max_class)
frame_class k (inl e) = (omega arith, omega arith)
frame_class k (inr (inl e)) = (omega arith, omega arith)
frame_class k (inr (inr (inl e))) = (omega arith, omega arith)
frame_class k (inr (inr (inr e))) = (omega arith, omega arith)

-- quality and soundness tell the class of a frame
abbrev class_from : ℕ → ℕ → ℕ
class_from q s = cond (eqb q 1) (cond (eqb s 1) sound sid) (cond (eqb s 1) damaged_sound damaged_sid)

class_from_lem : (k : ℕ) → FrameClass k → class_from (quality k) (soundness k) ≡ k
unfolding quality soundness
class_from_lem k (inl e) = rw e refl
class_from_lem k (inr (inl e)) = rw e refl
class_from_lem k (inr (inr (inl e))) = rw e refl
class_from_lem k (inr (inr (inr e))) = rw e refl

class_of : (m n : ℕ) → FrameClass m → FrameClass n → quality m ≡ quality n → soundness m ≡ soundness n → m ≡ n
class_of m n p q e f = sym (class_from_lem m p) ∙ ap₂ class_from e f ∙ class_from_lem n q

-- of two copies of a pair neither of which is better, both are the same
pub better_equal : (a b : Copy) → FrameClass a.class → FrameClass b.class → SamePair a b → better a b ≡ false → better b a ≡ false → a ≡ b
unfolding better_frame rank
better_equal a b ca cb p u v =
    let e : rank a.class a.bytes ≡ rank b.class b.bytes = greater_equal (rank a.class a.bytes) (rank b.class b.bytes) u v in
    let q : quality a.class ≡ quality b.class = cc in
    let s : soundness a.class ≡ soundness b.class = cc in
    let c : a.bytes ≡ b.bytes = cc in
    let t : a.class ≡ b.class = class_of a.class b.class ca cb q s in
    λ i. record { time = p.0 i; channel = p.1 i; class = t i; bytes = c i }

-- ---- step by step, as code compares
module _ (x y : ℕ) (xs ys : List ℕ) where
  pub head_greater : y < x → greater (x ∷ xs) (y ∷ ys) ≡ true
  unfolding greater
  head_greater l = go (compare x y) (cmp x y)
    where
      go : (o : Ordering) → Cmp o x y → greater_at o (greater xs ys) ≡ true
      go Ordering.lt c = absurd (omega arith)
      go Ordering.eq c = absurd (omega arith)
      go Ordering.gt c = refl

  pub head_less : x < y → greater (x ∷ xs) (y ∷ ys) ≡ false
  unfolding greater
  head_less l = false_at x y (greater xs ys) (inl l)

  pub head_same : x ≡ y → greater (x ∷ xs) (y ∷ ys) ≡ greater xs ys
  unfolding greater
  head_same e = go (compare x y) (cmp x y)
    where
      go : (o : Ordering) → Cmp o x y → greater_at o (greater xs ys) ≡ greater xs ys
      go Ordering.lt c = absurd (omega arith)
      go Ordering.eq c = refl
      go Ordering.gt c = absurd (omega arith)

  -- of two that differ
  pub head_differs : x ≢ y → ltb y x ≡ greater (x ∷ xs) (y ∷ ys)
  unfolding greater
  head_differs n = go (compare x y) (cmp x y)
    where
      go : (o : Ordering) → Cmp o x y → ltb y x ≡ greater_at o (greater xs ys)
      go Ordering.lt c = le-ltb y x (omega arith)
      go Ordering.eq c = absurd (n c)
      go Ordering.gt c = lt-ltb y x c

-- the library's order of two slices says which is greater
pub greater_cmp : (xs ys : List ℕ) (o : Side) → o ≡ slice_cmp nat_cmp xs ys → is_gt o ≡ greater xs ys
unfolding greater
greater_cmp = same_from_slice_cmp nat_cmp is_gt greater refl (λ _ _. refl) (λ _ _. refl) (λ x y xs ys o e. go x y xs ys o (ranked x y o e))
  where
    go : (x y : ℕ) (xs ys : List ℕ) (o : Side) → MatchOrdering o (x < y) (x ≡ y) (y < x)
        → MatchOrdering o (greater (x ∷ xs) (y ∷ ys) ≡ false) (greater (x ∷ xs) (y ∷ ys) ≡ greater xs ys) (greater (x ∷ xs) (y ∷ ys) ≡ true)
    go x y xs ys Less l = head_less x y xs ys l
    go x y xs ys Equal e = head_same x y xs ys e
    go x y xs ys Greater l = head_greater x y xs ys l

-- both classes are good, or none is; and both are sound, or none is
abbrev pub Alike : ℕ → ℕ → Type 0
Alike c d = (quality c ≡ quality d) × (soundness c ≡ soundness d)

module _ (c : ℕ) (a : List ℕ) (d : ℕ) (b : List ℕ) where
  pub quality_greater : quality d < quality c → better_frame c a d b ≡ true
  unfolding better_frame rank
  quality_greater l = head_greater (quality c) (quality d) (soundness c ∷ length a ∷ a) (soundness d ∷ length b ∷ b) l

  pub quality_differs : quality c ≢ quality d → ltb (quality d) (quality c) ≡ better_frame c a d b
  unfolding better_frame rank
  quality_differs n = head_differs (quality c) (quality d) (soundness c ∷ length a ∷ a) (soundness d ∷ length b ∷ b) n

  quality_same : quality c ≡ quality d → better_frame c a d b ≡ greater (soundness c ∷ length a ∷ a) (soundness d ∷ length b ∷ b)
  unfolding better_frame rank
  quality_same e = head_same (quality c) (quality d) (soundness c ∷ length a ∷ a) (soundness d ∷ length b ∷ b) e

  pub soundness_greater : quality c ≡ quality d → soundness d < soundness c → better_frame c a d b ≡ true
  soundness_greater e l = quality_same e ∙ head_greater (soundness c) (soundness d) (length a ∷ a) (length b ∷ b) l

  pub soundness_differs : quality c ≡ quality d → soundness c ≢ soundness d → ltb (soundness d) (soundness c) ≡ better_frame c a d b
  soundness_differs e n = head_differs (soundness c) (soundness d) (length a ∷ a) (length b ∷ b) n ∙ sym (quality_same e)

  class_same : Alike c d → better_frame c a d b ≡ greater (length a ∷ a) (length b ∷ b)
  class_same e = quality_same e.0 ∙ head_same (soundness c) (soundness d) (length a ∷ a) (length b ∷ b) e.1

  pub length_greater : Alike c d → length b < length a → better_frame c a d b ≡ true
  length_greater e l = class_same e ∙ head_greater (length a) (length b) a b l

  pub length_differs : Alike c d → length a ≢ length b → ltb (length b) (length a) ≡ better_frame c a d b
  length_differs e n = head_differs (length a) (length b) a b n ∙ sym (class_same e)

  pub length_same : Alike c d → length a ≡ length b → better_frame c a d b ≡ greater a b
  length_same e l = class_same e ∙ head_same (length a) (length b) a b l
