-- Distinct items that all stand in a list are no more than the list has.
use mathlib.Core.Path.{◌≡◌, refl, sym, ap, ◌∙◌}
use mathlib.Core.Logic.{◌⊎◌, inl, inr}
use mathlib.Core.List.Memᴰ.{cases_cons as cases}
use mathlib.Core.List.Memᴰ.{head as here}
use mathlib.Core.List.Memᴰ.{tail as there}
use mathlib.Core.List.{List, [], ◌∷◌, Memᴰ}
use Prim.Native.Nat.{suc, ◌≤◌}
use native.Mathlib.Omega.{arith}
use lib.ListN.{length}

module _ {A : Type 0} where
  -- the list without the item at a place of it
  without : (l : List A) (x : A) → Memᴰ x l → (r : List A) × (length l ≡ suc (length r)) × ((y : A) → Memᴰ y l → (y ≡ x → ⊥) → Memᴰ y r)
  without [] x x3 = elim x3 [ ]
  without (h ∷ t) x (here e) = (t, refl, λ y m n. stay y n (cases m))
    where
      stay : (y : A) → (y ≡ x → ⊥) → (y ≡ h) ⊎ Memᴰ y t → Memᴰ y t
      stay y n (inl q) = absurd (n (q ∙ sym e))
      stay y n (inr m) = m
  without (h ∷ t) x (there m) =
      let w = without t x m in
      (h ∷ w.0, ap suc w.1, λ y n d. stay w.0 w.2 y d (cases n))
    where
      stay : (r : List A) → ((y : A) → Memᴰ y t → (y ≡ x → ⊥) → Memᴰ y r) → (y : A) → (y ≡ x → ⊥) → (y ≡ h) ⊎ Memᴰ y t → Memᴰ y (h ∷ r)
      stay r f y d (inl q) = here q
      stay r f y d (inr n) = there (f y n d)

module _ {B : Type 0} {A : Type 0} (f : B → A) where
  -- items of which no two have one value of f
  abbrev pub Differ : List B → Type 0
  Differ [] = Unit {0}
  Differ (x ∷ xs) = ((y : B) → Memᴰ y xs → f x ≡ f y → ⊥) × Differ xs

  pub no_more : (xs : List B) (l : List A) → Differ xs → ((x : B) → Memᴰ x xs → Memᴰ (f x) l) → length xs ≤ length l
  no_more [] l d s = omega arith
  no_more (x ∷ xs) l d s =
      let w = without l (f x) (s x (here refl)) in
      omega (arith, w.1, no_more xs w.0 d.1 (λ y m. w.2 (f y) (s y (there m)) (λ e. d.0 y m (sym e))))

  pub differ_one : (xs : List B) → Differ xs → (a b : B) → Memᴰ a xs → Memᴰ b xs → f a ≡ f b → a ≡ b
  differ_one [] d a b x4 _ e = elim x4 [ ]
  differ_one (h ∷ t) d a b (here p) (here q) e = p ∙ sym q
  differ_one (h ∷ t) d a b (here p) (there n) e = absurd (d.0 b n (sym (ap f p) ∙ e))
  differ_one (h ∷ t) d a b (there m) (here q) e = absurd (d.0 a m (sym (e ∙ ap f q)))
  differ_one (h ∷ t) d a b (there m) (there n) e = differ_one t d.1 a b m n e
