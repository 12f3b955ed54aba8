-- Sorted insertion that keeps the best, over items with a number for a key: what it holds, its order, and that an ascending list with the best item of
-- each key is the only one. Nothing here is about frames.
use mathlib.Core.Path.{◌≡◌, refl, sym, ap, ap₂, subst, ◌∙◌}
use mathlib.Core.Logic.{◌⊎◌, inl, inr}
use mathlib.Core.List.Memᴰ
use mathlib.Core.List.Memᴰ.{cases_cons as cases}
use mathlib.Core.List.Memᴰ.{head as here}
use mathlib.Core.List.Memᴰ.{not-nil as nowhere}
use mathlib.Core.List.Memᴰ.{tail as there}
use mathlib.Core.List.{List, [], ◌∷◌, map, Memᴰ}
use mathlib.Core.Bool.{Bool, true, false, cond, not}
use mathlib.Core.Option
use mathlib.Core.Option.{none, some, none-ne-some as none≢some, some-injective}
use Prim.Native.Nat.{ℕ, suc, ◌≤◌, ◌<◌, compare, Ordering}
use native.Mathlib.Omega.{arith}
use lib.ListN.{length}
use lib.Arith.{lt_of_le-ne}
use lib.Dec.{T, is_le, compare_is_eq, eqb, leb→le, nleb→lt, eqb→eq, eqb_refl}
use Rattle.buffer_copies.specs.Entries.{put_at, put, find_at, find_by}

-- what `compare` says
abbrev pub Cmp : Ordering → ℕ → ℕ → Type 0
Cmp Ordering.lt a b = a < b
Cmp Ordering.eq a b = a ≡ b
Cmp Ordering.gt a b = b < a

pub cmp : (a b : ℕ) → Cmp (compare a b) a b
cmp a b = go (compare a b) (leb→le a b) (nleb→lt a b) (eqb→eq a b) (λ (e : a ≡ b). subst (λ (x : ℕ). T (eqb a x)) e (eqb_refl a))
  where
    go : (o : Ordering) → (T (is_le o) → a ≤ b) → (T (not (is_le o)) → b < a) → (T (compare_is_eq o) → a ≡ b) → (a ≡ b → T (compare_is_eq o)) → Cmp o a b
    go Ordering.lt h k e n = lt_of_le-ne (h tt) n
    go Ordering.eq h k e n = e tt
    go Ordering.gt h k e n = k tt

-- `compare` is what it says
pub compare_is : (o : Ordering) (a b : ℕ) → Cmp o a b → o ≡ compare a b
compare_is o a b c = go o (compare a b) c (cmp a b)
  where
    go : (o s : Ordering) → Cmp o a b → Cmp s a b → o ≡ s
    go Ordering.lt Ordering.lt c d = refl
    go Ordering.lt Ordering.eq c d = absurd (omega arith)
    go Ordering.lt Ordering.gt c d = absurd (omega arith)
    go Ordering.eq Ordering.lt c d = absurd (omega arith)
    go Ordering.eq Ordering.eq c d = refl
    go Ordering.eq Ordering.gt c d = absurd (omega arith)
    go Ordering.gt Ordering.lt c d = absurd (omega arith)
    go Ordering.gt Ordering.eq c d = absurd (omega arith)
    go Ordering.gt Ordering.gt c d = refl

-- the laws of `beats` that count: items x and y of one key with x ≤ y for `beats x y ≡ false`
pub record Ranks {A : Type 0} (Ok : A → Type 0) (key : A → ℕ) (beats : A → A → Bool) : Type 0 where
  pub self : (a : A) → beats a a ≡ false
  pub chain : (a b c : A) → beats a b ≡ false → beats b c ≡ false → beats a c ≡ false
  pub turn : (a b : A) → beats a b ≡ true → beats b a ≡ false
  pub equal : (a b : A) → Ok a → Ok b → key a ≡ key b → beats a b ≡ false → beats b a ≡ false → a ≡ b

module _ {A : Type 0} (key : A → ℕ) where
  abbrev pub by_key : A → A → Ordering
  by_key a b = compare (key a) (key b)

  abbrev pub Above : A → List A → Type 0
  Above h t = (x : A) → Memᴰ x t → key h < key x

  abbrev pub Asc : List A → Type 0
  Asc [] = Unit {0}
  Asc (h ∷ t) = Above h t × Asc t

  pub asc_one : (l : List A) → Asc l → (a b : A) → Memᴰ a l → Memᴰ b l → key a ≡ key b → a ≡ b
  asc_one [] s a b x4 _ e = elim x4 [ ]
  asc_one (h ∷ t) s a b (here p) (here q) e = p ∙ sym q
  asc_one (h ∷ t) s a b (here p) (there n) e = absurd (omega (arith, s.0 b n, ap key p))
  asc_one (h ∷ t) s a b (there m) (here q) e = absurd (omega (arith, s.0 a m, ap key q))
  asc_one (h ∷ t) s a b (there m) (there n) e = asc_one t s.1 a b m n e

  -- two ascending lists with the same members are equal
  same_head : (h k : A) (t u : List A) → Above h t → Above k u → (h ≡ k) ⊎ Memᴰ h u → (k ≡ h) ⊎ Memᴰ k t → h ≡ k
  same_head h k t u s r (inl e) n = e
  same_head h k t u s r (inr m) (inl e) = sym e
  same_head h k t u s r (inr m) (inr n) = absurd (omega (arith, s k n, r h m))

  in_tail : (h k x : A) (t u : List A) → Above h t → h ≡ k → Memᴰ x t → (x ≡ k) ⊎ Memᴰ x u → Memᴰ x u
  in_tail h k x t u s e m (inl q) = absurd (omega (arith, s x m, ap key e, ap key q))
  in_tail h k x t u s e m (inr n) = n

  pub asc_ext : (l m : List A) → Asc l → Asc m → ((x : A) → Memᴰ x l → Memᴰ x m) → ((x : A) → Memᴰ x m → Memᴰ x l) → l ≡ m
  asc_ext [] [] s r f g = refl
  asc_ext [] (k ∷ u) s r f g = absurd (nowhere (g k (here refl)))
  asc_ext (h ∷ t) [] s r f g = absurd (nowhere (f h (here refl)))
  asc_ext (h ∷ t) (k ∷ u) s r f g =
      let e : h ≡ k = same_head h k t u s.0 r.0 (cases (f h (here refl))) (cases (g k (here refl))) in
      ap₂ ◌∷◌ e
      (asc_ext t u s.1 r.1
      (λ x m. in_tail h k x t u s.0 e m (cases (f x (there m))))
      (λ x m. in_tail k h x u t r.0 (sym e) m (cases (g x (there m)))))

-- each after the one before, over a comparison
abbrev pub Chain : {A : Type 0} → (A → A → Ordering) → List A → Type 0
Chain by [] = Unit {0}
Chain by (d ∷ []) = Unit {0}
Chain by (d ∷ e ∷ ds) = (by e d ≡ Ordering.gt) × Chain by (e ∷ ds)

-- the same of keys, where the comparison is theirs
module _ {A : Type 0} (by : A → A → Ordering) (key : A → ℕ) where
  abbrev pub Agree : List A → Type 0
  Agree l = (x y : A) → Memᴰ x l → Memᴰ y l → by x y ≡ by_key key x y

  pub asc_chain : (l : List A) → Agree l → Asc key l → Chain by l
  asc_chain [] v s = tt
  asc_chain (d ∷ []) v s = tt
  asc_chain (d ∷ e ∷ l) v s =
      (v e d (there (here refl)) (here refl) ∙ sym (compare_is Ordering.gt (key e) (key d) (s.0 e (here refl))), asc_chain (e ∷ l) (λ x y m n. v x y (there m) (there n)) s.1)

  pub chain_asc : (l : List A) → Agree l → Chain by l → Asc key l
  chain_asc [] v s = tt
  chain_asc (d ∷ []) v s = (λ x m. absurd (nowhere m), tt)
  chain_asc (d ∷ e ∷ l) v s = go (chain_asc (e ∷ l) (λ x y m n. v x y (there m) (there n)) s.1)
    where
      below : key d < key e
      below = subst (λ (o : Ordering). Cmp o (key e) (key d)) (sym (v e d (there (here refl)) (here refl)) ∙ s.0) (cmp (key e) (key d))

      past : Asc key (e ∷ l) → (x : A) → (x ≡ e) ⊎ Memᴰ x l → key d < key x
      past r x (inl q) = omega (arith, below, ap key q)
      past r x (inr m) = omega (arith, below, r.0 x m)

      go : Asc key (e ∷ l) → Asc key (d ∷ e ∷ l)
      go r = (λ x m. past r x (cases m), r)

module _ {A : Type 0} (by : A → A → Ordering) (beats : A → A → Bool) where
  pick_is : (c h : A) (b : Bool) → (cond b c h ≡ c) ⊎ (cond b c h ≡ h)
  pick_is c h true = inl refl
  pick_is c h false = inr refl

  -- what is held afterwards: the new item, or one that was held
  pub put_from : (c : A) (l : List A) (x : A) → Memᴰ x (put by beats c l) → (x ≡ c) ⊎ Memᴰ x l
  unfolding put
  put_from c [] x m = cases m
  put_from c (h ∷ t) x m = go (by c h) (put_from c t x) m
    where
      or_held : (cond (beats c h) c h ≡ c) ⊎ (cond (beats c h) c h ≡ h) → x ≡ cond (beats c h) c h → (x ≡ c) ⊎ Memᴰ x (h ∷ t)
      or_held (inl p) q = inl (q ∙ p)
      or_held (inr p) q = inr (here (q ∙ p))

      later : (x ≡ c) ⊎ Memᴰ x t → (x ≡ c) ⊎ Memᴰ x (h ∷ t)
      later (inl e) = inl e
      later (inr m) = inr (there m)

      go : (o : Ordering) → (Memᴰ x (put by beats c t) → (x ≡ c) ⊎ Memᴰ x t) → Memᴰ x (put_at by beats o c h t (put by beats c t)) → (x ≡ c) ⊎ Memᴰ x (h ∷ t)
      go Ordering.lt ih m = cases m
      go Ordering.eq ih (here q) = or_held (pick_is c h (beats c h)) q
      go Ordering.eq ih (there m) = inr (there m)
      go Ordering.gt ih (here q) = inr (here q)
      go Ordering.gt ih (there m) = later (ih m)

  -- a key that is not held makes the list one longer
  pub put_longer : (c : A) (l : List A) → find_by (by c) l ≡ none → length (put by beats c l) ≡ suc (length l)
  unfolding put find_by
  put_longer c [] e = refl
  put_longer c (h ∷ t) e = go (by c h) (put_longer c t) e
    where
      go : (o : Ordering) → (find_by (by c) t ≡ none → length (put by beats c t) ≡ suc (length t)) → find_at o h (find_by (by c) t) ≡ none → length (put_at by beats o c h t (put by beats c t)) ≡ suc (suc (length t))
      go Ordering.lt ih e = refl
      go Ordering.eq ih e = absurd (none≢some h (sym e))
      go Ordering.gt ih e = ap suc (ih e)

  -- a key that is held leaves its length
  pub put_level : (c : A) (l : List A) (g : A) → find_by (by c) l ≡ some g → length (put by beats c l) ≡ length l
  unfolding put find_by
  put_level c [] g e = absurd (none≢some g e)
  put_level c (h ∷ t) g e = go (by c h) (put_level c t g) e
    where
      go : (o : Ordering) → (find_by (by c) t ≡ some g → length (put by beats c t) ≡ length t) → find_at o h (find_by (by c) t) ≡ some g → length (put_at by beats o c h t (put by beats c t)) ≡ suc (length t)
      go Ordering.lt ih e = absurd (none≢some g e)
      go Ordering.eq ih e = refl
      go Ordering.gt ih e = ap suc (ih e)

  -- a held item that is not beaten stays as it is
  pub put_same : (c : A) (l : List A) (h : A) → find_by (by c) l ≡ some h → beats c h ≡ false → put by beats c l ≡ l
  unfolding put find_by
  put_same c [] g e b = absurd (none≢some g e)
  put_same c (h ∷ t) g e b = go (by c h) (put_same c t g) e
    where
      go : (o : Ordering) → (find_by (by c) t ≡ some g → beats c g ≡ false → put by beats c t ≡ t) → find_at o h (find_by (by c) t) ≡ some g → put_at by beats o c h t (put by beats c t) ≡ h ∷ t
      go Ordering.lt ih e = absurd (none≢some g e)
      go Ordering.eq ih e = let q : h ≡ g = cc in rw (q, b)
      go Ordering.gt ih e = ap (λ (l : List A). h ∷ l) (ih e b)

  -- an item that beats all is held
  pub put_new : (c : A) (l : List A) → ((h : A) → beats c h ≡ true) → Memᴰ c (put by beats c l)
  unfolding put
  put_new c [] all = here refl
  put_new c (h ∷ t) all = go (by c h) (put_new c t all)
    where
      go : (o : Ordering) → Memᴰ c (put by beats c t) → Memᴰ c (put_at by beats o c h t (put by beats c t))
      go Ordering.lt m = here refl
      go Ordering.eq m = rw (all h) (here refl)
      go Ordering.gt m = there m

  -- an item held stays, or compares as the same
  pub put_keeps : (c : A) (l : List A) (x : A) → Memᴰ x l → (by c x ≡ Ordering.eq) ⊎ Memᴰ x (put by beats c l)
  unfolding put
  put_keeps c [] x m = absurd (nowhere m)
  put_keeps c (h ∷ t) x m = go (by c h) refl (put_keeps c t x) (cases m)
    where
      later : (by c x ≡ Ordering.eq) ⊎ Memᴰ x (put by beats c t) → (by c x ≡ Ordering.eq) ⊎ Memᴰ x (h ∷ put by beats c t)
      later (inl e) = inl e
      later (inr m) = inr (there m)

      go : (o : Ordering) → by c h ≡ o → (Memᴰ x t → (by c x ≡ Ordering.eq) ⊎ Memᴰ x (put by beats c t)) → (x ≡ h) ⊎ Memᴰ x t → (by c x ≡ Ordering.eq) ⊎ Memᴰ x (put_at by beats o c h t (put by beats c t))
      go Ordering.lt q ih (inl e) = inr (there (here e))
      go Ordering.lt q ih (inr k) = inr (there (there k))
      go Ordering.eq q ih (inl e) = inl (ap (by c) e ∙ q)
      go Ordering.eq q ih (inr k) = inr (there k)
      go Ordering.gt q ih (inl e) = inr (here e)
      go Ordering.gt q ih (inr k) = later (ih k)

pub find_mem : {A : Type 0} (to : A → Ordering) (l : List A) (h : A) → find_by to l ≡ some h → Memᴰ h l
unfolding find_by
find_mem to [] h e = absurd (none≢some h e)
find_mem {A} to (x ∷ t) h e = go (to x) (find_mem to t h) e
  where
    go : (o : Ordering) → (find_by to t ≡ some h → Memᴰ h t) → find_at o x (find_by to t) ≡ some h → Memᴰ h (x ∷ t)
    go Ordering.lt ih e = absurd (none≢some h e)
    go Ordering.eq ih e = here (sym (some-injective x h e))
    go Ordering.gt ih e = there (ih e)

-- what is found compares as the same
pub find_same : {A : Type 0} (to : A → Ordering) (l : List A) (h : A) → find_by to l ≡ some h → to h ≡ Ordering.eq
unfolding find_by
find_same to [] h e = absurd (none≢some h e)
find_same {A} to (x ∷ t) h e = go (to x) refl (find_same to t h) e
  where
    go : (o : Ordering) → to x ≡ o → (find_by to t ≡ some h → to h ≡ Ordering.eq) → find_at o x (find_by to t) ≡ some h → to h ≡ Ordering.eq
    go Ordering.lt q ih e = absurd (none≢some h e)
    go Ordering.eq q ih e = ap to (sym (some-injective x h e)) ∙ q
    go Ordering.gt q ih e = ih e

-- what is held, through a map
pub find_map : {A B : Type 0} (to : B → Ordering) (g : A → B) (l : List A) → find_by to (map g l) ≡ Option.map g (find_by (λ y. to (g y)) l)
unfolding find_by
find_map to g [] = refl
find_map {A} {B} to g (h ∷ t) = go (to (g h)) (find_map to g t)
  where
    go : (o : Ordering) → find_by to (map g t) ≡ Option.map g (find_by (λ y. to (g y)) t) → find_at o (g h) (find_by to (map g t)) ≡ Option.map g (find_at o h (find_by (λ y. to (g y)) t))
    go Ordering.lt ih = refl
    go Ordering.eq ih = refl
    go Ordering.gt ih = ih

-- two comparisons that agree on what is compared
module _ {A : Type 0} (f g : A → A → Ordering) (beats : A → A → Bool) (c : A) where
  pub put_cong : (l : List A) → ((y : A) → Memᴰ y l → f c y ≡ g c y) → put f beats c l ≡ put g beats c l
  unfolding put
  put_cong [] e = refl
  put_cong (h ∷ t) e = ap₂ (λ (o : Ordering) (r : List A). put_at g beats o c h t r) (e h (here refl)) (put_cong t (λ y m. e y (there m)))

-- ---- one insertion
module _ {A : Type 0} (key : A → ℕ) (beats : A → A → Bool) where
  -- the order stays
  pub put_asc : (c : A) (l : List A) → Asc key l → Asc key (put (by_key key) beats c l)
  unfolding put
  put_asc c [] s = (λ x m. absurd (nowhere m), tt)
  put_asc c (h ∷ t) s = go (by_key key c h) (cmp (key c) (key h)) (put_asc c t s.1)
    where
      from_c : key c < key h → (x : A) → (x ≡ h) ⊎ Memᴰ x t → key c < key x
      from_c l x (inl e) = omega (arith, ap key e)
      from_c l x (inr m) = omega (arith, s.0 x m)

      pick_key : (b : Bool) → key c ≡ key h → key (cond b c h) ≡ key h
      pick_key true e = e
      pick_key false e = refl

      past_h : key h < key c → (x : A) → (x ≡ c) ⊎ Memᴰ x t → key h < key x
      past_h l x (inl e) = omega (arith, ap key e)
      past_h l x (inr m) = s.0 x m

      go : (o : Ordering) → Cmp o (key c) (key h) → Asc key (put (by_key key) beats c t) → Asc key (put_at (by_key key) beats o c h t (put (by_key key) beats c t))
      go Ordering.lt l ih = (λ x m. from_c l x (cases m), s)
      go Ordering.eq e ih = (λ x m. omega (arith, pick_key (beats c h) e, s.0 x m), s.1)
      go Ordering.gt l ih = (λ x m. past_h l x (put_from (by_key key) beats c t x m), ih)

-- the best item of each key
module _ {A : Type 0} {Ok : A → Type 0} (key : A → ℕ) (beats : A → A → Bool) (L : Ranks Ok key beats) where
  -- an item of x's key that x does not beat
  abbrev pub Top : A → List A → Type 0
  Top x l = (d : A) × Memᴰ d l × (key d ≡ key x) × (beats x d ≡ false)

  -- the best item stays: of the new item's key, and of each key held
  itself : (x : A) (l : List A) → Memᴰ x l → Top x l
  itself x l m = (x, m, refl, L.self x)

  further : (x h : A) (t : List A) → Top x t → Top x (h ∷ t)
  further x h t p = (p.0, there p.1, p.2, p.3)

  pub put_top : (c : A) (l : List A) (x : A) → (x ≡ c) ⊎ Memᴰ x l → Top x (put (by_key key) beats c l)
  unfolding put
  put_top c [] x (inl e) = itself x (c ∷ []) (here e)
  put_top c [] x (inr m) = absurd (nowhere m)
  put_top c (h ∷ t) x o = go (by_key key c h) (cmp (key c) (key h)) (put_top c t x) o
    where
      new : key c ≡ key h → (b : Bool) → beats c h ≡ b → x ≡ c → Top x (cond b c h ∷ t)
      new k true e q = itself x (c ∷ t) (here q)
      new k false e q = (h, here refl, omega (arith, ap key q), rw q e)

      old : key c ≡ key h → (b : Bool) → beats c h ≡ b → x ≡ h → Top x (cond b c h ∷ t)
      old k true e q = (c, here refl, omega (arith, ap key q), rw q (L.turn c h e))
      old k false e q = itself x (h ∷ t) (here q)

      go : (o : Ordering) → Cmp o (key c) (key h) → ((x ≡ c) ⊎ Memᴰ x t → Top x (put (by_key key) beats c t)) → (x ≡ c) ⊎ Memᴰ x (h ∷ t) → Top x (put_at (by_key key) beats o c h t (put (by_key key) beats c t))
      go Ordering.lt l ih (inl e) = itself x (c ∷ h ∷ t) (here e)
      go Ordering.lt l ih (inr m) = itself x (c ∷ h ∷ t) (there m)
      go Ordering.eq k ih (inl e) = new k (beats c h) refl e
      go Ordering.eq k ih (inr (here q)) = old k (beats c h) refl q
      go Ordering.eq k ih (inr (there m)) = itself x (cond (beats c h) c h ∷ t) (there m)
      go Ordering.gt l ih (inl e) = further x h (put (by_key key) beats c t) (ih (inl e))
      go Ordering.gt l ih (inr (here q)) = itself x (h ∷ put (by_key key) beats c t) (here q)
      go Ordering.gt l ih (inr (there m)) = further x h (put (by_key key) beats c t) (ih (inr m))

module _ {A : Type 0} {Ok : A → Type 0} (key : A → ℕ) (beats : A → A → Bool) (L : Ranks Ok key beats) where
  pub record Bests (P : A → Type 0) (ds : List A) : Type 0 where
    pub asc : Asc key ds
    pub from : (d : A) → Memᴰ d ds → P d
    pub top : (x : A) → P x → Top key beats L x ds

  pub bests_none : {P : A → Type 0} → ((x : A) → P x → ⊥) → Bests P []
  bests_none n = record { asc = tt; from = λ d m. absurd (nowhere m); top = λ x p. absurd (n x p) }

  pub bests_like : {P Q : A → Type 0} {ds : List A} → ((x : A) → P x → Q x) → ((x : A) → Q x → P x) → Bests P ds → Bests Q ds
  bests_like f g b = record { asc = b.asc; from = λ d m. f d (b.from d m); top = λ x q. b.top x (g x q) }

  pub bests_put : {P : A → Type 0} {ds : List A} (c : A) → Bests P ds → Bests (λ x. (x ≡ c) ⊎ P x) (put (by_key key) beats c ds)
  bests_put {P} {ds} c b = record {
    asc = put_asc key beats c ds b.asc;
    from = λ d m. come d (put_from (by_key key) beats c ds d m);
    top = λ x. best x;
  }
    where
      come : (d : A) → (d ≡ c) ⊎ Memᴰ d ds → (d ≡ c) ⊎ P d
      come d (inl e) = inl e
      come d (inr m) = inr (b.from d m)

      over : (x : A) (p : Top key beats L x ds) → Top key beats L p.0 (put (by_key key) beats c ds) → Top key beats L x (put (by_key key) beats c ds)
      over x p q = (q.0, q.1, q.2 ∙ p.2, L.chain x p.0 q.0 p.3 q.3)

      best : (x : A) → (x ≡ c) ⊎ P x → Top key beats L x (put (by_key key) beats c ds)
      best x (inl e) = put_top key beats L c ds x (inl e)
      best x (inr p) = let q = b.top x p in over x q (put_top key beats L c ds q.0 (inr q.1))

  -- there is one such list
  module _ {P : A → Type 0} (ok : (x : A) → P x → Ok x) where
    into : (ds es : List A) → Bests P ds → Bests P es → (d : A) → Memᴰ d ds → Memᴰ d es
    into ds es b r d m =
        let p = b.from d m in
        let q = r.top d p in
        let s = b.top q.0 (r.from q.0 q.1) in
        let e : s.0 ≡ d = asc_one key ds b.asc s.0 d s.1 m (s.2 ∙ q.2) in
        let t : beats q.0 d ≡ false = rw e at s.3 in
        Memᴰ.cast (L.equal d q.0 (ok d p) (ok q.0 (r.from q.0 q.1)) (sym q.2) q.3 t) q.1

    pub bests_one : (ds es : List A) → Bests P ds → Bests P es → ds ≡ es
    bests_one ds es b r = asc_ext key ds es b.asc r.asc (into ds es b r) (into es ds r b)
