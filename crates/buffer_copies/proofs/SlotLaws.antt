-- Slots: the lowest free one, and what an entry put into its place does to the copies held.
use mathlib.Core.Path.{◌≡◌, refl, sym, ap, ap₂, ◌∙◌}
use mathlib.Core.Logic.{◌⊎◌, inl, inr}
use mathlib.Core.List.Memᴰ
use mathlib.Core.List.Memᴰ.{cases_cons as cases}
use mathlib.Core.List.Memᴰ.{head as here}
use mathlib.Core.List.Memᴰ.{not-nil as nowhere}
use mathlib.Core.List.Memᴰ.{tail as there}
use mathlib.Core.List.{List, [], ◌∷◌, map, Memᴰ}
use mathlib.Core.Bool.{Bool, true, false, cond, ◌||◌, false≢true, true≢false}
use mathlib.Core.Option.{some, none-ne-some as none≢some, some-injective}
use Prim.Native.Nat.{ℕ, zero, suc, ◌+◌, ◌*◌, ◌≤◌, ◌<◌, compare, Ordering}
use native.Mathlib.Omega.{arith}
use native.Mathlib.Nat.{eq-or-lt_of_le, le_of_suc-le-suc}
use lib.ListN.{length, take, drop, length-map}
use lib.Seq.{paste, length-paste, take-length}
use lib.Dec.{eqb}
use borrow.Author.Tests.{eqb-true, eqb-false}
use Rattle.buffer_copies.specs.Sizes.{slots, slot_size, store_size}
use Rattle.buffer_copies.specs.Copies.{Copy, side, better}
use Rattle.buffer_copies.specs.Entries.{Entry, frame_of, view, views, entry_of, remarked, side_of_entry, put_at, put, find_at, find_by, slot_used, lowest, free_slot, always, placed, stored}
use Rattle.buffer_copies.proofs.InsertionLaws.{put_from, find_mem, Cmp, cmp}
use Rattle.buffer_copies.proofs.DistinctLaws.{no_more, Differ}
use Rattle.buffer_copies.proofs.StoreLaws.{part_same, part_before, part_after}

map_same : {A B : Type 0} (f g : A → B) (l : List A) → ((y : A) → Memᴰ y l → f y ≡ g y) → map f l ≡ map g l
map_same f g [] e = refl
map_same f g (h ∷ t) e = ap₂ ◌∷◌ (e h (here refl)) (map_same f g t (λ y m. e y (there m)))

abbrev pub slot_of : Entry → ℕ
slot_of e = e.slot

-- the entries have different slots
abbrev pub OwnSlots : List Entry → Type 0
OwnSlots es = Differ slot_of es

-- An entry e put into place. It has the slot of the entry that it replaces, and of no other.
abbrev pub Clash : Entry → List Entry → Type 0
Clash e es = (y : Entry) → Memᴰ y es → e.slot ≡ y.slot → find_by (side_of_entry e) es ≡ some y

module _ (e : Entry) where
  -- an entry that lies before e has another slot
  apart : (h : Entry) (t : List Entry) → OwnSlots (h ∷ t) → (e.slot ≡ h.slot → find_by (side_of_entry e) t ≡ some h) → e.slot ≡ h.slot → ⊥
  apart h t S q w = S.0 h (find_mem (side_of_entry e) t h (q w)) refl

  pub put_slots : (es : List Entry) → OwnSlots es → Clash e es → OwnSlots (put side_of_entry always e es)
  unfolding put find_by
  put_slots [] S q = (λ f m. absurd (nowhere m), tt)
  put_slots (h ∷ t) S q = go (side_of_entry e h) (put_slots t S.1) q
    where
      past : ((e.slot ≡ h.slot) → ⊥) → (f : Entry) → (f ≡ e) ⊎ Memᴰ f t → h.slot ≡ f.slot → ⊥
      past n f (inl r) w = n (sym (w ∙ ap slot_of r))
      past n f (inr m) w = S.0 f m w

      go : (o : Ordering) → (Clash e t → OwnSlots (put side_of_entry always e t)) → ((y : Entry) → Memᴰ y (h ∷ t) → e.slot ≡ y.slot → find_at o h (find_by (side_of_entry e) t) ≡ some y) → OwnSlots (put_at side_of_entry always o e h t (put side_of_entry always e t))
      go Ordering.lt ih q = (λ f m w. none≢some f (q f m w), S)
      go Ordering.eq ih q = (λ f m w. S.0 f m (ap slot_of (some-injective h f (q f (there m) w))), S.1)
      go Ordering.gt ih q = (λ f m. past (apart h t S (q h (here refl))) f (put_from side_of_entry always e t f m), ih (λ y m. q y (there m)))

  module _ (f g : Entry → Copy) (c : Copy) (fe : f e ≡ c) (agree : (y : Entry) → side c (g y) ≡ side_of_entry e y) where
    put_view : (es : List Entry) → OwnSlots es → Clash e es → ((k : Entry) → find_by (side_of_entry e) es ≡ some k → better c (g k) ≡ true) → ((y : Entry) → Memᴰ y es → (e.slot ≡ y.slot → ⊥) → f y ≡ g y) → map f (put side_of_entry always e es) ≡ put side better c (map g es)
    unfolding put find_by
    put_view [] S q b same = ap (λ (x : Copy). x ∷ []) fe
    put_view (h ∷ t) S q b same = rw (agree h) (go (side_of_entry e h) (λ q b. put_view t S.1 q b (λ y m. same y (there m))) q b)
      where
        go : (o : Ordering) → (Clash e t → ((k : Entry) → find_by (side_of_entry e) t ≡ some k → better c (g k) ≡ true) → map f (put side_of_entry always e t) ≡ put side better c (map g t)) → ((y : Entry) → Memᴰ y (h ∷ t) → e.slot ≡ y.slot → find_at o h (find_by (side_of_entry e) t) ≡ some y) → ((k : Entry) → find_at o h (find_by (side_of_entry e) t) ≡ some k → better c (g k) ≡ true) → map f (put_at side_of_entry always o e h t (put side_of_entry always e t)) ≡ put_at side better o c (g h) (map g t) (put side better c (map g t))
        go Ordering.lt ih q b = ap₂ ◌∷◌ fe (map_same f g (h ∷ t) (λ y m. same y m (λ w. none≢some y (q y m w))))
        go Ordering.eq ih q b =
            rw (b h refl)
            (ap₂ ◌∷◌ fe (map_same f g t (λ y m. same y (there m) (λ w. S.0 y m (ap slot_of (some-injective h y (q y (there m) w)))))))
        go Ordering.gt ih q b = ap₂ ◌∷◌ (same h (here refl) (apart h t S (q h (here refl)))) (ih (λ y m. q y (there m)) b)

-- ---- the lowest free slot
used_in : (k : ℕ) (es : List Entry) → slot_used k es ≡ true → Memᴰ k (map slot_of es)
unfolding slot_used
used_in k [] e = absurd (false≢true e)
used_in k (h ∷ t) e = go (eqb k h.slot) refl (used_in k t) e
  where
    go : (b : Bool) → eqb k h.slot ≡ b → (slot_used k t ≡ true → Memᴰ k (map slot_of t)) → (b || slot_used k t) ≡ true → Memᴰ k (h.slot ∷ map slot_of t)
    go true q ih e = here (eqb-true k h.slot q)
    go false q ih e = there (ih e)

pub slot_unused : (k : ℕ) (es : List Entry) → slot_used k es ≡ false → (y : Entry) → Memᴰ y es → k ≡ y.slot → ⊥
unfolding slot_used
slot_unused k [] e y m w = elim m [ ]
slot_unused k (h ∷ t) e y m w = go (eqb k h.slot) refl (slot_unused k t) e (cases m)
  where
    go : (b : Bool) → eqb k h.slot ≡ b → (slot_used k t ≡ false → (y : Entry) → Memᴰ y t → k ≡ y.slot → ⊥) → (b || slot_used k t) ≡ false → (y ≡ h) ⊎ Memᴰ y t → ⊥
    go true q ih e o = true≢false e
    go false q ih e (inl r) = eqb-false k h.slot q (w ∙ ap slot_of r)
    go false q ih e (inr m) = ih e y m w

-- the numbers below n
below : ℕ → List ℕ
below zero = []
below (suc n) = n ∷ below n

in_below : (n j : ℕ) → Memᴰ j (below n) → j < n
unfolding below
in_below zero j m = absurd (nowhere m)
in_below (suc n) j (here e) = omega arith
in_below (suc n) j (there m) = omega (arith, in_below n j m)

below_differ : (n : ℕ) → Differ (λ (k : ℕ). k) (below n)
unfolding below
below_differ zero = tt
below_differ (suc n) = (λ j m e. omega (arith, in_below n j m), below_differ n)

below_length : (n : ℕ) → length (below n) ≡ n
unfolding below
below_length zero = refl
below_length (suc n) = ap suc (below_length n)

module _ (es : List Entry) (l : length es < slots) where
  abbrev Free : ℕ → Type 0
  Free k = (k < slots) × (slot_used k es ≡ false)

  lowest_free_lem : (n k : ℕ) → k + n ≡ slots → ((j : ℕ) → j < k → Memᴰ j (map slot_of es)) → Free (lowest n k es)
  unfolding lowest
  lowest_free_lem zero k e all =
      absurd (omega (arith, no_more (λ (j : ℕ). j) (below k) (map slot_of es) (below_differ k) (λ j m. all j (in_below k j m)), below_length k, length-map es slot_of))
  lowest_free_lem (suc n) k e all = go (slot_used k es) refl (lowest_free_lem n (suc k) (omega arith))
    where
      more : slot_used k es ≡ true → (j : ℕ) → (j ≡ k) ⊎ (j < k) → Memᴰ j (map slot_of es)
      more q j (inl h) = Memᴰ.cast h (used_in k es q)
      more q j (inr h) = all j h

      go : (b : Bool) → slot_used k es ≡ b → (((j : ℕ) → j < suc k → Memᴰ j (map slot_of es)) → Free (lowest n (suc k) es)) → Free (cond b (lowest n (suc k) es) k)
      go true q ih = ih (λ j h. more q j (eq-or-lt_of_le (le_of_suc-le-suc h)))
      go false q ih = (omega arith, q)

  pub free_slot_lem : (free_slot es < slots) × (slot_used (free_slot es) es ≡ false)
  unfolding free_slot
  free_slot_lem = lowest_free_lem slots 0 refl (λ j h. absurd (omega arith))

-- ---- a frame laid into a slot k of a store with room
module _ (c : Copy) (es : List Entry) (s : List ℕ) (room : store_size ≤ length s) (small : length c.bytes ≤ slot_size) (k : ℕ) (lk : k < slots) where
  in_store : slot_size * k + length c.bytes ≤ length s
  in_store = omega arith

  pub stored_length : length (stored s k c.bytes) ≡ length s
  unfolding stored
  stored_length = length-paste s (slot_size * k) c.bytes (length c.bytes) in_store (omega arith)

  view_stored : (mark : ℕ) → view (stored s k c.bytes) (entry_of c mark k) ≡ c
  unfolding view entry_of stored
  view_stored mark =
      let p : take (length c.bytes) (drop (slot_size * k) (paste s (slot_size * k) c.bytes (length c.bytes))) ≡ c.bytes =
      part_same s (slot_size * k) c.bytes (length c.bytes) in_store (omega arith) ∙ take-length c.bytes in
      λ i. record { time = c.time; channel = c.channel; class = c.class; bytes = p i }

  view_other : (y : Entry) → y.length ≤ slot_size → (k ≡ y.slot → ⊥) → view (stored s k c.bytes) y ≡ view s y
  unfolding view stored
  view_other y l n =
      let p = go (compare y.slot k) (cmp y.slot k) in
      λ i. record { time = y.time; channel = y.channel; class = y.class; bytes = p i }
    where
      go : (o : Ordering) → Cmp o y.slot k → frame_of (stored s k c.bytes) y ≡ frame_of s y
      go Ordering.lt q = part_before s (slot_size * k) c.bytes (length c.bytes) in_store (omega arith) (slot_size * y.slot) y.length (omega arith)
      go Ordering.eq q = absurd (n (sym q))
      go Ordering.gt q = part_after s (slot_size * k) c.bytes (length c.bytes) in_store (omega arith) (slot_size * y.slot) y.length (omega arith)

  pub laid_views : (mark : ℕ) → OwnSlots es → ((y : Entry) → Memᴰ y es → y.length ≤ slot_size) → Clash (entry_of c mark k) es → ((e : Entry) → find_by (side_of_entry (entry_of c mark k)) es ≡ some e → better c (view s e) ≡ true) → views (stored s k c.bytes) (placed (entry_of c mark k) es) ≡ put side better c (views s es)
  unfolding placed view entry_of
  laid_views mark S l q b = put_view (entry_of c mark k) (view (stored s k c.bytes)) (view s) c (view_stored mark) (λ y. refl) es S q b (λ y m. view_other y (l y m))

-- ---- an entry with another mark holds the same copy
pub remarked_view : (s : List ℕ) (mark : ℕ) (e : Entry) → view s (remarked mark e) ≡ view s e
unfolding view remarked
remarked_view s mark e = refl

-- what does not see how an entry differs from the one of its pair sees no difference when it takes its place
pub put_alike : {A : Type 0} (f : Entry → A) (e k : Entry) (es : List Entry) → find_by (side_of_entry e) es ≡ some k → f e ≡ f k → map f (put side_of_entry always e es) ≡ map f es
unfolding put find_by
put_alike f e k [] w q = absurd (none≢some k w)
put_alike f e k (h ∷ t) w q = go (side_of_entry e h) (λ w. put_alike f e k t w q) w
  where
    go : (o : Ordering) → (find_by (side_of_entry e) t ≡ some k → map f (put side_of_entry always e t) ≡ map f t) → find_at o h (find_by (side_of_entry e) t) ≡ some k → map f (put_at side_of_entry always o e h t (put side_of_entry always e t)) ≡ f h ∷ map f t
    go Ordering.lt ih w = absurd (none≢some k w)
    go Ordering.eq ih w = ap (λ x. x ∷ map f t) (q ∙ sym (ap f (some-injective h k w)))
    go Ordering.gt ih w = ap (λ l. f h ∷ l) (ih w)

pub remarked_views : (s : List ℕ) (mark : ℕ) (e : Entry) (es : List Entry) → find_by (side_of_entry (remarked mark e)) es ≡ some e → views s (placed (remarked mark e) es) ≡ views s es
unfolding placed
remarked_views s mark e es w = put_alike (view s) (remarked mark e) e es w (remarked_view s mark e)
