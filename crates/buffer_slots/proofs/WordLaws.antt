-- The words that mark distinct slots: a slot's mark is how often it stands in the list, and the number of marks is the list's length, in whatever order.
use Prim.Native.Nat.{ℕ, zero, suc, ◌+◌, ◌/◌, ◌%◌, ◌^◌, ◌≤◌, ◌<◌, zero-le}
use mathlib.Core.Path.{◌≡◌, refl, sym, ap, ◌∙◌, subst}
use mathlib.Core.List.Memᴰ.{head as here}
use mathlib.Core.List.Memᴰ.{tail as there}
use mathlib.Core.List.{List, [], ◌∷◌, map, Memᴰ}
use mathlib.Core.Bool.{Bool, true, false, cond, not, ◌||◌}
use native.Mathlib.Decide.{ℕ_discrete}
use native.Mathlib.Nat.{not-suc-le-zero}
use native.Mathlib.Numerals.{add-one}
use native.Mathlib.Omega.{arith}
use borrow.Author.Tests.{eq-eqb, ne_eqb, eqb-true}
use lib.Count.{ones}
use lib.Dec.{eqb}
use lib.ListN.{length, get_or, length-map}
use lib.Seq.{get_or-set_same, get_or-set_other}
use Rattle.buffer_copies.specs.Sizes.{slots}
use Rattle.buffer_copies.specs.Entries.{Entry, slot_used, lowest, free_slot}
use Rattle.buffer_copies.proofs.DistinctLaws.{Differ, no_more}
use Rattle.buffer_slots.specs.Bits.{bit_at, mark_of, held_in, weight, word_at, words_of, marked, unmarked, lowest_from, lowest_free}
use Rattle.buffer_slots.proofs.BitLaws.{bit_same, bit_other, ones_add}

not_not : (b : Bool) → not (not b) ≡ b
not_not true = refl
not_not false = refl

-- One slot more or less

weight_at : (k s : ℕ) → s / 64 ≡ k → weight k s ≡ 2 ^ (s % 64)
unfolding weight
weight_at k s e = rw (eq-eqb (s / 64) k e)

weight_off : (k s : ℕ) → (s / 64 ≡ k → ⊥) → weight k s ≡ 0
unfolding weight
weight_off k s e = rw (ne_eqb (s / 64) k e)

-- a slot is of one of the three words
by_word : {P : Type 0} (s : ℕ) → s < slots → (s / 64 ≡ 0 → P) → (s / 64 ≡ 1 → P) → (s / 64 ≡ 2 → P) → P
by_word {P} s l f g h = go (s / 64) refl (omega arith)
  where
    go : (k : ℕ) → s / 64 ≡ k → k < 3 → P
    go zero e b = f e
    go (suc zero) e b = g e
    go (suc (suc zero)) e b = h e
    go (suc (suc (suc k))) e b = absurd (omega arith)

three : {a b c d e f : ℕ} → a ≡ b → c ≡ d → e ≡ f → ◌≡◌ {A = List ℕ} (a ∷ c ∷ e ∷ []) (b ∷ d ∷ f ∷ [])
three p q r = λ j. p j ∷ q j ∷ r j ∷ []

module _ (xs ys : List ℕ) (s : ℕ) (l : s < slots) (p : word_at 0 ys ≡ word_at 0 xs + weight 0 s) (q : word_at 1 ys ≡ word_at 1 xs + weight 1 s)
    (r : word_at 2 ys ≡ word_at 2 xs + weight 2 s) where
  weights_0 : s / 64 ≡ 0 → (weight 0 s ≡ 2 ^ (s % 64)) × (weight 1 s ≡ 0) × (weight 2 s ≡ 0)
  weights_0 e = (weight_at 0 s e, weight_off 1 s (omega arith), weight_off 2 s (omega arith))

  weights_1 : s / 64 ≡ 1 → (weight 0 s ≡ 0) × (weight 1 s ≡ 2 ^ (s % 64)) × (weight 2 s ≡ 0)
  weights_1 e = (weight_off 0 s (omega arith), weight_at 1 s e, weight_off 2 s (omega arith))

  weights_2 : s / 64 ≡ 2 → (weight 0 s ≡ 0) × (weight 1 s ≡ 0) × (weight 2 s ≡ 2 ^ (s % 64))
  weights_2 e = (weight_off 0 s (omega arith), weight_off 1 s (omega arith), weight_at 2 s e)

  -- with a slot more, at whatever place of the list
  pub mark_adds : marked (words_of xs) s ≡ words_of ys
  mark_adds =
      by_word s l
      (λ e. let w = weights_0 e in rw e (three (omega arith) (omega arith) (omega arith)))
      (λ e. let w = weights_1 e in rw e (three (omega arith) (omega arith) (omega arith)))
      (λ e. let w = weights_2 e in rw e (three (omega arith) (omega arith) (omega arith)))

  mark_takes : unmarked (words_of ys) s ≡ words_of xs
  mark_takes =
      by_word s l
      (λ e. let w = weights_0 e in rw e (three (omega arith) (omega arith) (omega arith)))
      (λ e. let w = weights_1 e in rw e (three (omega arith) (omega arith) (omega arith)))
      (λ e. let w = weights_2 e in rw e (three (omega arith) (omega arith) (omega arith)))

  -- the mark is there to be taken away
  mark_fits : 2 ^ (s % 64) ≤ get_or (words_of ys) (s / 64) 0
  mark_fits =
      by_word s l (λ e. let w = weights_0 e in rw e (omega arith)) (λ e. let w = weights_1 e in rw e (omega arith)) (λ e. let w = weights_2 e in rw e (omega arith))

pub word_cons : (k s : ℕ) (ss : List ℕ) → word_at k (s ∷ ss) ≡ word_at k ss + weight k s
unfolding word_at
word_cons k s ss = omega arith

pub words_cons : (s : ℕ) (ss : List ℕ) → s < slots → marked (words_of ss) s ≡ words_of (s ∷ ss)
words_cons s ss l = mark_adds ss (s ∷ ss) s l (word_cons 0 s ss) (word_cons 1 s ss) (word_cons 2 s ss)

pub words_rest : (s : ℕ) (ss : List ℕ) → s < slots → words_of ss ≡ unmarked (words_of (s ∷ ss)) s
words_rest s ss l = sym (mark_takes ss (s ∷ ss) s l (word_cons 0 s ss) (word_cons 1 s ss) (word_cons 2 s ss))

pub words_first : (s : ℕ) (ss : List ℕ) → s < slots → 2 ^ (s % 64) ≤ get_or (words_of (s ∷ ss)) (s / 64) 0
words_first s ss l = mark_fits ss (s ∷ ss) s l (word_cons 0 s ss) (word_cons 1 s ss) (word_cons 2 s ss)

-- A slot marked: its mark, the others, and the number held

module _ (ws : List ℕ) (size : length ws ≡ 3) (s : ℕ) (l : s < slots) (free : mark_of ws s ≡ 0) where
  here_is : get_or (marked ws s) (s / 64) 0 ≡ get_or ws (s / 64) 0 + 2 ^ (s % 64)
  here_is = get_or-set_same ws (s / 64) (get_or ws (s / 64) 0 + 2 ^ (s % 64)) 0 (omega arith)

  else_is : (k : ℕ) → (k ≡ s / 64 → ⊥) → get_or (marked ws s) k 0 ≡ get_or ws k 0
  else_is k n = get_or-set_other ws (s / 64) k (get_or ws (s / 64) 0 + 2 ^ (s % 64)) 0 n

  mark_same : mark_of (marked ws s) s ≡ 1
  mark_same = ap (bit_at (s % 64)) here_is ∙ bit_same (s % 64) (get_or ws (s / 64) 0) free

  mark_other : (x : ℕ) → (x ≡ s → ⊥) → mark_of (marked ws s) x ≡ mark_of ws x
  mark_other x d = go (ℕ_discrete (x / 64) (s / 64))
    where
      go : Dec (x / 64 ≡ s / 64) → mark_of (marked ws s) x ≡ mark_of ws x
      go (yes e) =
          ap (λ (k : ℕ). bit_at (x % 64) (get_or (marked ws s) k 0)) e ∙ ap (bit_at (x % 64)) here_is
          ∙ bit_other (x % 64) (s % 64) (get_or ws (s / 64) 0) (λ q. d (omega arith)) free ∙ ap (λ (k : ℕ). bit_at (x % 64) (get_or ws k 0)) (sym e)
      go (no n) = ap (bit_at (x % 64)) (else_is (x / 64) n)

  held_mark : held_in (marked ws s) ≡ held_in ws + 1
  held_mark =
      by_word s l
      (λ e. omega (arith, word 0 e, else 1 (omega arith), else 2 (omega arith)))
      (λ e. omega (arith, word 1 e, else 0 (omega arith), else 2 (omega arith)))
      (λ e. omega (arith, word 2 e, else 0 (omega arith), else 1 (omega arith)))
    where
      word : (k : ℕ) → s / 64 ≡ k → ones (get_or (marked ws s) k 0) ≡ ones (get_or ws k 0) + 1
      word k e =
          subst (λ (m : ℕ). ones (get_or (marked ws s) m 0) ≡ ones (get_or ws m 0) + 1) e
          (ap ones here_is ∙ ones_add (s % 64) (get_or ws (s / 64) 0) free)

      else : (k : ℕ) → (k ≡ s / 64 → ⊥) → ones (get_or (marked ws s) k 0) ≡ ones (get_or ws k 0)
      else k n = ap ones (else_is k n)

-- Distinct slots

-- how often x stands in a list
unfoldable pub count_in : ℕ → List ℕ → ℕ
count_in x [] = 0
count_in x (s ∷ ss) = cond (eqb x s) 1 0 + count_in x ss

pub record Distinct (ss : List ℕ) : Type 0 where
  pub once : (x : ℕ) → count_in x ss ≤ 1
  pub within : (x : ℕ) → 0 < count_in x ss → x < slots

pub count_here : (s : ℕ) (ss : List ℕ) → count_in s (s ∷ ss) ≡ suc (count_in s ss)
unfolding count_in
count_here s ss = rw (eq-eqb s s refl) (omega arith)

pub count_else : (x s : ℕ) (ss : List ℕ) → (x ≡ s → ⊥) → count_in x (s ∷ ss) ≡ count_in x ss
unfolding count_in
count_else x s ss d = rw (ne_eqb x s d) (omega arith)

count_tail : (x s : ℕ) (ss : List ℕ) → count_in x ss ≤ count_in x (s ∷ ss)
unfolding count_in
count_tail x s ss = omega arith

pub distinct_none : Distinct []
unfolding count_in
distinct_none = record { once = λ x. zero-le; within = λ x h. absurd (not-suc-le-zero h) }

pub distinct_tail : (s : ℕ) (ss : List ℕ) → Distinct (s ∷ ss) → Distinct ss
distinct_tail s ss d = record { once = λ x. omega (arith, d.once x, count_tail x s ss); within = λ x h. d.within x (omega (arith, count_tail x s ss)) }

pub distinct_cons : (s : ℕ) (ss : List ℕ) → Distinct ss → s < slots → count_in s ss ≡ 0 → Distinct (s ∷ ss)
distinct_cons s ss d l z = record { once = λ x. once x (ℕ_discrete x s); within = λ x h. within x h (ℕ_discrete x s) }
  where
    once : (x : ℕ) → Dec (x ≡ s) → count_in x (s ∷ ss) ≤ 1
    once x (yes e) = rw e (omega (arith, count_here s ss))
    once x (no n) = omega (arith, count_else x s ss n, d.once x)

    within : (x : ℕ) → 0 < count_in x (s ∷ ss) → Dec (x ≡ s) → x < slots
    within x h (yes e) = omega arith
    within x h (no n) = d.within x (omega (arith, count_else x s ss n))

bit_none : (j : ℕ) → bit_at j 0 ≡ 0
unfolding bit_at
bit_none zero = refl
bit_none (suc j) = bit_none j

word_none : (k : ℕ) → get_or (words_of []) k 0 ≡ 0
unfolding word_at
word_none zero = refl
word_none (suc zero) = refl
word_none (suc (suc zero)) = refl
word_none (suc (suc (suc k))) = refl

held_none : held_in (words_of []) ≡ 0
unfolding word_at ones
held_none = refl

pub count_none : (x : ℕ) → count_in x [] ≡ 0
unfolding count_in
count_none x = refl

pub mark_count : (ss : List ℕ) → Distinct ss → (x : ℕ) → mark_of (words_of ss) x ≡ count_in x ss
mark_count [] d x = ap (bit_at (x % 64)) (word_none (x / 64)) ∙ bit_none (x % 64) ∙ sym (count_none x)
mark_count (s ∷ ss) d x = go (mark_count ss (distinct_tail s ss d)) (ℕ_discrete x s)
  where
    l : s < slots
    l = d.within s (omega (arith, count_here s ss))

    go : ((y : ℕ) → mark_of (words_of ss) y ≡ count_in y ss) → Dec (x ≡ s) → mark_of (words_of (s ∷ ss)) x ≡ count_in x (s ∷ ss)
    go ih (yes e) =
        let f : mark_of (words_of ss) s ≡ 0 = omega (arith, ih s, d.once s, count_here s ss) in
        ap (λ (w : List ℕ). mark_of w x) (sym (words_cons s ss l)) ∙ ap (mark_of (marked (words_of ss) s)) e ∙ mark_same (words_of ss) refl s l f
        ∙ omega (arith, d.once s, count_here s ss, ap (λ (y : ℕ). count_in y (s ∷ ss)) e)
    go ih (no n) =
        let f : mark_of (words_of ss) s ≡ 0 = omega (arith, ih s, d.once s, count_here s ss) in
        ap (λ (w : List ℕ). mark_of w x) (sym (words_cons s ss l)) ∙ mark_other (words_of ss) refl s l f x n ∙ ih x ∙ sym (count_else x s ss n)

pub held_count : (ss : List ℕ) → Distinct ss → held_in (words_of ss) ≡ length ss
held_count [] d = held_none
held_count (s ∷ ss) d =
    let l : s < slots = d.within s (omega (arith, count_here s ss)) in
    let r = distinct_tail s ss d in
    let f : mark_of (words_of ss) s ≡ 0 = omega (arith, mark_count ss r s, d.once s, count_here s ss) in
    ap held_in (sym (words_cons s ss l)) ∙ held_mark (words_of ss) refl s l f ∙ omega (arith, held_count ss r)

-- The slots of entries

abbrev pub slot_of : Entry → ℕ
slot_of e = e.slot

abbrev pub slots_of : List Entry → List ℕ
slots_of es = map slot_of es

-- the entries have slots of their own, each one of the 192
pub record SlotFacts (es : List Entry) : Type 0 where
  pub differ : Differ slot_of es
  pub within : (e : Entry) → Memᴰ e es → e.slot < slots

count_member : (x : ℕ) (es : List Entry) → 0 < count_in x (slots_of es) → (e : Entry) × Memᴰ e es × (x ≡ e.slot)
count_member x [] h = absurd (let z : 0 < 0 = rw (count_none x) at h in not-suc-le-zero z)
count_member x (e ∷ es) h = go (count_member x es) (ℕ_discrete x e.slot)
  where
    go : (0 < count_in x (slots_of es) → (f : Entry) × Memᴰ f es × (x ≡ f.slot)) → Dec (x ≡ e.slot) → (f : Entry) × Memᴰ f (e ∷ es) × (x ≡ f.slot)
    go ih (yes q) = (e, here refl, q)
    go ih (no n) = let r = ih (omega (arith, count_else x e.slot (slots_of es) n)) in (r.0, there r.1, r.2)

member_count : (e : Entry) (es : List Entry) → Memᴰ e es → 0 < count_in e.slot (slots_of es)
member_count e [] x' = elim x' [ ]
member_count e (f ∷ es) (here q) = rw (ap slot_of q) (omega (arith, count_here f.slot (slots_of es)))
member_count e (f ∷ es) (there m) = omega (arith, member_count e es m, count_tail e.slot f.slot (slots_of es))

pub own_distinct : (es : List Entry) → SlotFacts es → Distinct (slots_of es)
own_distinct [] o = distinct_none
own_distinct (e ∷ es) o =
    distinct_cons e.slot (slots_of es) (own_distinct es (record { differ = o.differ.1; within = λ f m. o.within f (there m) })) (o.within e (here refl))
    (none (count_in e.slot (slots_of es)) refl)
  where
    none : (n : ℕ) → count_in e.slot (slots_of es) ≡ n → count_in e.slot (slots_of es) ≡ 0
    none zero q = q
    none (suc n) q = let r = count_member e.slot es (omega arith) in absurd (o.differ.0 r.0 r.1 r.2)

pub distinct_own : (es : List Entry) → Distinct (slots_of es) → SlotFacts es
distinct_own es d = record { differ = differ es d; within = λ e m. d.within e.slot (member_count e es m) }
  where
    differ : (es : List Entry) → Distinct (slots_of es) → Differ slot_of es
    differ [] d = tt
    differ (e ∷ es) d = (
      λ f m q. omega (arith, d.once e.slot, count_here e.slot (slots_of es), member_count f es m, ap (λ (x : ℕ). count_in x (slots_of es)) q),
      differ es (distinct_tail e.slot (slots_of es) d),
    )

pub held_slots : (es : List Entry) → SlotFacts es → held_in (words_of (slots_of es)) ≡ length es
held_slots es o = held_count (slots_of es) (own_distinct es o) ∙ length-map es slot_of

-- The lowest free slot

pub used_count : (k : ℕ) (es : List Entry) → slot_used k es ≡ not (eqb (count_in k (slots_of es)) 0)
unfolding slot_used count_in
used_count k [] = refl
used_count k (e ∷ es) = go (eqb k e.slot) (count_in k (slots_of es)) (used_count k es)
  where
    go : (b : Bool) (n : ℕ) → slot_used k es ≡ not (eqb n 0) → (b || slot_used k es) ≡ not (eqb (cond b 1 0 + n) 0)
    go true n h = sym (ap not (ne_eqb (1 + n) 0 (omega arith)))
    go false n h = h ∙ ap (λ (m : ℕ). not (eqb m 0)) (let e : n ≡ 0 + n = omega arith in e)

module _ (es : List Entry) (own : SlotFacts es) where
  mark_test : (k : ℕ) (v : Bool) → slot_used k es ≡ v → eqb (mark_of (words_of (slots_of es)) k) 0 ≡ not v
  mark_test k v h =
      ap (λ (n : ℕ). eqb n 0) (mark_count (slots_of es) (own_distinct es own) k) ∙ sym (not_not (eqb (count_in k (slots_of es)) 0)) ∙ ap not (sym (used_count k es) ∙ h)

  -- a slot that no entry has is not marked
  pub mark_unused : (k : ℕ) → slot_used k es ≡ false → mark_of (words_of (slots_of es)) k ≡ 0
  mark_unused k h = eqb-true (mark_of (words_of (slots_of es)) k) 0 (mark_test k false h)

  lowest_is : (n k : ℕ) → lowest_from (words_of (slots_of es)) n k ≡ lowest n k es
  unfolding lowest_from lowest
  lowest_is zero k = refl
  lowest_is (suc n) k = go (slot_used k es) refl (lowest_is n (suc k))
    where
      go : (v : Bool) → slot_used k es ≡ v → lowest_from (words_of (slots_of es)) n (suc k) ≡ lowest n (suc k) es
          → cond (eqb (mark_of (words_of (slots_of es)) k) 0) k (lowest_from (words_of (slots_of es)) n (k + 1)) ≡ cond v (lowest n (suc k) es) k
      go true h ih = rw (mark_test k true h, add-one k) ih
      go false h ih = rw (mark_test k false h)

  pub free_is : lowest_free (words_of (slots_of es)) ≡ free_slot es
  unfolding free_slot
  free_is = lowest_is slots 0

-- no more entries than slots

numbers : ℕ → List ℕ
numbers zero = []
numbers (suc n) = n ∷ numbers n

length_numbers : (n : ℕ) → length (numbers n) ≡ n
unfolding numbers
length_numbers zero = refl
length_numbers (suc n) = ap suc (length_numbers n)

in_numbers : (n j : ℕ) → j < n → Memᴰ j (numbers n)
unfolding numbers
in_numbers zero j l = absurd (omega arith)
in_numbers (suc n) j l = go (ℕ_discrete j n) (λ h. in_numbers n j h)
  where
    go : Dec (j ≡ n) → (j < n → Memᴰ j (numbers n)) → Memᴰ j (n ∷ numbers n)
    go (yes e) f = here e
    go (no e) f = there (f (omega arith))

pub own_few : (es : List Entry) → SlotFacts es → length es ≤ slots
own_few es o = omega (arith, no_more slot_of es (numbers slots) o.differ (λ e m. in_numbers slots e.slot (o.within e m)), length_numbers slots)
