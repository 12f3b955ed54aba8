-- The search that halves the range finds the place that the walk from the front does, and among under 2 ^ b entries it compares at most b.
use Prim.Native.Nat.{ℕ, zero, suc, ◌+◌, ◌-◌, ◌^◌, ◌≤◌, ◌<◌, Ordering}
use Rattle.std.specs.Prelude.{Err}
use Rattle.std.specs.declared.cmp.Ordering.{Ordering as Side}
use Rattle.std.specs.declared.cmp.Ordering.TheVariants.{Less, Equal, Greater}
use mathlib.Core.Path.{◌≡◌, refl, sym, ap, subst, ◌∙◌}
use mathlib.Core.List.{List}
use mathlib.Core.Logic.{⊎_elim}
use native.Mathlib.Numerals.{add-one}
use native.Mathlib.Nat.{pow-suc, sub-zero, not-suc-le-zero, lt_irrefl, eq-or-lt_of_le}
use native.Mathlib.Omega.{arith}
use lib.Dec.{ltb}
use lib.ListN.{get_or}
use borrow.Author.Tests.{ltb-true, ltb-false, lt-ltb, le-ltb}
use Rattle.rtp.proofs.TestLaws.{by-test}
use Rattle.row_tags.specs.Tags.{tag_channel}
use Rattle.buffer_copies.specs.Sizes.{slots}
use Rattle.buffer_copies.specs.Pairs.{order, side_of}
use Rattle.buffer_columns.specs.declared.columns.Search.{Search}
use Rattle.buffer_columns.specs.Places.{place_at, place_from, Parted, middle, half_at, halve, halving, place_numbers, search_numbers, most_compared}

eq≢lt : Ordering.eq ≡ Ordering.lt → ⊥
eq≢lt q = let z : ◌≡◌ {A = ℕ} 0 1 = cc in omega arith

gt≢lt : Ordering.gt ≡ Ordering.lt → ⊥
gt≢lt q = let z : ◌≡◌ {A = ℕ} 0 1 = cc in omega arith

module _ (times tags : List ℕ) (t c : ℕ) where
  -- where the pair lies from the entry at a place
  abbrev pub from : ℕ → Ordering
  from i = order t c (get_or times i 0) (tag_channel (get_or tags i 0))

  module _ (n : ℕ) where
    place_end : (i : ℕ) → n ≤ i → place_from times tags t c (n - i) i ≡ Err i
    unfolding place_from
    place_end i h = rw (let e : n - i ≡ 0 = omega arith in e)

    place_step : (i : ℕ) → i < n → place_from times tags t c (n - i) i ≡ place_at (side_of (from i)) i (place_from times tags t c (n - (i + 1)) (i + 1))
    unfolding place_from
    place_step i l = rw (let e : n - i ≡ suc (n - (i + 1)) = omega arith in e)

    place_by : (i : ℕ) (o : Ordering) → i < n → from i ≡ o → place_from times tags t c (n - i) i ≡ place_at (side_of o) i (place_from times tags t c (n - (i + 1)) (i + 1))
    place_by i o l e = place_step i l ∙ ap (λ (x : Ordering). place_at (side_of x) i (place_from times tags t c (n - (i + 1)) (i + 1))) e

    -- entries that the pair is after are passed over
    place_past : (i : ℕ) → i ≤ n → ((j : ℕ) → j < i → from j ≡ Ordering.gt) → place_from times tags t c n 0 ≡ place_from times tags t c (n - i) i
    place_past zero l h = rw sub-zero
    place_past (suc i) l h =
        place_past i (omega arith) (λ j k. h j (omega arith)) ∙ place_by i Ordering.gt (omega arith) (h i (omega arith))
        ∙ ap (λ (m : ℕ). place_from times tags t c (n - m) m) (add-one i)

    -- before the entry at a place, if any, and after all in front of it
    place_here : (i : ℕ) → i ≤ n → ((j : ℕ) → j < i → from j ≡ Ordering.gt) → (i < n → from i ≡ Ordering.lt) → place_from times tags t c n 0 ≡ Err i
    place_here i l h k = place_past i l h ∙ ⊎_elim (λ e. place_end i (omega arith)) (λ m. place_by i Ordering.lt m (k m)) (eq-or-lt_of_le l)

    module _ (parted : Parted times tags t c n) where
      -- where the pair is not before the entry at a place, it is after all in front
      passes : (i : ℕ) (o : Ordering) → i < n → from i ≡ o → (o ≡ Ordering.lt → ⊥) → (j : ℕ) → j < i → from j ≡ Ordering.gt
      passes i o l e not j m = parted j i m l (λ q. not (sym e ∙ q))

      passes_too : (i : ℕ) → i < n → from i ≡ Ordering.gt → (j : ℕ) → j < i + 1 → from j ≡ Ordering.gt
      passes_too i l e j m = ⊎_elim (λ z. let q : j ≡ i = omega arith in rw q e) (λ k. passes i Ordering.gt l e gt≢lt j (omega arith)) (eq-or-lt_of_le m)

      -- the pair is after the entries in front of low, and before the one at high: the search between them finds the place of the walk
      finds : (f low high k : ℕ) → high - low ≤ f → low ≤ high → high ≤ n → ((j : ℕ) → j < low → from j ≡ Ordering.gt) → (high < n → from high ≡ Ordering.lt)
          → (halve times tags t c f low high k).place ≡ place_from times tags t c n 0
      unfolding halve
      finds zero low high k enough ordered within passed next = sym (place_here low (omega arith) passed (λ l. let e : low ≡ high = omega arith in rw e (next (omega arith))))
      finds (suc f) low high k enough ordered within passed next =
          by-test (ltb low high)
          (λ e.
          let l : low < high = ltb-true low high e in
          rw e (go l (from (middle low high)) refl (λ q. finds f low (middle low high) (k + 1) (omega arith) (omega arith) (omega arith) passed (λ m. q))
          (λ q. finds f (middle low high + 1) high (k + 1) (omega arith) (omega arith) within (passes_too (middle low high) (omega arith) q) next)))
          (λ e. rw e (sym (place_here low (omega arith) passed (λ l. let z : low ≡ high = omega (arith, ltb-false low high e) in rw z (next (omega arith))))))
        where
          go : low < high → (o : Ordering) → from (middle low high) ≡ o
              → (from (middle low high) ≡ Ordering.lt → (halve times tags t c f low (middle low high) (k + 1)).place ≡ place_from times tags t c n 0)
              → (from (middle low high) ≡ Ordering.gt → (halve times tags t c f (middle low high + 1) high (k + 1)).place ≡ place_from times tags t c n 0)
              → (half_at (side_of o) (middle low high) (k + 1) (halve times tags t c f low (middle low high) (k + 1)) (halve times tags t c f (middle low high + 1) high (k + 1))).place ≡ place_from times tags t c n 0
          go l Ordering.lt e lower upper = lower e
          go l Ordering.eq e lower upper =
              sym (place_past (middle low high) (omega arith) (passes (middle low high) Ordering.eq (omega arith) e eq≢lt) ∙ place_by (middle low high) Ordering.eq (omega arith) e)
          go l Ordering.gt e lower upper = upper e

      -- the place is that of the walk from the front
      pub halving_place : (halving times tags t c n).place ≡ place_from times tags t c n 0
      halving_place =
          finds n 0 n 0 (omega arith) (omega arith) (omega arith) (λ j m. absurd (not-suc-le-zero {n = j} (omega arith))) (λ l. absurd (lt_irrefl n l))

  -- among under 2 ^ b entries, at most b are compared: each turn halves the range
  few : (f b low high k : ℕ) → high - low < 2 ^ b → (halve times tags t c f low high k).compared ≤ k + b
  unfolding halve
  few zero b low high k l = omega arith
  few (suc f) zero low high k l = by-test (ltb low high) (λ e. absurd (lt_irrefl low (omega (arith, ltb-true low high e)))) (λ e. rw e (omega arith))
  few (suc f) (suc b) low high k l =
      by-test (ltb low high)
      (λ e.
      let m : low < high = ltb-true low high e in
      rw e (go (side_of (from (middle low high))) _ _ (few f b low (middle low high) (k + 1) (omega (arith, pow-suc 2 b))) (few f b (middle low high + 1) high (k + 1) (omega (arith, pow-suc 2 b)))))
      (λ e. rw e (omega arith))
    where
      go : (s : Side) (lower upper : Search) → lower.compared ≤ k + 1 + b → upper.compared ≤ k + 1 + b → (half_at s (middle low high) (k + 1) lower upper).compared ≤ k + suc b
      go Less lower upper u v = omega arith
      go Equal lower upper u v = omega arith
      go Greater lower upper u v = omega arith

  pub halving_few : (n : ℕ) → n ≤ slots → (halving times tags t c n).compared ≤ most_compared
  halving_few n l = few n most_compared 0 n 0 (omega arith)

  -- fuel beyond the width of the range changes nothing
  enough : (f g low high k : ℕ) → high - low ≤ f → high - low ≤ g → halve times tags t c f low high k ≡ halve times tags t c g low high k
  unfolding halve
  enough zero zero low high k u v = refl
  enough zero (suc g) low high k u v = rw (le-ltb low high (omega arith)) refl
  enough (suc f) zero low high k u v = rw (le-ltb low high (omega arith)) refl
  enough (suc f) (suc g) low high k u v = by-test (ltb low high)
      (λ e.
      let m : low < high = ltb-true low high e in
      rw (e, enough f g low (middle low high) (k + 1) (omega arith) (omega arith), enough f g (middle low high + 1) high (k + 1) (omega arith) (omega arith)) refl)
      (λ e. rw e refl)

  -- what is left to search, with k compared
  abbrev pub left : ℕ → ℕ → ℕ → Search
  left low high k = halve times tags t c (high - low) low high k

  -- nothing is left
  pub left_none : (low high k : ℕ) → high ≤ low → left low high k ≡ record { place = Err low; compared = k }
  unfolding halve
  left_none low high k l = rw (let e : high - low ≡ 0 = omega arith in e)

  -- a turn: what it leaves, by the side of the pair from the entry in the middle
  abbrev pub turn : Side → ℕ → ℕ → ℕ → Search
  turn s low high k = half_at s (middle low high) (k + 1) (left low (middle low high) (k + 1)) (left (middle low high + 1) high (k + 1))

  pub turn_is : (s : Side) (low high k : ℕ) → low < high → s ≡ side_of (from (middle low high)) → turn s low high k ≡ left low high k
  unfolding halve
  turn_is s low high k l e =
      let i = middle low high in
      let j = high - low - 1 in
      ap (λ (x : Side). turn x low high k) e ∙ sym (enough (high - low) (suc j) low high k (omega arith) (omega arith)
      ∙ rw (lt-ltb low high l, enough j (i - low) low i (k + 1) (omega arith) (omega arith), enough j (high - (i + 1)) (i + 1) high (k + 1) (omega arith) (omega arith)) refl)

  -- what an answer of the halving is
  pub answers : (n : ℕ) → n ≤ slots → (r : Search) → r ≡ halving times tags t c n
      → (search_numbers r ≡ search_numbers (halving times tags t c n))
      × (Parted times tags t c n → place_numbers r.place ≡ place_numbers (place_from times tags t c n 0)) × (r.compared ≤ most_compared)
  answers n few r e = (ap search_numbers e, λ parted. ap (λ (s : Search). place_numbers s.place) e ∙ ap place_numbers (halving_place n parted), subst (λ (s : Search). s.compared ≤ most_compared) (sym e) (halving_few n few))
