-- Bits of a word: the lowest 0 is found by the trailing zeros of the complement, and a bit that is 0 is set by adding its power. The lowest free slot of
-- three words.
use Prim.Native.Nat.{ℕ, zero, suc, ◌+◌, ◌-◌, ◌/◌, ◌%◌, ◌^◌, ◌≤◌, ◌<◌, zero-le}
use mathlib.Core.Path.{◌≡◌, refl, sym, ap, ◌∙◌, subst}
use mathlib.Core.Logic.{◌⊎◌, inl, inr, ⊎_elim}
use mathlib.Core.List.{List}
use mathlib.Core.Bool.{cond}
use native.Mathlib.Decide.{dec_lt}
use native.Mathlib.Nat.{pow-suc, not-suc-le-zero, le_of_suc-le-suc, eq-or-lt_of_le}
use native.Mathlib.Numerals.{one-add}
use native.Mathlib.Omega.{arith}
use borrow.Author.Tests.{eq-eqb, ne_eqb}
use lib.Count.{count_trailing_zeros, under, ones, ones_step}
use lib.Dec.{eqb}
use lib.ListN.{get_or}
use lib.Pow.{shr-shr}
use Rattle.buffer_copies.specs.Sizes.{slots}
use Rattle.buffer_slots.specs.Bits.{bit_at, mark_of, LowestZero, lowest_from, lowest_free}

pub lt_or_le : (a b : ℕ) → (a < b) ⊎ (b ≤ a)
lt_or_le a b = from (dec_lt a b)
  where
    from : Dec (a < b) → (a < b) ⊎ (b ≤ a)
    from (yes h) = inl h
    from (no h) = inr (omega arith)

-- The lowest 0 of a word

not_half : (k w : ℕ) → w < 2 ^ suc k → ((2 ^ suc k - 1) - w) / 2 ≡ (2 ^ k - 1) - w / 2
not_half k w h = omega (arith, pow-suc 2 k)

not_low : (k w : ℕ) → w < 2 ^ suc k → ((2 ^ suc k - 1) - w) % 2 ≡ 1 - w % 2
not_low k w h = omega (arith, pow-suc 2 k)

half_lt : (k w : ℕ) → w < 2 ^ suc k → w / 2 < 2 ^ k
half_lt k w h = omega (arith, pow-suc 2 k)

step : (k w t : ℕ) → LowestZero k (w / 2) t → (d : ℕ) → d ≡ 1 - w % 2 → LowestZero (suc k) w (under d t)
unfolding bit_at
step k w t l zero e = record { within = omega (arith, l.within); free = λ h. l.free (le_of_suc-le-suc h); below = go }
  where
    go : (j : ℕ) → j < suc t → bit_at j w ≡ 1
    go zero h = omega arith
    go (suc j) h = l.below j (le_of_suc-le-suc h)
step k w t l (suc d) e = record { within = omega arith; free = λ h. omega arith; below = λ j h. absurd (not-suc-le-zero h) }

pub lowest_zero : (k w : ℕ) → w < 2 ^ k → LowestZero k w (count_trailing_zeros k ((2 ^ k - 1) - w))
unfolding count_trailing_zeros bit_at
lowest_zero zero w h = record { within = omega arith; free = λ l. absurd (not-suc-le-zero l); below = λ j l. absurd (not-suc-le-zero l) }
lowest_zero (suc k) w h =
    step k w (count_trailing_zeros k (((2 ^ suc k - 1) - w) / 2))
    (subst (λ (n : ℕ). LowestZero k (w / 2) (count_trailing_zeros k n)) (sym (not_half k w h)) (lowest_zero k (w / 2) (half_lt k w h)))
    (((2 ^ suc k - 1) - w) % 2) (not_low k w h)

-- A bit that is 0 is set by adding its power

bit_half : (j n : ℕ) → (n + 2 ^ suc j) / 2 ≡ n / 2 + 2 ^ j
bit_half j n = omega (arith, pow-suc 2 j)

bit_low : (j n : ℕ) → (n + 2 ^ suc j) % 2 ≡ n % 2
bit_low j n = omega (arith, pow-suc 2 j)

pub ones_add : (j n : ℕ) → bit_at j n ≡ 0 → ones (n + 2 ^ j) ≡ ones n + 1
unfolding bit_at
ones_add zero n h =
    let half : (n + 2 ^ 0) / 2 ≡ n / 2 = omega arith in
    omega (arith, ones_step (n + 2 ^ 0), ones_step n, ap ones half)
ones_add (suc j) n h = omega (arith, ones_step (n + 2 ^ suc j), ones_step n, ap ones (bit_half j n), bit_low j n, ones_add j (n / 2) h)

pub add_lt : (j k n : ℕ) → j < k → n < 2 ^ k → bit_at j n ≡ 0 → n + 2 ^ j < 2 ^ k
unfolding bit_at
add_lt j zero n l h b = absurd (not-suc-le-zero l)
add_lt zero (suc k) n l h b = omega (arith, pow-suc 2 k)
add_lt (suc j) (suc k) n l h b = omega (arith, pow-suc 2 k, pow-suc 2 j, add_lt j k (n / 2) (le_of_suc-le-suc l) (half_lt k n h) b)

-- the bit itself is then 1, and every other is as it was
pub bit_same : (j n : ℕ) → bit_at j n ≡ 0 → bit_at j (n + 2 ^ j) ≡ 1
unfolding bit_at
bit_same zero n h = omega arith
bit_same (suc j) n h = ap (bit_at j) (bit_half j n) ∙ bit_same j (n / 2) h

pub bit_other : (i j n : ℕ) → (i ≡ j → ⊥) → bit_at j n ≡ 0 → bit_at i (n + 2 ^ j) ≡ bit_at i n
unfolding bit_at
bit_other zero zero n d h = absurd (d refl)
bit_other zero (suc j) n d h = bit_low j n
bit_other (suc i) zero n d h = ap (bit_at i) (let half : (n + 2 ^ 0) / 2 ≡ n / 2 = omega arith in half)
bit_other (suc i) (suc j) n d h = ap (bit_at i) (bit_half j n) ∙ bit_other i j (n / 2) (λ e. d (ap suc e)) h

-- a bit by a shift
pub bit_shift : (j n : ℕ) → n / 2 ^ j % 2 ≡ bit_at j n
unfolding bit_at
bit_shift zero n = omega arith
bit_shift (suc j) n = ap (λ (m : ℕ). m % 2) (ap (λ (k : ℕ). n / 2 ^ k) (sym (one-add j)) ∙ sym (shr-shr n 1 j)) ∙ bit_shift j (n / 2)

-- The lowest free slot of three words

record LowestFree (ws : List ℕ) (r : ℕ) : Type 0 where
  pub within : r ≤ slots
  pub free : r < slots → mark_of ws r ≡ 0
  pub below : (s : ℕ) → s < r → mark_of ws s ≡ 1

from_is : (ws : List ℕ) (r : ℕ) → LowestFree ws r → (k i : ℕ) → i + k ≡ slots → i ≤ r → lowest_from ws k i ≡ r
unfolding lowest_from
from_is ws r f zero i e l = let w = f.within in omega arith
from_is ws r f (suc k) i e l = go (λ q. from_is ws r f k (i + 1) (omega arith) (omega arith)) (eq-or-lt_of_le l)
  where
    go : (i < r → lowest_from ws k (i + 1) ≡ r) → (i ≡ r) ⊎ (i < r) → cond (eqb (mark_of ws i) 0) i (lowest_from ws k (i + 1)) ≡ r
    go rest (inl q) = let z : mark_of ws i ≡ 0 = ap (mark_of ws) q ∙ f.free (omega arith) in rw (eq-eqb (mark_of ws i) 0 z) q
    go rest (inr q) = let z : mark_of ws i ≡ 1 = f.below i q in rw (ne_eqb (mark_of ws i) 0 (omega arith)) (rest q)

lowest_is : (ws : List ℕ) (r : ℕ) → LowestFree ws r → r ≡ lowest_free ws
lowest_is ws r f = sym (from_is ws r f slots 0 (omega arith) zero-le)

in_word : (ws : List ℕ) (i s v : ℕ) → s / 64 ≡ i → bit_at (s % 64) (get_or ws i 0) ≡ v → mark_of ws s ≡ v
in_word ws i s v e h = rw e h

module _ (ws : List ℕ) (a : ℕ) (ha : LowestZero 64 (get_or ws 0 0) a) where
  pub low_1 : a < 64 → a ≡ lowest_free ws
  low_1 l = lowest_is ws a (record {
    within = omega arith;
    free = λ h. in_word ws 0 a 0 (omega arith) (rw (let e : a % 64 ≡ a = omega arith in e) (ha.free l));
    below = λ s h. in_word ws 0 s 1 (omega arith) (ha.below (s % 64) (omega arith));
  })

  module _ (fa : 64 ≤ a) (b : ℕ) (hb : LowestZero 64 (get_or ws 1 0) b) where
    full_1 : (s : ℕ) → s < 64 → mark_of ws s ≡ 1
    full_1 s l = in_word ws 0 s 1 (omega arith) (ha.below (s % 64) (omega arith))

    pub low_2 : b < 64 → 64 + b ≡ lowest_free ws
    low_2 l = lowest_is ws (64 + b) (record {
      within = omega arith;
      free = λ h. in_word ws 1 (64 + b) 0 (omega arith) (rw (let e : (64 + b) % 64 ≡ b = omega arith in e) (hb.free l));
      below = λ s h. ⊎_elim (λ k. full_1 s k) (λ k. in_word ws 1 s 1 (omega arith) (hb.below (s % 64) (omega arith))) (lt_or_le s 64);
    })

    pub low_3 : 64 ≤ b → (d : ℕ) → LowestZero 64 (get_or ws 2 0) d → 128 + d ≡ lowest_free ws
    low_3 fb d hd = lowest_is ws (128 + d) (record {
      within = omega (arith, hd.within);
      free = λ h. in_word ws 2 (128 + d) 0 (omega arith) (rw (let e : (128 + d) % 64 ≡ d = omega arith in e) (hd.free (omega arith)));
      below = λ s h. ⊎_elim (λ k. full_1 s k)
          (λ k. ⊎_elim (λ m. in_word ws 1 s 1 (omega arith) (hb.below (s % 64) (omega arith)))
          (λ m. in_word ws 2 s 1 (omega (arith, hd.within)) (hd.below (s % 64) (omega (arith, hd.within)))) (lt_or_le s 128)) (lt_or_le s 64);
    })
