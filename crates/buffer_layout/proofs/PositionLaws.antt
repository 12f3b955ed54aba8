-- Entries in turn: after the last pair drawn, within a stretch, and each after the one before, asked by one number for each entry.
use Prim.Native.Nat.{ℕ, zero, suc, ◌+◌, ◌*◌, ◌^◌, ◌≤◌, ◌<◌, Ordering}
use mathlib.Core.Path.{◌≡◌, refl, ap, ◌∙◌}
use mathlib.Core.List.{List}
use mathlib.Core.Bool.{Bool, true, false, cond}
use native.Mathlib.Nat.{lt_irrefl}
use native.Mathlib.Omega.{arith}
use borrow.Author.Tests.{ltb-true, lt-ltb}
use lib.Dec.{ltb}
use lib.ListN.{get_or}
use Rattle.rtp.proofs.TestLaws.{by-test, not-both}
use Rattle.row_tags.specs.Tags.{tag_channel}
use Rattle.buffer_copies.specs.Pairs.{half, ahead, order, is_after}
use Rattle.buffer_copies.proofs.WrapLaws.{ahead_self, Near, place, after_near, place_near, order_after, after_place}
use Rattle.buffer_layout.specs.Checks.{position_of}

three : (a b c : Bool) → cond a (cond b c false) false ≡ true → (a ≡ true) × (b ≡ true) × (c ≡ true)
three true true c h = (refl, refl, h)
three true false c h = not-both false h refl
three false b c h = not-both false h refl

all_three : (a b c : Bool) → a ≡ true → b ≡ true → c ≡ true → cond a (cond b c false) false ≡ true
all_three a b c p q r = rw (p, q, r)

pub after_gt : (o : Ordering) → is_after o ≡ true → o ≡ Ordering.gt
after_gt Ordering.lt h = not-both false h refl
after_gt Ordering.eq h = not-both false h refl
after_gt Ordering.gt h = refl

-- a position is a place
place_is : (b t c : ℕ) → position_of b t c ≡ place b t c
unfolding place
place_is b t c = omega arith

ahead_zero : (t : ℕ) → t < 2 ^ 32 → ahead t t ≡ 0
unfolding ahead
ahead_zero t l = omega arith

near_of : (b t c : ℕ) → t < 2 ^ 32 → c < 256 → place b t c < half * 256 → Near b t c
unfolding place
near_of b t c l o p = record { word = l; octet = o; near = omega arith }

below : (b t c : ℕ) → Near b t c → place b t c < half * 256
unfolding place
below b t c u = omega (arith, u.near, u.octet)

self : (b d : ℕ) → b < 2 ^ 32 → d < 256 → Near b b d
self b d l o = record { word = l; octet = o; near = ahead_self b }

self_place : (b d : ℕ) → b < 2 ^ 32 → place b b d ≡ d
unfolding place
self_place b d l = omega (arith, ahead_zero b l)

-- d: no pair was drawn; L, e: the last one

abbrev since : Bool → ℕ → ℕ → ℕ → ℕ → Bool
since d L e t c = cond d true (is_after (order t c L e))

module _ (L e : ℕ) (octet : e < 256) (first t c : ℕ) where
  since_near : (d : Bool) → since d L e t c ≡ true → ltb (ahead t first) half ≡ true → t < 2 ^ 32 → c < 256 → Near (cond d first L) t c
  since_near true h s w o = record { word = w; octet = o; near = ltb-true (ahead t first) half s }
  since_near false h s w o = after_near t c L e w o (after_gt (order t c L e) h)

  since_past : (d : Bool) → cond d first L < 2 ^ 32 → Near (cond d first L) t c → since d L e t c ≡ true → cond d 0 (e + 1) ≤ place (cond d first L) t c
  since_past true l u h = omega arith
  since_past false l u h = omega (arith, self_place L e l, after_place L l u (self L e l octet) (after_gt (order t c L e) h))

  since_at : (d : Bool) → cond d first L < 2 ^ 32 → Near (cond d first L) t c → cond d 0 (e + 1) ≤ place (cond d first L) t c → since d L e t c ≡ true
  since_at true l u h = refl
  since_at false l u h = ap is_after (order_after L l u (self L e l octet) (omega (arith, self_place L e l)))

module _ (d : Bool) (L e : ℕ) (ts gs : List ℕ) where
  abbrev time : ℕ → ℕ
  time i = get_or ts i 0

  abbrev chan : ℕ → ℕ
  chan i = tag_channel (get_or gs i 0)

  abbrev base : ℕ
  base = cond d (time 0) L

  abbrev start : ℕ
  start = cond d 0 (e + 1)

  abbrev pub up : ℕ → Bool
  up zero = true
  up (suc i) = is_after (order (time (suc i)) (chan (suc i)) (time i) (chan i))

  -- what is asked of the entry at a place
  abbrev pub turn : ℕ → Bool
  turn i = cond (since d L e (time i) (chan i)) (cond (ltb (ahead (time i) (time 0)) half) (up i) false) false

  abbrev spot : ℕ → ℕ
  spot i = place base (time i) (chan i)

  -- what is known before the entry at a place: the least position that it may have
  pub record Later (i least : ℕ) : Type 0 where
    pub is : least ≡ spot i + 1
    pub near : Near base (time i) (chan i)
    pub first : Near base (time 0) (chan 0)
    pub from : spot 0 ≤ spot i
    pub past : start ≤ spot i

  abbrev pub Told : ℕ → ℕ → Type 0
  Told zero least = least ≡ start
  Told (suc i) least = Later i least

  module _ (octet : e < 256) (lb : base < 2 ^ 32) where
    chan_octet : (i : ℕ) → chan i < 256
    chan_octet i = omega arith

    turn_true : (i least : ℕ) → Told i least → Near base (time i) (chan i) → least ≤ spot i → turn i ≡ true
    turn_true zero least k u h =
        all_three _ _ _ (since_at L e octet (time 0) (time 0) (chan 0) d lb u (omega arith)) (lt-ltb (ahead (time 0) (time 0)) half (ahead_self (time 0))) refl
    turn_true (suc i) least k u h =
        all_three _ _ _ (since_at L e octet (time 0) (time (suc i)) (chan (suc i)) d lb u (omega (arith, k.is, k.past)))
        (lt-ltb (ahead (time (suc i)) (time 0)) half (place_near base lb u k.first (omega (arith, k.is, k.from))))
        (ap is_after (order_after base lb u k.near (omega (arith, k.is))))

    turn_gives : (i least : ℕ) → Told i least → time i < 2 ^ 32 → turn i ≡ true → (least ≤ spot i) × (spot i < half * 256)
    turn_gives zero least k w h =
        let q = three _ _ _ h in
        let u = since_near L e octet (time 0) (time 0) (chan 0) d q.0 q.1 w (chan_octet 0) in
        (omega (arith, k, since_past L e octet (time 0) (time 0) (chan 0) d lb u q.0), below _ _ _ u)
    turn_gives (suc i) least k w h =
        let q = three _ _ _ h in
        let u = since_near L e octet (time 0) (time (suc i)) (chan (suc i)) d q.0 q.1 w (chan_octet (suc i)) in
        (omega (arith, k.is, after_place base lb u k.near (after_gt _ q.2)), below _ _ _ u)

    told_more : (i least : ℕ) → Told i least → Near base (time i) (chan i) → least ≤ spot i → Later i (spot i + 1)
    told_more zero least k u h = record { is = refl; near = u; first = u; from = omega arith; past = omega (arith, k) }
    told_more (suc i) least k u h = record { is = refl; near = u; first = k.first; from = omega (arith, k.is, k.from); past = omega (arith, k.is, k.past) }

    -- by the position that the code finds
    module _ (i least x : ℕ) (k : Told i least) (w : time i < 2 ^ 32) (p : x ≡ position_of base (time i) (chan i)) where
      found : x ≡ spot i
      found = p ∙ place_is base (time i) (chan i)

      near_at : x < half * 256 → Near base (time i) (chan i)
      near_at s = near_of base (time i) (chan i) w (chan_octet i) (omega (arith, found))

      pub turn_early : x < least → turn i ≡ false
      turn_early h = by-test (turn i) (λ t. let a : least ≤ spot i = (turn_gives i least k w t).0 in absurd (lt_irrefl x (omega (arith, found)))) (λ t. t)

      pub turn_far : half * 256 ≤ x → turn i ≡ false
      turn_far h = by-test (turn i) (λ t. let a : spot i < half * 256 = (turn_gives i least k w t).1 in absurd (lt_irrefl x (omega (arith, found)))) (λ t. t)

      pub turn_fine : least ≤ x → x < half * 256 → turn i ≡ true
      turn_fine h s = turn_true i least k (near_at s) (omega (arith, found))

      pub told_next : least ≤ x → x < half * 256 → Told (suc i) (x + 1)
      told_next h s = rw found (told_more i least k (near_at s) (omega (arith, found)))
