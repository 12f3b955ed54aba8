-- The wrap-aware order within a stretch is the order of the distances from its base, and the order of pairs is that of a number.
use mathlib.Core.Path.{◌≡◌, refl, sym, ap, subst, ◌∙◌}
use mathlib.Core.Bool.{Bool, true, false, cond}
use Prim.Native.Nat.{ℕ, ◌+◌, ◌-◌, ◌*◌, ◌^◌, ◌<◌, ◌≤◌, compare, Ordering}
use native.Mathlib.Omega.{arith}
use lib.Dec.{ltb, eqb}
use Rattle.rtp.proofs.TestLaws.{by-test}
use borrow.Author.Tests.{ltb-true, lt-ltb, le-ltb, eqb-true, eqb-false}
use Rattle.buffer_copies.specs.Pairs.{half, ahead, after, order}
use Rattle.buffer_copies.proofs.InsertionLaws.{Cmp, cmp, compare_is}

pub ahead_self : (t : ℕ) → ahead t t < half
unfolding ahead
ahead_self t = omega arith

module _ (b t h : ℕ) (lb : b < 2 ^ 32) (lt : t < 2 ^ 32) (lh : h < 2 ^ 32) (p : ahead t b < half) (q : ahead h b < half) where
  ahead_back : ahead h b ≤ ahead t b → ahead t h ≡ ahead t b - ahead h b
  unfolding ahead
  ahead_back r = omega arith

  ahead_wrapped : ahead t b < ahead h b → half < ahead t h
  unfolding ahead
  ahead_wrapped r = omega arith

  ahead_inj : ahead t b ≡ ahead h b → t ≡ h
  unfolding ahead
  ahead_inj e = omega arith

-- a pair in the stretch from b
pub record Near (b t c : ℕ) : Type 0 where
  pub word : t < 2 ^ 32
  pub octet : c < 256
  pub near : ahead t b < half

-- the pair as a number: its distance from b, then its channel
unfoldable pub place : ℕ → ℕ → ℕ → ℕ
place b t c = ahead t b * 256 + c

-- a pair after another lies in the stretch from it
pub after_near : (t c h d : ℕ) → t < 2 ^ 32 → c < 256 → order t c h d ≡ Ordering.gt → Near h t c
unfolding order after
after_near t c h d lt lc e = record { word = lt; octet = lc; near = by_time (eqb t h) refl e }
  where
    lt≢gt : Ordering.lt ≡ Ordering.gt → ⊥
    lt≢gt z = let w : ◌≡◌ {A = ℕ} 0 1 = cc in omega arith

    by_half : (p : Bool) → ltb (ahead t h) half ≡ p → cond p Ordering.gt Ordering.lt ≡ Ordering.gt → ahead t h < half
    by_half true q e = ltb-true (ahead t h) half q
    by_half false q e = absurd (lt≢gt e)

    by_after : (p : Bool) → cond (cond p (ltb (ahead t h) half) false) Ordering.gt Ordering.lt ≡ Ordering.gt → ahead t h < half
    by_after true e = by_half (ltb (ahead t h) half) refl e
    by_after false e = absurd (lt≢gt e)

    by_time : (p : Bool) → eqb t h ≡ p → cond p (compare c d) (cond (after t h) Ordering.gt Ordering.lt) ≡ Ordering.gt → ahead t h < half
    by_time true q e = rw (eqb-true t h q) (ahead_self h)
    by_time false q e = by_after (ltb 0 (ahead t h)) e

-- pairs that compare as the same are the same
pub order_same : (t c h d : ℕ) → order t c h d ≡ Ordering.eq → (t ≡ h) × (c ≡ d)
unfolding order
order_same t c h d e =
    by-test (eqb t h)
    (λ a. (eqb-true t h a, channels (rw a at e)))
    (λ a. other (after t h) (rw a at e))
  where
    channels : compare c d ≡ Ordering.eq → c ≡ d
    channels q = subst (λ (o : Ordering). Cmp o c d) q (cmp c d)

    gt≢eq : Ordering.gt ≡ Ordering.eq → ⊥
    gt≢eq z = let w : ◌≡◌ {A = ℕ} 0 1 = cc in omega arith

    lt≢eq : Ordering.lt ≡ Ordering.eq → ⊥
    lt≢eq z = let w : ◌≡◌ {A = ℕ} 0 1 = cc in omega arith

    other : (p : Bool) → cond p Ordering.gt Ordering.lt ≡ Ordering.eq → (t ≡ h) × (c ≡ d)
    other true q = absurd (gt≢eq q)
    other false q = absurd (lt≢eq q)

module _ (b : ℕ) (lb : b < 2 ^ 32) {t c h d : ℕ} (u : Near b t c) (v : Near b h d) where
  pub same_place : place b t c ≡ place b h d → (t ≡ h) × (c ≡ d)
  unfolding place
  same_place e = (ahead_inj b t h lb u.word v.word u.near v.near (omega arith), omega arith)

  -- what lies no earlier is less than half ahead
  pub place_near : place b h d ≤ place b t c → ahead t h < half
  unfolding place
  place_near l = let k = ahead_back b t h lb u.word v.word u.near v.near (omega arith) in omega arith

  pub order_place : order t c h d ≡ compare (place b t c) (place b h d)
  unfolding order after place
  order_place = compare_is (order t c h d) (place b t c) (place b h d) (by_time (eqb t h) refl)
    where
      by_channel : (o : Ordering) → t ≡ h → Cmp o c d → Cmp o (place b t c) (place b h d)
      by_channel Ordering.lt e k = omega (arith, ap (λ (x : ℕ). ahead x b) e)
      by_channel Ordering.eq e k = omega (arith, ap (λ (x : ℕ). ahead x b) e)
      by_channel Ordering.gt e k = omega (arith, ap (λ (x : ℕ). ahead x b) e)

      -- the distance between the two, by how they lie from b
      wrapped : ahead t b < ahead h b → half < ahead t h
      wrapped k = ahead_wrapped b t h lb u.word v.word u.near v.near k

      by_after : (t ≡ h → ⊥) → (o : Ordering) → Cmp o (ahead t b) (ahead h b) → Cmp (cond (after t h) Ordering.gt Ordering.lt) (place b t c) (place b h d)
      by_after n Ordering.lt k = rw (lt-ltb 0 (ahead t h) (omega (arith, wrapped k)), le-ltb (ahead t h) half (omega (arith, wrapped k))) (omega arith)
      by_after n Ordering.eq k = absurd (n (ahead_inj b t h lb u.word v.word u.near v.near k))
      by_after n Ordering.gt k =
          let r = ahead_back b t h lb u.word v.word u.near v.near (omega arith) in
          rw (lt-ltb 0 (ahead t h) (omega arith), lt-ltb (ahead t h) half (omega arith)) (omega arith)

      by_time : (p : Bool) → eqb t h ≡ p → Cmp (cond p (compare c d) (cond (after t h) Ordering.gt Ordering.lt)) (place b t c) (place b h d)
      by_time true e = by_channel (compare c d) (eqb-true t h e) (cmp c d)
      by_time false e = by_after (eqb-false t h e) (compare (ahead t b) (ahead h b)) (cmp (ahead t b) (ahead h b))

  pub order_after : place b h d < place b t c → order t c h d ≡ Ordering.gt
  order_after l = order_place ∙ sym (compare_is Ordering.gt (place b t c) (place b h d) l)

  pub after_place : order t c h d ≡ Ordering.gt → place b h d < place b t c
  after_place e = subst (λ (o : Ordering). Cmp o (place b t c) (place b h d)) (sym order_place ∙ e) (cmp (place b t c) (place b h d))
