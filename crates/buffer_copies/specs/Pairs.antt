-- Document 01, "The take": the wrap-aware order of times, and of pairs (time, channel).
use Prim.Native.Nat.{ℕ, ◌^◌, compare, Ordering}
use Rattle.std.specs.declared.cmp.Ordering.{Ordering as Side}
use Rattle.std.specs.declared.cmp.Ordering.TheVariants.{Less, Equal, Greater}
use Rattle.std.specs.Prelude.{Bool, true, false, cond, ltb, eqb}
use Rattle.rtp.specs.Time.{difference}

-- half the range of time
abbrev pub half : ℕ
half = 2 ^ 31

-- t - h modulo 2^32
unfoldable pub ahead : ℕ → ℕ → ℕ
ahead t h = difference t h

-- time t is after h: 1 to 2^31 - 1 ahead
unfoldable pub after : ℕ → ℕ → Bool
after t h = cond (ltb 0 (ahead t h)) (ltb (ahead t h) half) false

-- where the pair (t, c) lies from the pair (h, d): by time, then by channel
unfoldable pub order : ℕ → ℕ → ℕ → ℕ → Ordering
order t c h d = cond (eqb t h) (compare c d) (cond (after t h) Ordering.gt Ordering.lt)

abbrev pub is_after : Ordering → Bool
is_after Ordering.lt = false
is_after Ordering.eq = false
is_after Ordering.gt = true

-- what each of the code's answers says
abbrev pub side_order : Side → Ordering
side_order Less = Ordering.lt
side_order Equal = Ordering.eq
side_order Greater = Ordering.gt

-- the code's answer that says it
abbrev pub side_of : Ordering → Side
side_of Ordering.lt = Less
side_of Ordering.eq = Equal
side_of Ordering.gt = Greater
