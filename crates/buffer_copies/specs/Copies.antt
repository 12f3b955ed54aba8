-- Document 01, "Better", and document 02, P1: copies of a frame, and which is better.
use Prim.Native.Nat.{ℕ, compare, Ordering}
use Rattle.std.specs.Prelude.{List, [], ◌∷◌, Bool, true, false, cond, length, leb, eqb}
use Rattle.formats.specs.Frames.{sound, sid, damaged_sound}
use Rattle.buffer_copies.specs.Pairs.{order}

-- a copy of a frame: its pair (time, channel), its class and its bytes
pub record Copy : Type 0 where
  pub time : ℕ
  pub channel : ℕ
  pub class : ℕ
  pub bytes : List ℕ

-- a copy as it was received, with the mark of one heard first-hand (document 02, P6); the mark takes no part in what is better
pub record Received : Type 0 where
  pub copy : Copy
  pub primary : ℕ

-- where the pair of c lies from the pair of h
abbrev pub side : Copy → Copy → Ordering
side c h = order c.time c.channel h.time h.channel

-- the greater at the first number that differs; a list is greater than its own beginning
abbrev pub greater_at : Ordering → Bool → Bool
greater_at Ordering.lt r = false
greater_at Ordering.eq r = r
greater_at Ordering.gt r = true

unfoldable pub greater : List ℕ → List ℕ → Bool
greater [] ys = false
greater (x ∷ xs) [] = true
greater (x ∷ xs) (y ∷ ys) = greater_at (compare x y) (greater xs ys)

-- 1 of a good frame, 0 of a damaged one: the damaged classes are those over `sid`
unfoldable pub quality : ℕ → ℕ
quality class = cond (leb class sid) 1 0

-- 1 of sound, 0 of a SID
unfoldable pub soundness : ℕ → ℕ
soundness class = cond (eqb class sound) 1 (cond (eqb class damaged_sound) 1 0)

-- what is compared, in turn: good above damaged, sound above SID, then the length, then the bytes
unfoldable pub rank : ℕ → List ℕ → List ℕ
rank class bytes = quality class ∷ soundness class ∷ length bytes ∷ bytes

unfoldable pub better_frame : ℕ → List ℕ → ℕ → List ℕ → Bool
better_frame c a d b = greater (rank c a) (rank d b)

-- a is the better copy
abbrev pub better : Copy → Copy → Bool
better a b = better_frame a.class a.bytes b.class b.bytes
