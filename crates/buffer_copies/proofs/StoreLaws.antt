-- A part of a list after a copy into it.
use mathlib.Core.Path.{◌≡◌, sym, ap, ◌∙◌}
use mathlib.Core.List.{List, [], ◌∷◌, ◌++◌}
use Prim.Native.Nat.{ℕ, zero, suc, ◌+◌, ◌-◌, ◌≤◌}
use native.Mathlib.Omega.{arith}
use native.Mathlib.Nat.{zero-add, suc-add}
use lib.ListN.{length, take, drop, length-append}
use lib.Seq.{paste, drop-paste, take_at, drop_at, take-take, drop-drop, take-append-le, drop-append-le, length-take-le, take-nil}

module _ {A : Type 0} where
  take_drop : (m a : ℕ) (l : List A) → take m (drop a l) ≡ drop a (take (a + m) l)
  take_drop m zero l = rw zero-add
  take_drop m (suc a) [] = simp take-nil
  take_drop m (suc a) (x ∷ l) = rw suc-add (take_drop m a l)

module _ {A : Type 0} (d : List A) (at : ℕ) (s : List A) (n : ℕ) (hd : at + n ≤ length d) (hs : n ≤ length s) where
  front : length (take at d) ≡ at
  front = length-take-le at d (omega arith)

  pub part_same : take n (drop at (paste d at s n)) ≡ take n s
  part_same =
      rw (
        drop-append-le at (take at d ++ take n s) (drop (at + n) d) (omega (arith, length-append (take at d) (take n s), front)),
        drop_at (take at d) (take n s) at front,
        take_at (take n s) (drop (at + n) d) n (length-take-le n s hs),
      )

  pub part_before : (a m : ℕ) → a + m ≤ at → take m (drop a (paste d at s n)) ≡ take m (drop a d)
  part_before a m h =
      take_drop m a (paste d at s n)
      ∙ ap (λ (l : List A). drop a l)
      (take-append-le (a + m) (take at d ++ take n s) (drop (at + n) d) (omega (arith, length-append (take at d) (take n s), front))
      ∙ take-append-le (a + m) (take at d) (take n s) (omega (arith, front))
      ∙ take-take (a + m) at d h)
      ∙ sym (take_drop m a d)

  pub part_after : (a m : ℕ) → at + n ≤ a → take m (drop a (paste d at s n)) ≡ take m (drop a d)
  part_after a m h =
      let k : at + n + (a - (at + n)) ≡ a = omega arith in
      ap (λ (l : List A). take m l)
      (rw (← k) (sym (drop-drop (a - (at + n)) (at + n) (paste d at s n))
      ∙ ap (λ (l : List A). drop (a - (at + n)) l) (drop-paste d at s n (omega arith) hs)
      ∙ drop-drop (a - (at + n)) (at + n) d))
