-- The tests of the entries, as the code asks them in turn.
use Prim.Native.Nat.{ℕ, zero, suc, ◌+◌, ◌-◌, ◌≤◌, ◌<◌, Ordering}
use Rattle.std.specs.declared.cmp.Ordering.{Ordering as Side}
use Rattle.std.specs.declared.cmp.Ordering.TheVariants.{Less, Equal, Greater}
use Rattle.std.specs.Ordering.{is_gt}
use mathlib.Core.Path.{◌≡◌, refl, ap, ◌∙◌}
use mathlib.Core.List.{List}
use mathlib.Core.Bool.{Bool, true, false, cond, ◌&&◌}
use mathlib.Core.Option.{Option, none, some}
use native.Mathlib.Numerals.{add-one}
use native.Mathlib.Omega.{arith}
use borrow.Author.Tests.{ltb-true, eqb-true}
use lib.Dec.{ltb, eqb}
use lib.ListN.{get_or}
use Rattle.frame_codes.specs.Allowed.{allowed}
use Rattle.row_tags.specs.Tags.{tag_class, tag_channel}
use Rattle.buffer_copies.specs.Sizes.{slots}
use Rattle.buffer_copies.specs.Pairs.{half, ahead, order, is_after, side_order}
use Rattle.buffer_copies.specs.Entries.{Entry}
use Rattle.buffer_layout.specs.declared.buffer.Buffer.{Buffer}
use Rattle.buffer_layout.specs.declared.buffer.Fixed.{Fixed}
use Rattle.buffer_slots.specs.Bits.{mark_of, marked, is_free, claimed, same_words}
use Rattle.buffer_layout.specs.Layout.{entry_at, entries_from, assembled}
use Rattle.buffer_layout.specs.Checks.{class_fine, ascends, passes, all_pass}
use Rattle.buffer_layout.proofs.PositionLaws.{up, turn}
use Rattle.rtp.proofs.TestLaws.{both}

-- a slot that is free
pub free_parts : (ws : List ℕ) (s : ℕ) → is_free ws s ≡ true → (s < slots) × (mark_of ws s ≡ 0)
free_parts ws s h = let a = both (ltb s slots) (eqb (mark_of ws s) 0) h in (ltb-true s slots a.0, eqb-true (mark_of ws s) 0 a.1)

pub claimed_free : (ws : List ℕ) (s : ℕ) → is_free ws s ≡ true → claimed ws s ≡ marked ws s
claimed_free ws s h = ap (λ (b : Bool). cond b (marked ws s) ws) h

-- a test that is known
when : {b : Bool} (x y : Bool) → b ≡ true → cond b x y ≡ x
when x y e = ap (λ (b : Bool). cond b x y) e

otherwise : {b : Bool} (x y : Bool) → b ≡ false → cond b x y ≡ y
otherwise x y e = ap (λ (b : Bool). cond b x y) e

-- the entry before a place, if any
abbrev pub before_at : Buffer → ℕ → Option Entry
before_at b zero = none
before_at b (suc i) = some (entry_at b i)

module _ (ts gs ls ss ws : List ℕ) (f : Fixed) where
  abbrev whole : Buffer
  whole = assembled ts gs ls ss ws f

  -- the entries from the i-th on are fine, where the slots before are `seen`
  abbrev pub rest_fine : ℕ → ℕ → List ℕ → Bool
  rest_fine n i seen = all_pass whole (get_or ts 0 0) (before_at whole i) seen (entries_from whole (n - i) i)

  abbrev pub turn_at : ℕ → Bool
  turn_at i = turn (eqb f.drawn 0) f.last_time f.last_channel ts gs i

  ascends_at : (i : ℕ) → ascends (before_at whole i) (entry_at whole i) ≡ up (eqb f.drawn 0) f.last_time f.last_channel ts gs i
  ascends_at zero = refl
  ascends_at (suc i) = refl

  abbrev class : ℕ → Bool
  class i = class_fine f (get_or gs i 0) (get_or ls i 0)

  entry_fine_lem : (i : ℕ) (r : Bool) → cond (passes whole (get_or ts 0 0) (before_at whole i) (entry_at whole i)) r false ≡ cond (class i) (cond (turn_at i) r false) false
  entry_fine_lem i r =
      go (allowed f.settings.format (tag_class (get_or gs i 0)) (get_or ls i 0)) (ltb (tag_channel (get_or gs i 0)) f.settings.channels)
      (cond (eqb f.drawn 0) true (is_after (order (get_or ts i 0) (tag_channel (get_or gs i 0)) f.last_time f.last_channel))) (ltb (ahead (get_or ts i 0) (get_or ts 0 0)) half) (ascends_at i)
    where
      go : {u v : Bool} (a b c d : Bool) → u ≡ v
          → cond (cond a (cond b (cond c (cond d u false) false) false) false) r false ≡ cond (a && b) (cond (cond c (cond d v false) false) r false) false
      go true true true true e = ap (λ (u : Bool). cond u r false) e
      go true true true false e = refl
      go true true false d e = refl
      go true false c d e = refl
      go false b c d e = refl

  module _ (n i : ℕ) (seen : List ℕ) where
    pub fine_end : n ≤ i → rest_fine n i seen ≡ same_words seen ws
    unfolding all_pass entries_from
    fine_end h = rw (let e : n - i ≡ 0 = omega arith in e)

    module _ (l : i < n) where
      fine_step : rest_fine n i seen
          ≡ cond (class i) (cond (turn_at i) (cond (is_free seen (get_or ss i 0)) (rest_fine n (i + 1) (marked seen (get_or ss i 0))) false) false) false
      unfolding all_pass entries_from
      fine_step =
          let e : n - i ≡ suc (n - suc i) = omega arith in
          rw (e, add-one i) (entry_fine_lem i (cond (is_free seen (get_or ss i 0)) (rest_fine n (suc i) (marked seen (get_or ss i 0))) false))

      pub fine_class : class i ≡ false → rest_fine n i seen ≡ false
      fine_class p = fine_step ∙ otherwise _ _ p

      module _ (p : class i ≡ true) where
        pub fine_turn : turn_at i ≡ false → rest_fine n i seen ≡ false
        fine_turn q = fine_step ∙ when _ _ p ∙ otherwise _ _ q

        module _ (q : turn_at i ≡ true) where
          pub fine_taken : is_free seen (get_or ss i 0) ≡ false → rest_fine n i seen ≡ false
          fine_taken r = fine_step ∙ when _ _ p ∙ when _ _ q ∙ otherwise _ _ r

          pub fine_more : is_free seen (get_or ss i 0) ≡ true → rest_fine n i seen ≡ rest_fine n (i + 1) (marked seen (get_or ss i 0))
          fine_more r = fine_step ∙ when _ _ p ∙ when _ _ q ∙ when _ _ r

-- a pair lies after another where the library's order says greater
pub after_is : (s : Side) (o : Ordering) → side_order s ≡ o → is_gt s ≡ is_after o
after_is Less o e = ap is_after e
after_is Equal o e = ap is_after e
after_is Greater o e = ap is_after e
