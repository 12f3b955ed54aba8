-- Laws of the tests before a frame is laid: what holds where they pass, and places, slots and frames of a buffer that pass them.
use mathlib.Core.Path.{◌≡◌}
use mathlib.Core.List.{List}
use mathlib.Core.Bool.{Bool, true, false, cond}
use Prim.Native.Nat.{ℕ}
use lib.ListN.{get_or}
use lib.Dec.{ltb, leb}
use borrow.Author.Tests.{lt-ltb, le-ltb, le-leb, ltb-true, ltb-false, leb-true}
use Rattle.rtp.proofs.TestLaws.{both, either}
use Rattle.buffer_copies.specs.Sizes.{slots, slot_size, store_size}
use Rattle.buffer_insert.specs.Laying.{can_replace, Replaceable, can_insert, Insertable}

module _ (lengths slots' : List ℕ) (at size room : ℕ) where
  abbrev fits : Bool
  fits = cond (ltb slot_size size) false (leb store_size room)

  abbrev held_fits : Bool
  held_fits = cond (ltb slot_size (get_or lengths at 0)) false fits

  pub replaceable : can_replace lengths slots' at size room ≡ true → Replaceable lengths slots' at size room
  unfolding can_replace
  replaceable h =
      let a = both (ltb at slots) (cond (ltb (get_or slots' at 0) slots) held_fits false) h in
      let b = both (ltb (get_or slots' at 0) slots) held_fits a.1 in
      let c = either (ltb slot_size (get_or lengths at 0)) fits b.1 in
      let d = either (ltb slot_size size) (leb store_size room) c.1 in
      record { place = ltb-true _ _ a.0; slot = ltb-true _ _ b.0; held = ltb-false _ _ c.0; short = ltb-false _ _ d.0; store = leb-true _ _ d.1 }

  pub can_replace_lem : Replaceable lengths slots' at size room → can_replace lengths slots' at size room ≡ true
  unfolding can_replace
  can_replace_lem r =
      rw (lt-ltb at slots r.place, lt-ltb (get_or slots' at 0) slots r.slot, le-ltb slot_size (get_or lengths at 0) r.held, le-ltb slot_size size r.short)
      (le-leb store_size room r.store)

module _ (slot n at size room : ℕ) where
  pub insertable : can_insert slot n at size room ≡ true → Insertable slot n at size room
  unfolding can_insert
  insertable h =
      let a = both (ltb slot slots) (cond (ltb n slots) (cond (ltb n at) false (cond (ltb slot_size size) false (leb store_size room))) false) h in
      let b = both (ltb n slots) (cond (ltb n at) false (cond (ltb slot_size size) false (leb store_size room))) a.1 in
      let c = either (ltb n at) (cond (ltb slot_size size) false (leb store_size room)) b.1 in
      let d = either (ltb slot_size size) (leb store_size room) c.1 in
      record { slot_in = ltb-true _ _ a.0; space = ltb-true _ _ b.0; place = ltb-false _ _ c.0; short = ltb-false _ _ d.0; store = leb-true _ _ d.1 }

  pub can_insert_lem : Insertable slot n at size room → can_insert slot n at size room ≡ true
  unfolding can_insert
  can_insert_lem r =
      rw (lt-ltb slot slots r.slot_in, lt-ltb n slots r.space, le-ltb n at r.place, le-ltb slot_size size r.short) (le-leb store_size room r.store)
