use mathlib.Core.Path.{◌≡◌, sym, ◌∙◌, ap}
use mathlib.Core.List.{[]}
use mathlib.Core.Bool.{true}
use Prim.Native.Nat.{ℕ}
use Rattle.rtp.specs.Editions.{current}
use Rattle.buffer_slots.specs.Bits.{held_in}
use Rattle.buffer_layout.specs.Layout.{entries_from}
use Rattle.buffer_layout.specs.WellFormed.{well_formed}
use Rattle.buffer_draw.proofs.CallLaws.{outcome_refused, draw_first, draw_malformed, draw_store, draw_area, draw_goes}
use Rattle.buffer_draw.proofs.draws.draw_checked.Goals.{Else-not-is_well_formed, then-store-lt-STORE_SIZE-via-then-store-lt-STORE_SIZE, then-store-lt-STORE_SIZE-via-else-store-lt-STORE_SIZE+then-area-lt-SLOT_SIZE}
use Rattle.buffer_draw.proofs.draws.draw_checked.Goals as goal

fine_at : (c : Else-not-is_well_formed) → well_formed c.args.buffer ≡ true
fine_at c =
    sym c.is_well_formed.ensures ∙ c.if-not-is_well_formed.false

pub returns-then-not-is_well_formed : goal.returns-then-not-is_well_formed
returns-then-not-is_well_formed c =
    let a = c.args in
    outcome_refused a.area.now a.buffer _ _ c.refused.ensures
    ∙ sym (draw_malformed current a.buffer a.store.now a.area.now c.requires (sym c.is_well_formed.ensures ∙ c.if-not-is_well_formed.true))

pub returns-then-store-lt-STORE_SIZE : goal.returns-then-store-lt-STORE_SIZE
returns-then-store-lt-STORE_SIZE c =
    let a = c.args in
    let fine = fine_at (goal.at.returns-then-store-lt-STORE_SIZE c).Else-not-is_well_formed in
    outcome_refused a.area.now a.buffer _ _ c.refused-then-store-lt-STORE_SIZE.ensures
    ∙ elim c.then-store-lt-STORE_SIZE.branch [
      | then-store-lt-STORE_SIZE-via-then-store-lt-STORE_SIZE w ↦ sym (draw_store current a.buffer a.store.now a.area.now c.requires fine w.if-store-lt-STORE_SIZE.true)
      | then-store-lt-STORE_SIZE-via-else-store-lt-STORE_SIZE+then-area-lt-SLOT_SIZE w ↦
          sym (draw_area current a.buffer a.store.now a.area.now c.requires fine w.if-store-lt-STORE_SIZE.false w.if-area-lt-SLOT_SIZE.true)
    ]

pub returns-then-n-eq0 : goal.returns-then-n-eq0
unfolding entries_from
returns-then-n-eq0 c =
    let a = c.args in
    let z : held_in a.buffer.occupied ≡ 0 = sym c.held_in-n.ensures.0 ∙ c.if-n-eq0.true in
    let e : entries_from a.buffer (held_in a.buffer.occupied) 0 ≡ [] = ap (λ (n : ℕ). entries_from a.buffer n 0) z in
    sym (draw_goes current a.buffer a.store.now a.area.now c.requires (fine_at (goal.at.returns-then-n-eq0 c).Else-not-is_well_formed) c.if-store-lt-STORE_SIZE.false c.if-area-lt-SLOT_SIZE.false
    ∙ ap (draw_first a.buffer a.store.now a.area.now) e)

pub returns : goal.returns
returns c =
    let a = c.args in
    c.draw_first.ensures
    ∙ sym (draw_goes current a.buffer a.store.now a.area.now c.requires (fine_at (goal.at.returns c).Else-not-is_well_formed) c.if-store-lt-STORE_SIZE.false c.if-area-lt-SLOT_SIZE.false)
