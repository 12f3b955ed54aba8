use mathlib.Core.Path.{◌≡◌, sym, ◌∙◌, ap}
use mathlib.Core.List.{List}
use mathlib.Core.Bool.{true}
use Prim.Native.Nat.{ℕ, ◌+◌, ◌-◌, ◌*◌}
use native.Mathlib.Omega.{arith}
use lib.ListN.{length, get_or, take, drop, set}
use Rattle.rtp.proofs.TestLaws.{not-both}
use Rattle.row_tags.specs.Tags.{tag_class}
use Rattle.buffer_copies.specs.Sizes.{slot_size}
use Rattle.buffer_copies.specs.Copies.{better_frame}
use Rattle.buffer_columns.proofs.BoundLaws.{laid_is}
use Rattle.buffer_insert.specs.declared.laying.FrameHead.{FrameHead}
use Rattle.buffer_insert.specs.Laying.{class_in, can_replace, beats}
use Rattle.buffer_insert.proofs.laying.replace_copy.Goals.{After-is_better, Else-not-can_replace}
use Rattle.buffer_insert.proofs.laying.replace_copy.Goals as goal

-- the part of the store from the slot's start to the frame's end
part_is : (h : FrameHead) (frame tags lengths slots' : List ℕ) (at : ℕ) (store : List ℕ) (k m : ℕ) → k ≡ class_in h → m ≡ tag_class (get_or tags at 0)
    → better_frame k frame m (take (slot_size * get_or slots' at 0 + get_or lengths at 0 - slot_size * get_or slots' at 0) (drop (slot_size * get_or slots' at 0) store))
    ≡ beats h frame tags lengths slots' at store
part_is h frame tags lengths slots' at store k m p q =
    let e : slot_size * get_or slots' at 0 + get_or lengths at 0 - slot_size * get_or slots' at 0 ≡ get_or lengths at 0 = omega arith in
    λ i. better_frame (p i) frame (q i) (take (e i) (drop (slot_size * get_or slots' at 0) store))

passed_at : (c : Else-not-can_replace) → (let a = c.args in can_replace a.buffer.now.lengths a.buffer.now.slots a.at (length a.frame.now) (length a.store.now)) ≡ true
passed_at c = sym c.can_replace.ensures.test ∙ c.if-not-can_replace.false

-- the frame is better than the one held as the test tells
beats_at : (c : After-is_better) → let a = c.args in
    beats a.head a.frame.now a.buffer.now.tags a.buffer.now.lengths a.buffer.now.slots a.at a.store.now ≡ c.is_better.result
beats_at c =
    let a = c.args in
    sym (part_is a.head a.frame.now a.buffer.now.tags a.buffer.now.lengths a.buffer.now.slots a.at a.store.now _ _ c.tag_class.ensures c.tag_class-2.ensures)
    ∙ sym c.is_better.ensures

pub returns-then-is_better : goal.returns-then-is_better
returns-then-is_better c =
    let a = c.args in
    let g = c.can_replace.ensures.fits c.if-not-can_replace.false in
    let t = beats_at (goal.at.returns-then-is_better c).After-is_better ∙ c.if-is_better.true in record {
      replaced = λ h. record {
        verdict = rw t;
        buffer = rw t (ap (λ (x : ℕ). record a.buffer.now { tags = set a.buffer.now.tags a.at x; lengths = set a.buffer.now.lengths a.at (length a.frame.now) }) c.join_mark.ensures);
        store_left = rw t (c.copy_into.ensures ∙ laid_is _ _ _ (omega (arith, g.short, g.slot, g.store)));
      };
      not_replaced = λ h. not-both _ (passed_at (goal.at.returns-then-is_better c).Else-not-can_replace) h;
    }
