use mathlib.Core.Path.{◌≡◌, ◌∙◌, ap, sym}
use mathlib.Core.Bool.{Bool, true}
use mathlib.Core.List.{List}
use Prim.Native.Nat.{ℕ, ◌*◌}
use native.Mathlib.Omega.{arith}
use lib.ListN.{length}
use lib.Seq.{paste}
use Rattle.rtp.proofs.TestLaws.{not-both}
use Rattle.buffer_copies.specs.Sizes.{slot_size}
use Rattle.buffer_slots.specs.Bits.{lowest_free, claimed}
use Rattle.buffer_layout.specs.declared.buffer.Buffer.{Buffer}
use Rattle.buffer_layout.specs.Columns.{insert_at}
use Rattle.buffer_slots.proofs.FreeLaws.{free_unmarked, claimed_free}
use Rattle.buffer_columns.proofs.BoundLaws.{insertion_is, laid_is}
use Rattle.buffer_insert.specs.Laying.{can_insert}
use Rattle.buffer_insert.proofs.laying.insert_copy.Goals.{Else-not-can_insert}
use Rattle.buffer_insert.proofs.laying.insert_copy.Goals as goal

-- the buffer of other columns and marks
laid_buffer : (b : Buffer) {times times' tags tags' lengths lengths' slots' slots'' occupied occupied' : List ℕ}
    → times ≡ times' → tags ≡ tags' → lengths ≡ lengths' → slots' ≡ slots'' → occupied ≡ occupied'
    → record b { times = times; tags = tags; lengths = lengths; slots = slots'; occupied = occupied } ≡ record b { times = times'; tags = tags'; lengths = lengths'; slots = slots''; occupied = occupied' }
laid_buffer b t g l s o = λ j. record b { times = t j; tags = g j; lengths = l j; slots = s j; occupied = o j }

-- the test at the slot that is laid into
test_at : {r : Bool} {k l : ℕ} (n at size room : ℕ) → r ≡ can_insert k n at size room → k ≡ l → r ≡ can_insert l n at size room
test_at n at size room e p = e ∙ ap (λ (k : ℕ). can_insert k n at size room) p

passed_at : (c : Else-not-can_insert) → (let a = c.args in can_insert (lowest_free a.buffer.now.occupied) a.n a.at (length a.frame.now) (length a.store.now)) ≡ true
passed_at c = sym (test_at _ _ _ _ c.can_insert.ensures.test c.lowest_free-slot.ensures) ∙ c.if-not-can_insert.false

pub returns : goal.returns
returns c =
    let a = c.args in
    let g = c.can_insert.ensures.fits c.if-not-can_insert.false in
    let e = c.lowest_free-slot.ensures in
    let slot_in = rw e at g.slot_in in
    record {
      laid = λ h. record {
        buffer = laid_buffer a.buffer.now
            (c.insert_at.ensures ∙ insertion_is _ _ _ _ g.place g.space)
            (c.insert_at-2.ensures ∙ insertion_is _ _ _ _ g.place g.space)
            (c.insert_at-3.ensures ∙ insertion_is _ _ _ _ g.place g.space)
            (c.insert_at-4.ensures ∙ insertion_is _ _ _ _ g.place g.space ∙ ap (insert_at a.buffer.now.slots a.n a.at) e)
            (c.mark-next.ensures ∙ ap (claimed a.buffer.now.occupied) e ∙ claimed_free a.buffer.now.occupied (lowest_free a.buffer.now.occupied) slot_in (free_unmarked a.buffer.now.occupied slot_in));
        store_left = c.copy_into.ensures ∙ laid_is _ _ _ (omega (arith, g.slot_in, g.short, g.store)) ∙ ap (λ (k : ℕ). paste a.store.now (slot_size * k) a.frame.now (length a.frame.now)) e;
      };
      not_laid = λ h. not-both _ (passed_at (goal.at.returns c).Else-not-can_insert) h;
    }
