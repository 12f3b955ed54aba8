use mathlib.Core.Path.{◌≡◌, ◌∙◌, ap}
use mathlib.Core.List.{List}
use Prim.Native.Nat.{ℕ, ◌+◌, ◌-◌, ◌*◌, ◌≤◌, ◌<◌}
use native.Mathlib.Omega.{arith}
use lib.ListN.{length, get_or, take, drop}
use Rattle.rtp.proofs.AreaLaws.{part_cut, part_size}
use Rattle.buffer_copies.specs.Sizes.{slots, slot_size}
use Rattle.buffer_slots.proofs.FreeLaws.{released_marked}
use Rattle.buffer_draw.proofs.DrawLaws.{first_slot, first_short, first_marked, left}
use Rattle.buffer_columns.proofs.BoundLaws.{laid_is}
use Rattle.buffer_draw.proofs.draws.draw_first.Goals as goal

-- the part of the store that is copied
cut_length : (n k : ℕ) (store : List ℕ) → n + k ≤ length store → length (take (n + k - n) (drop n store)) ≡ k
cut_length n k store l = ap length (part_cut n k store) ∙ part_size store n k l

pub slice_bounds-copy_into-end : goal.slice_bounds-copy_into-end
slice_bounds-copy_into-end c = omega (arith, first_slot _ _ _ _ c.requires, first_short _ _ _ _ c.requires, c.requires.room)

pub returns : goal.returns
returns c =
    let b = c.args.buffer in
    let slot = get_or b.slots 0 0 in
    let size = get_or b.lengths 0 0 in
    let slot_at : slot < slots = first_slot _ _ _ _ c.requires in
    let short_at : size ≤ slot_size = first_short _ _ _ _ c.requires in
    let fit_at : 0 + length (take (slot_size * slot + size - slot_size * slot) (drop (slot_size * slot) c.args.store.now)) ≤ length c.args.area.now =
    omega (arith, c.requires.space, short_at, cut_length (slot_size * slot) size c.args.store.now (omega (arith, slot_at, short_at, c.requires.room))) in
    left b c.args.n c.args.store.now c.args.area.now c.requires _ _ _ c.tag_channel-channel.ensures.0 c.tag_class-class.ensures c.tag_mark-primary.ensures.0 _ _ _ _ _ _ c.remove_first.ensures c.remove_first-2.ensures c.remove_first-3.ensures c.remove_first-4.ensures
    (c.unmark-next.ensures ∙ released_marked b.occupied slot slot_at (first_marked _ _ _ _ c.requires))
    (take (slot_size * slot + size - slot_size * slot) (drop (slot_size * slot) c.args.store.now))
    (part_cut (slot_size * slot) size c.args.store.now)
    (c.copy_into.ensures ∙ laid_is _ _ _ fit_at)
