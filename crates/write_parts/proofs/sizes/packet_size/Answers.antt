use mathlib.Core.Path.{◌≡◌, ap, ◌∙◌}
use Prim.Native.Nat.{◌+◌, ◌*◌, ◌≤◌}
use native.Mathlib.Omega.{arith}
use borrow.Author.Tests.{lt-ltb, le-ltb, eq-eqb, ne_eqb}
use lib.ListN.{length}
use Rattle.rtp.specs.Editions.{current}
use Rattle.write_sizes.specs.Measures.{Numbers}
use Rattle.write_plan.specs.Plans.{max_payload}
use Rattle.write_parts.specs.Parts.{max_redundant, max_block}
use Rattle.write_parts.specs.ListSizes.{lists_numbers, packet_numbers, size_numbers}
use Rattle.write_parts.proofs.ListsLaws.{told_none, told_bytes, lists_small, size_many, size_few}
use Rattle.write_parts.proofs.sizes.packet_size.Goals.{After-measure_lists, In-Ok}
use Rattle.write_parts.proofs.sizes.packet_size.Goals as goal

size-at : (c : In-Ok) → let a = c.args in lists_numbers current a.asked a.time a.counts.now a.rows.now ≡ record { refusal = 0; count = c.in-Ok.size }
size-at c =
    told_bytes _ _ _ c.in-Ok.is c.measure_lists.ensures

-- it is small
small_at : (c : In-Ok) → c.in-Ok.size ≤ (4 + max_block) * (max_redundant + 1) + max_payload
small_at c =
    let size-at : let a = c.args in lists_numbers current a.asked a.time a.counts.now a.rows.now ≡ record { refusal = 0; count = c.in-Ok.size } = told_bytes _ _ _ c.in-Ok.is c.measure_lists.ensures in
    let a = c.args in
    let j = ap (λ (n : Numbers). n.count) (size-at) in
    omega (arith, lists_small current a.asked a.time a.counts.now a.rows.now, c.if-counts.false)

-- past the first test the bytes are those of the lists, with their headers
few-at : (c : After-measure_lists) → let a = c.args in
    size_numbers current a.asked a.time a.counts.now a.rows.now ≡ packet_numbers a.asked (length a.counts.now) (lists_numbers current a.asked a.time a.counts.now a.rows.now)
few-at c =
    let a = c.args in size_few current a.asked a.time a.counts.now a.rows.now c.if-counts.false

pub returns-then-counts : goal.returns-then-counts
returns-then-counts c =
    size_many current _ _ _ _ c.if-counts.true

pub overflow_add-size : goal.overflow_add-size
overflow_add-size c =
    omega (arith, small_at (goal.at.overflow_add-size c).In-Ok)

pub returns-then-counts-lt2 : goal.returns-then-counts-lt2
returns-then-counts-lt2 c =
    c.within_packet.ensures ∙ rw (few-at (goal.at.returns-then-counts-lt2 c).After-measure_lists, size-at (goal.at.returns-then-counts-lt2 c).In-Ok, lt-ltb _ _ c.if-counts-lt2.true)

pub returns-then-asked-eq-NO_REDUNDANCY : goal.returns-then-asked-eq-NO_REDUNDANCY
returns-then-asked-eq-NO_REDUNDANCY c =
    rw (few-at (goal.at.returns-then-asked-eq-NO_REDUNDANCY c).After-measure_lists, size-at (goal.at.returns-then-asked-eq-NO_REDUNDANCY c).In-Ok, le-ltb _ _ c.if-counts-lt2.false, eq-eqb _ _ c.if-asked-eq-NO_REDUNDANCY.true)

pub overflow_add-size-2 : goal.overflow_add-size-2
overflow_add-size-2 c =
    omega (arith, small_at (goal.at.overflow_add-size-2 c).In-Ok)

pub returns-in_default : goal.returns-in_default
returns-in_default c =
    rw (few-at (goal.at.returns-in_default c).After-measure_lists, told_none _ _ _ c.in_default.is c.measure_lists.ensures)

pub returns : goal.returns
returns c =
    c.within_packet-2.ensures ∙ rw (few-at (goal.at.returns c).After-measure_lists, size-at (goal.at.returns c).In-Ok, le-ltb _ _ c.if-counts-lt2.false, ne_eqb _ _ c.if-asked-eq-NO_REDUNDANCY.false)
