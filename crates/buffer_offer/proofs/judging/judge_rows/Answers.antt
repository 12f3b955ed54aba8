use mathlib.Core.Path.{ap, ◌∙◌}
use native.Mathlib.Omega.{arith}
use Rattle.std.specs.Slice.Iter.{chunks_exact_rest, chunks_exact_size}
use Rattle.rtp.specs.Editions.{current}
use Rattle.read_rows.specs.Rows.{rows_in}
use Rattle.read_rows.proofs.RowLaws.{rows_none}
use Rattle.buffer_insert.specs.Tallies.{no_tally}
use Rattle.buffer_offer.proofs.RowStepLaws.{rows_next, part_none, part_more, part_all}
use Rattle.buffer_offer.proofs.judging.judge_rows.Goals as goal

pub loop-row-init : goal.loop-row-init
loop-row-init c =
    let a = c.args in
    let s = c.chunks_exact-row-items.ensures in
    let e = c.into_iter-row-iterator.ensures.into_iter_gives in
    record {
      size = ap chunks_exact_size e ∙ s.size;
      part = part_none current a.buffer.now a.packet.now (rows_in a.rows.now) no_tally a.store.now _ _ (ap rows_in (ap chunks_exact_rest e ∙ s.rest)) c.no_tally-tally.ensures;
    }

pub judge_row-tally-requires : goal.judge_row-tally-requires
judge_row-tally-requires c = omega (arith, c.in-Some.ensures.steps.1.1, c.loop-row.invariant.size)

pub loop-row-preserved : goal.loop-row-preserved
loop-row-preserved c =
    let a = c.args in
    let s = c.in-Some.ensures.steps in
    let size = c.loop-row.invariant.size in
    record {
      size = s.0 ∙ size;
      part = λ p. part_more current a.buffer.now a.packet.now (rows_in a.rows.now) no_tally a.store.now _ _ _ _ (c.loop-row.invariant.part p) _ _ _ _ _
          (rows_next _ c.in-Some.row.now _ s.1.0 (s.1.1 ∙ size)) (c.judge_row-tally.ensures _);
    }

pub returns : goal.returns
returns c p =
    let a = c.args in
    part_all current a.buffer.now a.packet.now (rows_in a.rows.now) no_tally a.store.now _ _ _ _ (c.loop-row.invariant.part p)
    (rows_none _ (rw c.loop-row.invariant.size at c.in-None.ensures.steps.1.0))
