use Rattle.std.proofs.Common.{◌≡◌}
use Rattle.std.specs.Slice.Iter.{chunks_exact_rest, chunks_exact_size}
use Rattle.rtp.specs.Editions.{current}
use Rattle.rtp.specs.Sizes.{row_width}
use Rattle.read_rows.specs.Rows.{rows_in}
use Rattle.buffer_insert.specs.Tallies.{no_tally}
use Rattle.buffer_offer.specs.Judging.{RowsJudgeable, PartJudged}
use Rattle.buffer_offer.proofs.judging.judge_rows.Given as goal

abbrev pub invariant-loop-row : goal.invariant-loop-row
invariant-loop-row l = record {
  size : chunks_exact_size l.row-iterator ≡ row_width;
  part : RowsJudgeable current l.initial.buffer l.packet (rows_in l.rows) no_tally l.initial.store
      → PartJudged current l.initial.buffer l.buffer l.packet (rows_in l.rows) (rows_in (chunks_exact_rest l.row-iterator)) no_tally l.tally l.initial.store l.store;
}
