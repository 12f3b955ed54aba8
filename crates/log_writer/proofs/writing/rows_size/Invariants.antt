use Rattle.std.proofs.Common.{◌≡◌, ◌+◌}
use Rattle.std.specs.Slice.Iter.{chunks_exact_rest, chunks_exact_size}
use Rattle.rtp.specs.Sizes.{row_width}
use Rattle.write_plan.specs.Lists.{rows_in}
use Rattle.log_writer.specs.Room.{rows_size}
use Rattle.log_writer.proofs.writing.rows_size.Given as goal

abbrev pub invariant-loop-words : goal.invariant-loop-words
invariant-loop-words l = record {
  size : chunks_exact_size l.words-iterator ≡ row_width;
  sum : l.size + rows_size (rows_in (chunks_exact_rest l.words-iterator)) ≡ rows_size (rows_in l.rows);
}
