use Rattle.std.proofs.Common.{◌≡◌}
use Rattle.std.specs.Slice.Iter.{chunks_exact_rest, chunks_exact_size}
use Rattle.rtp.specs.Sizes.{row_width}
use Rattle.log_writer.proofs.RowsLaws.{Going}
use Rattle.log_writer.proofs.writing.lay_rows.Given as goal

abbrev pub invariant-loop-words : goal.invariant-loop-words
invariant-loop-words l = record {
  size : chunks_exact_size l.words-iterator ≡ row_width;
  going : Going l.rows l.bytes l.initial.out l.out (chunks_exact_rest l.words-iterator) l.place;
}
