use mathlib.Core.Path.{◌≡◌}
use Rattle.std.specs.Slice.Iter.{chunks_exact_rest, chunks_exact_size}
use Rattle.rtp.specs.Sizes.{row_width}
use Rattle.write_plan.specs.Lists.{rows_in, outside}
use Rattle.write_plan.proofs.lists.any_outside.Given as goal

abbrev pub invariant-loop-words : goal.invariant-loop-words
invariant-loop-words l = record {
  size : chunks_exact_size l.words-iterator ≡ row_width;
  same : outside l.n (rows_in l.rows) ≡ outside l.n (rows_in (chunks_exact_rest l.words-iterator));
}
