use Rattle.std.proofs.Common.{refl, ◌∙◌, arith}
use Rattle.std.specs.Slice.Iter.{chunks_exact_rest}
use Rattle.write_plan.specs.Room.{words_at}
use Rattle.log_writer.proofs.RowsLaws.{size_none, size_next}
use Rattle.log_writer.proofs.writing.rows_size.Goals as goal

pub loop-words-preserved : goal.loop-words-preserved
loop-words-preserved c =
    let s = c.in-Some.ensures.steps in
    let ws = c.in-Some.words.now in
    let long = s.1.1 ∙ c.loop-words.invariant.size in
    let n = size_next (chunks_exact_rest c.loop-words.words-iterator) ws (chunks_exact_rest c.next.new.self) (words_at ws 0) s.1.0 long refl in
    record { size = s.0 ∙ c.loop-words.invariant.size; sum = omega (arith, n, c.loop-words.invariant.sum) }

pub returns : goal.returns
returns c =
    let n = size_none (chunks_exact_rest c.loop-words.words-iterator) (rw c.loop-words.invariant.size at c.in-None.ensures.steps.1.0) in
    omega (arith, n, c.loop-words.invariant.sum)
