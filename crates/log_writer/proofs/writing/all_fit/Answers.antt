use Rattle.std.proofs.Common.{◌≡◌, ◌∷◌, sym, ◌∙◌}
use Rattle.std.specs.Slice.Iter.{chunks_exact_rest}
use Rattle.write_plan.specs.Lists.{rows_in}
use Rattle.write_plan.specs.Room.{row_as}
use Rattle.write_plan.proofs.ListLaws.{rows_none}
use Rattle.log_writer.proofs.RowsLaws.{row_next, fit_none, fit_not, fit_more}
use Rattle.log_writer.proofs.writing.all_fit.Goals.{After-first_row}
use Rattle.log_writer.proofs.writing.all_fit.Goals as goal

-- the next row, and the others
row_here : (c : After-first_row) → rows_in (chunks_exact_rest c.loop-words.words-iterator) ≡ row_as c.first_row.result ∷ rows_in (chunks_exact_rest c.next.new.self)
row_here c =
    let s = c.in-Some.ensures.steps in row_next _ c.in-Some.words.now _ c.first_row.result s.1.0 (s.1.1 ∙ c.loop-words.invariant.size) c.first_row.ensures

pub returns-then-not-row_fits : goal.returns-then-not-row_fits
returns-then-not-row_fits c =
    let a = c.args in
    sym (c.loop-words.invariant.same ∙ fit_not a.asked _ _ _ (row_here (goal.at.returns-then-not-row_fits c).After-first_row) (sym c.row_fits.ensures ∙ c.if-not-row_fits.true))

pub loop-words-preserved : goal.loop-words-preserved
loop-words-preserved c =
    let a = c.args in
    record {
      size = c.in-Some.ensures.steps.0 ∙ c.loop-words.invariant.size;
      same = c.loop-words.invariant.same ∙ fit_more a.asked _ _ _ (row_here (goal.at.loop-words-preserved c).After-first_row) (sym c.row_fits.ensures ∙ c.if-not-row_fits.false);
    }

pub returns : goal.returns
returns c =
    let a = c.args in
    sym (c.loop-words.invariant.same ∙ fit_none a.asked _ (rows_none _ (rw c.loop-words.invariant.size at c.in-None.ensures.steps.1.0)))
