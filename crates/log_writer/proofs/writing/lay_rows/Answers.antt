use Rattle.std.proofs.Common.{◌≡◌, ◌∷◌, ◌∙◌}
use Rattle.std.specs.Slice.Iter.{chunks_exact_rest}
use Rattle.write_plan.specs.Lists.{rows_in}
use Rattle.write_plan.specs.Room.{row_as}
use Rattle.write_plan.proofs.ListLaws.{rows_none}
use Rattle.log_writer.proofs.RowsLaws.{row_next, going_room, going_more, going_end}
use Rattle.log_writer.proofs.writing.lay_rows.Goals.{After-first_row-row}
use Rattle.log_writer.proofs.writing.lay_rows.Goals as goal

-- the next row, and the others
row_here : (c : After-first_row-row)
    → rows_in (chunks_exact_rest c.loop-words.words-iterator) ≡ row_as c.first_row-row.result ∷ rows_in (chunks_exact_rest c.next.new.self)
row_here c =
    let s = c.in-Some.ensures.steps in row_next _ c.in-Some.words.now _ c.first_row-row.result s.1.0 (s.1.1 ∙ c.loop-words.invariant.size) c.first_row-row.ensures

pub lay_row-requires : goal.lay_row-requires
lay_row-requires c =
    let a = c.args in
    going_room a.rows.now a.bytes.now a.out.now _ _ c.loop-words.place c.loop-words.invariant.going _ _ (row_here (goal.at.lay_row-requires c).After-first_row-row)

pub loop-words-preserved : goal.loop-words-preserved
loop-words-preserved c =
    let a = c.args in
    record {
      size = c.in-Some.ensures.steps.0 ∙ c.loop-words.invariant.size;
      going = going_more a.rows.now a.bytes.now a.out.now _ _ c.loop-words.place c.loop-words.invariant.going _ _ (row_here (goal.at.loop-words-preserved c).After-first_row-row) _ c.lay_row.ensures;
    }

pub returns : goal.returns
returns c =
    let a = c.args in
    going_end a.rows.now a.bytes.now a.out.now _ _ c.loop-words.place c.loop-words.invariant.going (rows_none _ (rw c.loop-words.invariant.size at c.in-None.ensures.steps.1.0))
