use Rattle.std.proofs.Common.{◌≡◌, ◌∷◌, ◌∙◌, rules, ap, sym}
use Rattle.std.specs.Slice.Iter.{chunks_exact_rest}
use Rattle.write_plan.specs.Lists.{rows_in}
use Rattle.write_plan.specs.Room.{row_as}
use Rattle.write_plan.specs.declared.lists.RowWords.{RowWords}
use Rattle.write_plan.proofs.ListLaws.{rows_none, next_row}
use Rattle.write_payload.proofs.FrameBytesLaws.{going_start, frame_inside, going_more, going_end}
use Rattle.write_payload.proofs.tables.put_frames.Goals.{After-first_row-row}
use Rattle.write_payload.proofs.tables.put_frames.Goals as goal

-- the next row, and the others
row_here : (c : After-first_row-row)
    → rows_in (chunks_exact_rest c.loop-words.words-iterator) ≡ row_as c.first_row-row.result ∷ rows_in (chunks_exact_rest c.next.new.self)
row_here c =
    let s = c.in-Some.ensures.steps in
    ap rows_in s.1.0 ∙ next_row _ _ (s.1.1 ∙ c.loop-words.invariant.size) ∙ ap (λ (w : RowWords). row_as w ∷ rows_in (chunks_exact_rest c.next.new.self)) (sym c.first_row-row.ensures)

pub loop-words-init : goal.loop-words-init
loop-words-init c =
    let a = c.args in
    record { size = search rules; going = going_start a.rows.now a.bytes.now a.out.now _ (search rules) c.requires }

pub slice_bounds-put_bytes-end-in-loop-words : goal.slice_bounds-put_bytes-end-in-loop-words
slice_bounds-put_bytes-end-in-loop-words c =
    let a = c.args in frame_inside a.rows.now a.bytes.now a.out.now _ _ c.loop-words.place c.loop-words.invariant.going _ _ (row_here (goal.at.slice_bounds-put_bytes-end-in-loop-words c).After-first_row-row)

pub loop-words-preserved : goal.loop-words-preserved
loop-words-preserved c =
    let a = c.args in
    record {
      size = c.in-Some.ensures.steps.0 ∙ c.loop-words.invariant.size;
      going = going_more a.rows.now a.bytes.now a.out.now _ _ c.loop-words.place c.loop-words.invariant.going _ _ (row_here (goal.at.loop-words-preserved c).After-first_row-row) _ c.put_bytes.ensures;
    }

pub returns : goal.returns
returns c =
    let a = c.args in
    going_end a.rows.now a.bytes.now a.out.now _ _ c.loop-words.place c.loop-words.invariant.going (rows_none _ (rw c.loop-words.invariant.size at c.in-None.ensures.steps.1.0))
