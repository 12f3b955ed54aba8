use mathlib.Core.Path.{◌≡◌, ap, subst, sym, ◌∙◌}
use mathlib.Core.List.{List}
use native.Mathlib.Omega.{arith}
use native.Mathlib.Nat.{mul-le-mul_right}
use native.Mathlib.Numerals.{add-one}
use lib.ListN.{length, get_or, drop, length-drop}
use Rattle.rtp.specs.Sizes.{row_width}
use Rattle.rtp.proofs.AreaLaws.{part_to_end}
use Rattle.formats.specs.Formats.{step_of}
use Rattle.row_tags.specs.Tags.{tag_class}
use Rattle.write_plan.specs.declared.lists.RowWords.{RowWords}
use Rattle.write_plan.specs.Lists.{rows_in}
use Rattle.write_plan.specs.Plans.{joins_run, gap_between, plan_from}
use Rattle.write_plan.specs.Room.{row_as, words_at}
use Rattle.write_payload.specs.Room.{joined, Accepted}
use Rattle.write_payload.proofs.RunLaws.{joined_none, joined_few, joined_rest, joined_words, joined_step}
use Prim.Native.Nat.{ℕ, suc, ◌*◌, ◌≤◌}
use Rattle.write_payload.proofs.tables.+joined_blocks.Goals.{After-joined_blocks, After-joins_run, Else-rows-lt-ROW_WIDTH}
use Rattle.write_payload.proofs.tables.+joined_blocks.Goals as goal

-- whether the frame-block at the front joins, as the list has it
joins_at : (t : ℕ) (c : After-joins_run t) → let a = c.args in let ws = a.rows.now in
    joins_run a.format (row_as a.row) (tag_class (get_or ws 1 0)) (get_or ws 3 0) (gap_between (step_of a.format) a.row.time (get_or ws 0 0)) ≡ c.joins_run.result
joins_at t c =
    let a = c.args in
    sym (c.joins_run.ensures
    ∙ ap (λ (k : ℕ). joins_run a.format (row_as a.row) k c.first_row-next.result.length c.gap_between-gap.result) c.tag_class.ensures
    ∙ ap (λ (g : ℕ). joins_run a.format (row_as a.row) (tag_class c.first_row-next.result.tag) c.first_row-next.result.length g) c.gap_between-gap.ensures
    ∙ ap (λ (w : RowWords). joins_run a.format (row_as a.row) (tag_class w.tag) w.length (gap_between (step_of a.format) a.row.time w.time)) c.first_row-next.ensures)

words-at : (t : ℕ) (c : Else-rows-lt-ROW_WIDTH t) → row_width * c.args.channels ≤ length c.args.rows.now
words-at t c =
    let a = c.args in let q = c.requires in joined_words a.format a.channels (row_as a.row) a.rows.now q.some q.planned c.if-rows-lt-ROW_WIDTH.false

-- what follows, as the list has it, has a plan
rest_at : (t : ℕ) (c : Else-rows-lt-ROW_WIDTH t) → let a = c.args in let ws = a.rows.now in
    Accepted (plan_from a.format a.channels 0 (row_as (words_at ws 0)) (rows_in (drop (row_width * a.channels) ws)))
rest_at t c =
    let a = c.args in let q = c.requires in joined_rest a.format a.channels (row_as a.row) a.rows.now q.some q.planned c.if-rows-lt-ROW_WIDTH.false

blocks_at : (t : ℕ) (c : After-joined_blocks t) → let a = c.args in let ws = a.rows.now in
    c.joined_blocks.result ≡ joined a.format (row_as (words_at ws 0)) (plan_from a.format a.channels 0 (row_as (words_at ws 0)) (rows_in (drop (row_width * a.channels) ws)))
blocks_at t c =
    let a = c.args in
    c.joined_blocks.ensures
    ∙ ap (λ (l : List ℕ). joined a.format (row_as c.first_row-next.result) (plan_from a.format a.channels 0 (row_as c.first_row-next.result) (rows_in l))) (part_to_end (row_width * a.channels) a.rows.now)
    ∙ ap (λ (w : RowWords). joined a.format (row_as w) (plan_from a.format a.channels 0 (row_as w) (rows_in (drop (row_width * a.channels) a.rows.now)))) c.first_row-next.ensures

pub returns-then-rows-lt-ROW_WIDTH : goal.returns-then-rows-lt-ROW_WIDTH
returns-then-rows-lt-ROW_WIDTH t c =
    let a = c.args in sym (joined_none a.format a.channels (row_as a.row) a.rows.now c.if-rows-lt-ROW_WIDTH.true)

pub overflow_mul-width : goal.overflow_mul-width
overflow_mul-width t c =
    omega (arith, c.requires.channels)

pub offset_bounds-rows-width : goal.offset_bounds-rows-width
offset_bounds-rows-width t c =
    omega (arith, c.requires.channels)

pub slice_bounds-joined_blocks-count : goal.slice_bounds-joined_blocks-count
slice_bounds-joined_blocks-count t c =
    words-at t (goal.at.slice_bounds-joined_blocks-count t c).Else-rows-lt-ROW_WIDTH

pub slice_bounds-joined_blocks-start : goal.slice_bounds-joined_blocks-start
slice_bounds-joined_blocks-start t c =
    omega (arith, words-at t (goal.at.slice_bounds-joined_blocks-start t c).Else-rows-lt-ROW_WIDTH)

pub joined_blocks-requires : goal.joined_blocks-requires
joined_blocks-requires t c =
    let a = c.args in
    let q = c.requires in (
      rw (part_to_end (row_width * a.channels) a.rows.now, length-drop) (omega (arith, q.some, words-at t (goal.at.joined_blocks-requires t c).Else-rows-lt-ROW_WIDTH)),
      record {
        some = q.some;
        channels = q.channels;
        planned = rw part_to_end (subst (λ (w : RowWords). Accepted (plan_from a.format a.channels 0 (row_as w) (rows_in (drop (row_width * a.channels) a.rows.now)))) (sym c.first_row-next.ensures) (rest_at t (goal.at.joined_blocks-requires t c).Else-rows-lt-ROW_WIDTH));
      },
    )

pub overflow_add-result : goal.overflow_add-result
overflow_add-result t c =
    let a = c.args in
    let f = joined_few a.format a.channels (row_as (words_at a.rows.now 0)) (drop (row_width * a.channels) a.rows.now) c.requires.some (rest_at t (goal.at.overflow_add-result t c).Else-rows-lt-ROW_WIDTH) in
    let s : c.joined_blocks.result ≤ row_width * a.channels * c.joined_blocks.result = omega (arith, mul-le-mul_right {m = 1} {n = row_width * a.channels} c.joined_blocks.result (omega (arith, c.requires.some))) in
    omega (arith, s, subst (λ (n : ℕ). row_width * a.channels * n ≤ length (drop (row_width * a.channels) a.rows.now)) (sym (blocks_at t c)) f, length-drop (row_width * a.channels) a.rows.now, c.if-rows-lt-ROW_WIDTH.false, words-at t (goal.at.overflow_add-result t c).Else-rows-lt-ROW_WIDTH, c.requires.some)

pub returns-then-joins_run : goal.returns-then-joins_run
returns-then-joins_run t c =
    let a = c.args in
    let q = c.requires in
    add-one c.joined_blocks.result ∙ ap suc (blocks_at t c) ∙ sym (joined_step a.format a.channels (row_as a.row) a.rows.now q.some q.planned c.if-rows-lt-ROW_WIDTH.false ∙ rw (joins_at t (goal.at.returns-then-joins_run t c).After-joins_run ∙ c.if-joins_run.true))

pub returns : goal.returns
returns t c =
    let a = c.args in
    let q = c.requires in
    sym (joined_step a.format a.channels (row_as a.row) a.rows.now q.some q.planned c.if-rows-lt-ROW_WIDTH.false ∙ rw (joins_at t (goal.at.returns t c).After-joins_run ∙ c.if-joins_run.false))
