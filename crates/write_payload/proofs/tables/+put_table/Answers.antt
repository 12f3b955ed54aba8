use mathlib.Core.Path.{◌≡◌, ap, subst, sym, ◌∙◌}
use mathlib.Core.List.{List}
use native.Mathlib.Omega.{arith}
use native.Mathlib.Nat.{mul-le-mul_left}
use native.Mathlib.Numerals.{add-one}
use lib.ListN.{length, get_or, take, drop, length-drop}
use Rattle.rtp.specs.Editions.{current}
use Rattle.rtp.specs.Sizes.{row_width}
use Rattle.rtp.specs.Areas.{over}
use Rattle.rtp.proofs.AreaLaws.{part_length, part_to_end}
use Rattle.write_plan.specs.declared.lists.RowWords.{RowWords}
use Rattle.write_plan.specs.Lists.{rows_in}
use Rattle.write_plan.specs.Entries.{in_entries}
use Rattle.write_plan.specs.Plans.{plan_from}
use Rattle.write_plan.specs.Room.{row_as, words_at}
use Rattle.write_payload.specs.Room.{timed, joined, RunRoom, plan_bytes}
use Rattle.write_payload.proofs.TableLaws.{first_words_lem, first_run, few_blocks, Entered, entered, put_no_run, put_run}
use Prim.Native.Nat.{ℕ, suc, ◌+◌, ◌-◌, ◌*◌, ◌≤◌}
use Rattle.write_payload.proofs.tables.+put_table.Goals.{After-first_blocks-blocks, After-joined_blocks-run, Else-rows-lt-ROW_WIDTH}
use Rattle.write_payload.proofs.tables.+put_table.Goals as goal

words-at : (t : ℕ) (c : Else-rows-lt-ROW_WIDTH t) → row_width * c.args.channels ≤ length c.args.rows.now
words-at t c =
    let a = c.args in first_words_lem current a.format a.channels a.previous a.rows.now (length a.out.now) c.requires c.if-rows-lt-ROW_WIDTH.false

-- the frame-blocks of the first run, as the list has them
blocks_at : (t : ℕ) (c : After-joined_blocks-run t) → let a = c.args in let ws = a.rows.now in
    c.joined_blocks-run.result + 1 ≡ suc (joined a.format (row_as (words_at ws 0)) (plan_from a.format a.channels 0 (row_as (words_at ws 0)) (rows_in (drop (row_width * a.channels) ws))))
blocks_at t c =
    let a = c.args in
    add-one c.joined_blocks-run.result ∙ ap suc (c.joined_blocks-run.ensures
    ∙ ap (λ (l : List ℕ). joined a.format (row_as c.first_row-first.result) (plan_from a.format a.channels 0 (row_as c.first_row-first.result) (rows_in l))) (part_to_end (row_width * a.channels) a.rows.now)
    ∙ ap (λ (w : RowWords). joined a.format (row_as w) (plan_from a.format a.channels 0 (row_as w) (rows_in (drop (row_width * a.channels) a.rows.now)))) c.first_row-first.ensures)

-- the first entry
entered_at : (t : ℕ) (c : After-first_blocks-blocks t) → let a = c.args in
    Entered current a.format a.channels a.previous a.rows.now (length a.out.now) c.first_blocks-blocks.result
entered_at t c =
    let blocks_at : let a = c.args in let ws = a.rows.now in
    c.joined_blocks-run.result + 1 ≡ suc (joined a.format (row_as (words_at ws 0)) (plan_from a.format a.channels 0 (row_as (words_at ws 0)) (rows_in (drop (row_width * a.channels) ws)))) = let a = c.args in
    add-one c.joined_blocks-run.result ∙ ap suc (c.joined_blocks-run.ensures
    ∙ ap (λ (l : List ℕ). joined a.format (row_as c.first_row-first.result) (plan_from a.format a.channels 0 (row_as c.first_row-first.result) (rows_in l))) (part_to_end (row_width * a.channels) a.rows.now)
    ∙ ap (λ (w : RowWords). joined a.format (row_as w) (plan_from a.format a.channels 0 (row_as w) (rows_in (drop (row_width * a.channels) a.rows.now)))) c.first_row-first.ensures) in
    let a = c.args in
    subst (λ (n : ℕ). Entered current a.format a.channels a.previous a.rows.now (length a.out.now) n) (sym c.first_blocks-blocks.ensures)
    (entered current a.format a.channels a.previous a.rows.now (length a.out.now) c.requires c.if-rows-lt-ROW_WIDTH.false (c.joined_blocks-run.result + 1) (blocks_at))

-- where its frame-blocks end
end-at : (t : ℕ) (c : After-first_blocks-blocks t) → let a = c.args in let w = row_width * a.channels in
    (w ≤ w * c.first_blocks-blocks.result) × (w * c.first_blocks-blocks.result ≤ length a.rows.now)
end-at t c =
    let blocks_at : let a = c.args in let ws = a.rows.now in
    c.joined_blocks-run.result + 1 ≡ suc (joined a.format (row_as (words_at ws 0)) (plan_from a.format a.channels 0 (row_as (words_at ws 0)) (rows_in (drop (row_width * a.channels) ws)))) = let a = c.args in
    add-one c.joined_blocks-run.result ∙ ap suc (c.joined_blocks-run.ensures
    ∙ ap (λ (l : List ℕ). joined a.format (row_as c.first_row-first.result) (plan_from a.format a.channels 0 (row_as c.first_row-first.result) (rows_in l))) (part_to_end (row_width * a.channels) a.rows.now)
    ∙ ap (λ (w : RowWords). joined a.format (row_as w) (plan_from a.format a.channels 0 (row_as w) (rows_in (drop (row_width * a.channels) a.rows.now)))) c.first_row-first.ensures) in
    let entered_at : let a = c.args in
    Entered current a.format a.channels a.previous a.rows.now (length a.out.now) c.first_blocks-blocks.result = let a = c.args in
    subst (λ (n : ℕ). Entered current a.format a.channels a.previous a.rows.now (length a.out.now) n) (sym c.first_blocks-blocks.ensures)
    (entered current a.format a.channels a.previous a.rows.now (length a.out.now) c.requires c.if-rows-lt-ROW_WIDTH.false (c.joined_blocks-run.result + 1) (blocks_at)) in
    let a = c.args in
    (omega (arith, mul-le-mul_left (row_width * a.channels) (entered_at).some), (entered_at).entry.words)

pub returns-then-rows-lt-ROW_WIDTH : goal.returns-then-rows-lt-ROW_WIDTH
returns-then-rows-lt-ROW_WIDTH t c =
    let a = c.args in put_no_run current a.format a.channels a.previous a.rows.now a.out.now c.if-rows-lt-ROW_WIDTH.true

pub overflow_mul-width : goal.overflow_mul-width
overflow_mul-width t c =
    omega (arith, c.requires.channels)

pub offset_bounds-rows-width : goal.offset_bounds-rows-width
offset_bounds-rows-width t c =
    omega (arith, c.requires.channels)

pub slice_bounds-joined_blocks-count : goal.slice_bounds-joined_blocks-count
slice_bounds-joined_blocks-count t c =
    words-at t (goal.at.slice_bounds-joined_blocks-count t c).Else-rows-lt-ROW_WIDTH

pub slice_bounds-joined_blocks-start : goal.slice_bounds-joined_blocks-start
slice_bounds-joined_blocks-start t c =
    omega (arith, words-at t (goal.at.slice_bounds-joined_blocks-start t c).Else-rows-lt-ROW_WIDTH)

pub joined_blocks-run-requires : goal.joined_blocks-run-requires
joined_blocks-run-requires t c =
    let a = c.args in
    rw (part_to_end (row_width * a.channels) a.rows.now) (subst (λ (w : RowWords). RunRoom a.format a.channels (row_as w) (drop (row_width * a.channels) a.rows.now)) (sym c.first_row-first.ensures)
    (first_run current a.format a.channels a.previous a.rows.now (length a.out.now) c.requires c.if-rows-lt-ROW_WIDTH.false))

pub overflow_add-run : goal.overflow_add-run
overflow_add-run t c =
    let a = c.args in
    omega (arith, few_blocks current a.format a.channels a.previous a.rows.now (length a.out.now) c.requires c.if-rows-lt-ROW_WIDTH.false (c.joined_blocks-run.result + 1) (blocks_at t c))

pub overflow_mul-end : goal.overflow_mul-end
overflow_mul-end t c =
    omega (arith, (end-at t c).1)

pub overflow_sub-more : goal.overflow_sub-more
overflow_sub-more t c =
    (end-at t c).1

pub put_entry-requires : goal.put_entry-requires
put_entry-requires t c =
    (entered_at t (goal.at.put_entry-requires t c).After-first_blocks-blocks).entry

pub overflow_sub-last : goal.overflow_sub-last
overflow_sub-last t c =
    (end-at t (goal.at.overflow_sub-last t c).After-first_blocks-blocks).0

pub offset_bounds-rows-end : goal.offset_bounds-rows-end
offset_bounds-rows-end t c =
    omega (arith, (end-at t (goal.at.offset_bounds-rows-end t c).After-first_blocks-blocks).1)

pub bounds-rows-end : goal.bounds-rows-end
bounds-rows-end t c =
    omega (arith, end-at t (goal.at.bounds-rows-end t c).After-first_blocks-blocks, c.requires.some)

pub offset_bounds-rows-end-2 : goal.offset_bounds-rows-end-2
offset_bounds-rows-end-2 t c =
    omega (arith, (end-at t (goal.at.offset_bounds-rows-end-2 t c).After-first_blocks-blocks).1)

pub slice_bounds-put_table-count : goal.slice_bounds-put_table-count
slice_bounds-put_table-count t c =
    (end-at t (goal.at.slice_bounds-put_table-count t c).After-first_blocks-blocks).1

pub slice_bounds-put_table-start : goal.slice_bounds-put_table-start
slice_bounds-put_table-start t c =
    omega (arith, (end-at t (goal.at.slice_bounds-put_table-start t c).After-first_blocks-blocks).1)

pub slice_bounds-put_table-count-2 : goal.slice_bounds-put_table-count-2
slice_bounds-put_table-count-2 t c =
    omega (arith, (entered_at t (goal.at.slice_bounds-put_table-count-2 t c).After-first_blocks-blocks).entry.room, c.put_entry.auto.out, c.entry_size-size.ensures)

pub slice_bounds-put_table-start-2 : goal.slice_bounds-put_table-start-2
slice_bounds-put_table-start-2 t c =
    omega (arith, (entered_at t (goal.at.slice_bounds-put_table-start-2 t c).After-first_blocks-blocks).entry.room, c.put_entry.auto.out, c.entry_size-size.ensures)

pub put_table-requires : goal.put_table-requires
put_table-requires t c =
    let a = c.args in
    let n = c.first_blocks-blocks.result in (
      rw (part_to_end (row_width * a.channels * n) a.rows.now, length-drop) (omega (arith, c.requires.some, end-at t (goal.at.put_table-requires t c).After-first_blocks-blocks)),
      rw (part_length c.put_entry.new.out a.out.now c.entry_size-size.result c.put_entry.auto.out, part_to_end (row_width * a.channels * n) a.rows.now, c.entry_size-size.ensures) (entered_at t (goal.at.put_table-requires t c).After-first_blocks-blocks).rest,
    )

pub returns : goal.returns
returns t c =
    let a = c.args in
    let n = c.first_blocks-blocks.result in
    let m = c.put_entry.new.out in
    let s = c.entry_size-size.result in
    put_run current a.format a.channels a.previous a.rows.now a.out.now n (length a.out.now) (entered_at t (goal.at.returns t c).After-first_blocks-blocks) c.requires.some m c.put_entry.ensures s c.entry_size-size.ensures _
    (c.put_table.ensures ∙ ap (λ (l : List ℕ). over (plan_bytes a.format (in_entries (plan_from a.format a.channels 0 (timed (get_or a.rows.now (row_width * a.channels * n - row_width * a.channels) 0)) (rows_in l)))) (take (length m - s) (drop s m))) (part_to_end (row_width * a.channels * n) a.rows.now))
