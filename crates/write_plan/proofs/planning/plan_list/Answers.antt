use mathlib.Core.Path.{◌≡◌, ap, subst, sym, ◌∙◌}
use Rattle.std.specs.Prelude.{None, Option, Some}
use Prim.Native.Nat.{ℕ, ◌+◌, ◌*◌, ◌≤◌}
use lib.ListN.{length}
use native.Mathlib.Omega.{arith}
use borrow.Author.Tests.{lt-ltb, le-ltb}
use Rattle.rtp.specs.Editions.{current}
use Rattle.rtp.specs.Sizes.{max_rows}
use Rattle.rtp.specs.Time.{difference}
use Rattle.formats.specs.Formats.{format_of}
use Rattle.write_plan.specs.declared.lists.RowWords.{RowWords}
use Rattle.write_plan.specs.Lists.{rows_in}
use Rattle.write_plan.specs.Plans.{max_payload, plan_from, plan, step_before}
use Rattle.write_plan.specs.declared.planning.Plan.{Plan}
use Rattle.write_plan.specs.Room.{row_as, words_at, plan_answer, Small, list_answer}
use Rattle.write_plan.proofs.ListLaws.{length_rows}
use Rattle.write_plan.proofs.PlanLaws.{fitting_plan, no_channels_plan, list_none, list_many, list_answer_lem, small_plan, small_weaker, plan_frames}
use Rattle.write_plan.proofs.BlockLaws.{never_empty}
use Rattle.write_plan.proofs.NumberLaws.{list_has}
use Rattle.write_plan.proofs.planning.plan_list.Goals.{After-plan_from}
use Rattle.write_plan.proofs.planning.plan_list.Goals as goal

-- the plan of the rows, as it was made and as the list has it
made_at : (c : After-plan_from) → let a = c.args in
    c.plan_from.result ≡ plan_answer a.format a.channels (plan_from a.format a.channels 0 (step_before a.format (row_as (words_at a.rows.now 0))) (rows_in a.rows.now))
made_at c =
    let a = c.args in
    c.plan_from.ensures
    ∙ ap (λ (t : ℕ). plan_answer a.format a.channels (plan_from a.format a.channels 0 (row_as (record { time = t; tag = c.first_row-first.result.tag; start = c.first_row-first.result.start; length = c.first_row-first.result.length })) (rows_in a.rows.now)))
    (c.difference-time.ensures ∙ ap (difference c.first_row-first.result.time) c.step_of.ensures)
    ∙ ap (λ (w : RowWords). plan_answer a.format a.channels (plan_from a.format a.channels 0 (step_before a.format (row_as w)) (rows_in a.rows.now))) c.first_row-first.ensures

-- its numbers are small
small_at : (c : After-plan_from) → (p : Plan) → c.plan_from.result ≡ Some (Some p)
    → p.run + p.others + p.frames ≤ max_rows current * 90000
small_at c p e =
    let made_at : let a = c.args in
    c.plan_from.result ≡ plan_answer a.format a.channels (plan_from a.format a.channels 0 (step_before a.format (row_as (words_at a.rows.now 0))) (rows_in a.rows.now)) = let a = c.args in
    c.plan_from.ensures
    ∙ ap (λ (t : ℕ). plan_answer a.format a.channels (plan_from a.format a.channels 0 (row_as (record { time = t; tag = c.first_row-first.result.tag; start = c.first_row-first.result.start; length = c.first_row-first.result.length })) (rows_in a.rows.now)))
    (c.difference-time.ensures ∙ ap (difference c.first_row-first.result.time) c.step_of.ensures)
    ∙ ap (λ (w : RowWords). plan_answer a.format a.channels (plan_from a.format a.channels 0 (step_before a.format (row_as w)) (rows_in a.rows.now))) c.first_row-first.ensures in
    let a = c.args in
    let s = small_weaker a.format a.channels (length (rows_in a.rows.now)) (max_rows current) (Some (Some p)) (omega (arith, length_rows a.rows.now, c.if-rows-gt-MAX_ROWS.false))
    (subst (λ (x : Option (Option Plan)). Small a.format a.channels (length (rows_in a.rows.now)) x) (sym (made_at) ∙ e) (small_plan a.format a.channels 0 (step_before a.format (row_as (words_at a.rows.now 0))) (rows_in a.rows.now))) in
    omega (arith, s.tabled, plan_frames a.format a.channels p s (omega arith))

answer_at : (c : After-plan_from) → let a = c.args in list_answer a.format a.channels (plan current a.format a.channels (rows_in a.rows.now)) ≡ fitting_plan a.format c.plan_from.result
answer_at c =
    let made_at : let a = c.args in
    c.plan_from.result ≡ plan_answer a.format a.channels (plan_from a.format a.channels 0 (step_before a.format (row_as (words_at a.rows.now 0))) (rows_in a.rows.now)) = let a = c.args in
    c.plan_from.ensures
    ∙ ap (λ (t : ℕ). plan_answer a.format a.channels (plan_from a.format a.channels 0 (row_as (record { time = t; tag = c.first_row-first.result.tag; start = c.first_row-first.result.start; length = c.first_row-first.result.length })) (rows_in a.rows.now)))
    (c.difference-time.ensures ∙ ap (difference c.first_row-first.result.time) c.step_of.ensures)
    ∙ ap (λ (w : RowWords). plan_answer a.format a.channels (plan_from a.format a.channels 0 (step_before a.format (row_as w)) (rows_in a.rows.now))) c.first_row-first.ensures in
    let a = c.args in list_answer_lem current a.format a.channels a.rows.now c.if-rows-lt-ROW_WIDTH.false (omega (arith, c.if-rows-gt-MAX_ROWS.false)) c.plan_from.result (made_at)

pub returns-then-channels-eq0 : goal.returns-then-channels-eq0
returns-then-channels-eq0 c =
    let a = c.args in list_has _ _ _ _ (sym (no_channels_plan current a.format a.channels (rows_in a.rows.now) c.if-channels-eq0.true))

pub returns-then-rows-lt-ROW_WIDTH : goal.returns-then-rows-lt-ROW_WIDTH
returns-then-rows-lt-ROW_WIDTH c =
    let a = c.args in list_has _ _ _ _ (sym (list_none current a.format a.channels a.rows.now c.if-rows-lt-ROW_WIDTH.true))

pub returns-then-rows-gt-MAX_ROWS : goal.returns-then-rows-gt-MAX_ROWS
returns-then-rows-gt-MAX_ROWS c =
    let a = c.args in list_has _ _ _ _ (sym (list_many current a.format a.channels a.rows.now c.if-rows-lt-ROW_WIDTH.false c.if-rows-gt-MAX_ROWS.true))

pub overflow_add-table : goal.overflow_add-table
overflow_add-table c =
    omega (arith, small_at (goal.at.overflow_add-table c).After-plan_from c.in_ok-plan.plan (c.in_ok-plan_from.was ∙ ap Some c.in_ok-plan.was))

pub payload_size-payload-requires : goal.payload_size-payload-requires
payload_size-payload-requires c =
    omega (arith, small_at (goal.at.payload_size-payload-requires c).After-plan_from c.in_ok-plan.plan (c.in_ok-plan_from.was ∙ ap Some c.in_ok-plan.was))

pub returns-then-payload-gt-MAX_PAYLOAD : goal.returns-then-payload-gt-MAX_PAYLOAD
returns-then-payload-gt-MAX_PAYLOAD c =
    let f = c.args.format in
    let p = c.in_ok-plan.plan in
    list_has _ _ None _
    (sym (answer_at (goal.at.returns-then-payload-gt-MAX_PAYLOAD c).After-plan_from ∙ ap (fitting_plan f) (c.in_ok-plan_from.was ∙ ap Some c.in_ok-plan.was)
    ∙ rw (lt-ltb max_payload ((format_of f).header + (p.run + p.others) + p.frames) (omega (arith, c.if-payload-gt-MAX_PAYLOAD.true, c.payload_size-payload.ensures)))))

pub returns : goal.returns
returns c =
    let f = c.args.format in
    let p = c.in_ok-plan.plan in
    list_has _ _ (Some (record { table = p.run + p.others; payload = c.payload_size-payload.result })) _
    (sym (answer_at (goal.at.returns c).After-plan_from ∙ ap (fitting_plan f) (c.in_ok-plan_from.was ∙ ap Some c.in_ok-plan.was)
    ∙ rw (le-ltb max_payload ((format_of f).header + (p.run + p.others) + p.frames) (omega (arith, c.if-payload-gt-MAX_PAYLOAD.false, c.payload_size-payload.ensures)), c.payload_size-payload.ensures)))

pub returns-in_err-plan : goal.returns-in_err-plan
returns-in_err-plan c =
    let a = c.args in absurd (never_empty a.format a.channels _ a.rows.now (omega (arith, c.if-channels-eq0.false)) c.if-rows-lt-ROW_WIDTH.false (sym (made_at (goal.at.returns-in_err-plan c).After-plan_from) ∙ (c.in_ok-plan_from.was ∙ ap Some c.in_err-plan.was)))

pub returns-in_err-plan_from : goal.returns-in_err-plan_from
returns-in_err-plan_from c =
    list_has _ _ _ _ (c.from_residual.ensures ∙ sym (answer_at (goal.at.returns-in_err-plan_from c).After-plan_from ∙ ap (fitting_plan c.args.format) c.in_err-plan_from.was))
