use Rattle.std.specs.Prelude.{Option}
use Rattle.rtp.specs.Editions.{current}
use Rattle.formats.specs.Formats.{step_of}
use Rattle.write_plan.specs.Plans.{gap_between}
use Rattle.write_plan.specs.Room.{attach_plan}
use Rattle.write_plan.specs.declared.planning.Plan.{Plan}
use Rattle.write_plan.specs.declared.lists.RowWords.{RowWords}
use mathlib.Core.List.{List}
use mathlib.Core.Path.{◌≡◌, ap, subst, sym, ◌∙◌}
use native.Mathlib.Omega.{arith}
use Rattle.rtp.specs.Sizes.{row_width, max_rows}
use Rattle.rtp.proofs.AreaLaws.{part_to_end}
use Rattle.write_plan.specs.Lists.{rows_in}
use Rattle.write_plan.specs.Plans.{plan_from, next_channel, follows}
use Rattle.write_plan.specs.Room.{row_as, words_at, plan_answer, Small}
use Rattle.write_plan.proofs.ListLaws.{length_rows}
use Rattle.write_plan.proofs.PlanLaws.{plan_empty, plan_cut, plan_stop, plan_start, plan_go, small_plan, small_weaker, follows_short, next_below}
use lib.ListN.{length, drop, length-drop}
use Prim.Native.Nat.{ℕ, ◌<◌, ◌≤◌}
use Rattle.write_plan.proofs.planning.+plan_from.Goals.{After-follows_row, After-plan_from-rest}
use Rattle.write_plan.proofs.planning.+plan_from.Goals as goal

-- the row, as the list has it, and what follows
row_is : (t : ℕ) (c : After-follows_row t) → follows c.args.format c.args.c (row_as c.args.previous) (row_as (words_at c.args.rows.now 0)) ≡ c.follows_row.result
row_is t c =
    let a = c.args in sym (c.follows_row.ensures ∙ ap (λ (w : RowWords). follows a.format a.c (row_as a.previous) (row_as w)) c.first_row-row.ensures)

rest_at : (t : ℕ) (c : After-plan_from-rest t) → let a = c.args in
    c.plan_from-rest.result ≡ plan_answer a.format a.channels (plan_from a.format a.channels (next_channel a.channels a.c) (row_as (words_at a.rows.now 0)) (rows_in (drop row_width a.rows.now)))
rest_at t c =
    let a = c.args in
    c.plan_from-rest.ensures
    ∙ ap (λ (l : List ℕ). plan_answer a.format a.channels (plan_from a.format a.channels c.next_channel-next.result (row_as c.first_row-row.result) (rows_in l))) (part_to_end row_width a.rows.now)
    ∙ ap (λ (n : ℕ). plan_answer a.format a.channels (plan_from a.format a.channels n (row_as c.first_row-row.result) (rows_in (drop row_width a.rows.now)))) c.next_channel-next.ensures
    ∙ ap (λ (w : RowWords). plan_answer a.format a.channels (plan_from a.format a.channels (next_channel a.channels a.c) (row_as w) (rows_in (drop row_width a.rows.now)))) c.first_row-row.ensures

small_at : (t : ℕ) (c : After-plan_from-rest t) → Small c.args.format c.args.channels (max_rows current) c.plan_from-rest.result
small_at t c =
    let rest_at : let a = c.args in
    c.plan_from-rest.result ≡ plan_answer a.format a.channels (plan_from a.format a.channels (next_channel a.channels a.c) (row_as (words_at a.rows.now 0)) (rows_in (drop row_width a.rows.now))) = let a = c.args in
    c.plan_from-rest.ensures
    ∙ ap (λ (l : List ℕ). plan_answer a.format a.channels (plan_from a.format a.channels c.next_channel-next.result (row_as c.first_row-row.result) (rows_in l))) (part_to_end row_width a.rows.now)
    ∙ ap (λ (n : ℕ). plan_answer a.format a.channels (plan_from a.format a.channels n (row_as c.first_row-row.result) (rows_in (drop row_width a.rows.now)))) c.next_channel-next.ensures
    ∙ ap (λ (w : RowWords). plan_answer a.format a.channels (plan_from a.format a.channels (next_channel a.channels a.c) (row_as w) (rows_in (drop row_width a.rows.now)))) c.first_row-row.ensures in
    let a = c.args in
    let ws = drop row_width a.rows.now in
    subst (λ (x : Option (Option Plan)). Small a.format a.channels (max_rows current) x) (sym (rest_at))
    (small_weaker a.format a.channels (length (rows_in ws)) (max_rows current) (plan_answer a.format a.channels (plan_from a.format a.channels (next_channel a.channels a.c) (row_as (words_at a.rows.now 0)) (rows_in ws))) (omega (arith, length_rows ws, length-drop row_width a.rows.now, c.requires.2)) (small_plan a.format a.channels (next_channel a.channels a.c) (row_as (words_at a.rows.now 0)) (rows_in ws)))

pub returns-then-c-eq0 : goal.returns-then-c-eq0
returns-then-c-eq0 t c =
    let a = c.args in sym (plan_empty a.format a.channels a.c (row_as a.previous) a.rows.now c.if-rows-lt-ROW_WIDTH.true c.if-c-eq0.true)

pub returns-else-c-eq0 : goal.returns-else-c-eq0
returns-else-c-eq0 t c =
    let a = c.args in sym (plan_cut a.format a.channels a.c (row_as a.previous) a.rows.now c.if-rows-lt-ROW_WIDTH.true c.if-c-eq0.false)

pub returns-then-not-follows_row : goal.returns-then-not-follows_row
returns-then-not-follows_row t c =
    let a = c.args in sym (plan_stop a.format a.channels a.c (row_as a.previous) a.rows.now c.if-rows-lt-ROW_WIDTH.false (row_is t (goal.at.returns-then-not-follows_row t c).After-follows_row ∙ c.if-not-follows_row.true))

pub plan_from-rest-requires : goal.plan_from-rest-requires
plan_from-rest-requires t c =
    let a = c.args in
    let q = part_to_end row_width a.rows.now in
    (rw (q, length-drop) (omega (arith, c.if-rows-lt-ROW_WIDTH.false)), (c.requires.0, subst (λ (n : ℕ). n < a.channels) (sym c.next_channel-next.ensures) (next_below a.channels a.c c.requires.1), rw (q, length-drop) (omega (arith, c.requires.2))))

pub attach_block-requires : goal.attach_block-requires
attach_block-requires t c =
    let a = c.args in
    let at = goal.at.attach_block-requires t c in
    record {
      channels = c.requires.0;
      short = subst (λ (w : RowWords). (row_as w).length ≤ 320) (sym c.first_row-row.ensures) (follows_short a.format a.c (row_as a.previous) (row_as (words_at a.rows.now 0)) c.if-c-ne0.false (row_is t at.After-follows_row ∙ c.if-not-follows_row.false));
      small = small_at t at.After-plan_from-rest;
    }

pub returns-then-c-ne0 : goal.returns-then-c-ne0
returns-then-c-ne0 t c =
    let a = c.args in
    let at = goal.at.returns-then-c-ne0 t c in
    rest_at t at.After-plan_from-rest ∙ sym (plan_go a.format a.channels a.c (row_as a.previous) a.rows.now c.if-rows-lt-ROW_WIDTH.false (row_is t at.After-follows_row ∙ c.if-not-follows_row.false) c.if-c-ne0.true)

pub returns : goal.returns
returns t c =
    let a = c.args in
    let at = goal.at.returns t c in
    c.attach_block.ensures
    ∙ ap (λ (g : ℕ). attach_plan a.format a.channels (row_as c.first_row-row.result) g c.plan_from-rest.result) c.gap_between-gap.ensures
    ∙ ap (λ (w : RowWords). attach_plan a.format a.channels (row_as w) (gap_between (step_of a.format) a.previous.time w.time) c.plan_from-rest.result) c.first_row-row.ensures
    ∙ ap (attach_plan a.format a.channels (row_as (words_at a.rows.now 0)) _) (rest_at t at.After-plan_from-rest)
    ∙ sym (plan_start a.format a.channels a.c (row_as a.previous) a.rows.now c.if-rows-lt-ROW_WIDTH.false (row_is t at.After-follows_row ∙ c.if-not-follows_row.false) c.if-c-ne0.false)
