use mathlib.Core.Path.{ap, subst, ◌∙◌}
use Rattle.std.specs.Prelude.{Option, Some}
use Prim.Native.Nat.{◌*◌, ◌≤◌, ◌<◌}
use native.Mathlib.Omega.{arith}
use Rattle.rtp.specs.Editions.{current}
use Rattle.rtp.specs.Sizes.{max_rows}
use Rattle.write_plan.specs.declared.planning.Plan.{Plan}
use Rattle.write_plan.specs.Room.{SmallPlan, Small}
use Rattle.write_plan.proofs.PlanLaws.{block_frames, plan_frames}
use borrow.Author.Tests.{le-leb, lt-leb}
use Rattle.formats.specs.Formats.{max_gap}
use Rattle.write_plan.proofs.planning.attach_block.Goals.{In-Some, Then-plan-max_gap, Else-plan-max_gap}
use Rattle.write_plan.proofs.planning.attach_block.Goals as goal

small_at : (c : In-Some) → SmallPlan c.args.format c.args.channels (max_rows current) c.in-Some.plan
small_at c =
    subst (λ (x : Option (Option Plan)). Small c.args.format c.args.channels (max_rows current) x) (c.in_ok-plan.was ∙ ap Some c.in-Some.is) c.requires.small

-- the gap to the next run, against the most that an entry can say
near_at : (c : Then-plan-max_gap) → c.in-Some.plan.gap ≤ max_gap c.args.format
near_at c =
    omega (arith, c.max_gap.ensures, c.if-plan-max_gap.true)

apart-at : (c : Else-plan-max_gap) → max_gap c.args.format < c.in-Some.plan.gap
apart-at c =
    omega (arith, c.max_gap.ensures, c.if-plan-max_gap.false)

pub overflow_mul-frames : goal.overflow_mul-frames
overflow_mul-frames c =
    let here_at : c.args.channels * c.args.row.length ≤ 81600 = block_frames c.args.channels c.args.row.length c.requires.channels c.requires.short in
    omega (arith, here_at)

pub overflow_add-frames : goal.overflow_add-frames
overflow_add-frames c =
    let here_at : c.args.channels * c.args.row.length ≤ 81600 = block_frames c.args.channels c.args.row.length c.requires.channels c.requires.short in
    omega (arith, here_at, plan_frames _ _ _ (small_at (goal.at.overflow_add-frames c).In-Some) c.requires.channels)

pub overflow_add-blocks : goal.overflow_add-blocks
overflow_add-blocks c =
    omega (arith, (small_at (goal.at.overflow_add-blocks c).In-Some).few)

pub overflow_add-others : goal.overflow_add-others
overflow_add-others c =
    omega (arith, (small_at (goal.at.overflow_add-others c).In-Some).tabled)

pub returns-then-joins_run : goal.returns-then-joins_run
returns-then-joins_run c =
    simp (c.in_ok-plan.was, c.in-Some.is, ← c.joins_run.ensures, c.if-joins_run.true, ← c.run_size-run.ensures)

pub returns-in_default : goal.returns-in_default
returns-in_default c =
    simp (c.in_ok-plan.was, c.in_default.is, c.single_block.ensures)

pub returns-then-plan-max_gap : goal.returns-then-plan-max_gap
returns-then-plan-max_gap c =
    simp (c.in_ok-plan.was, c.in-Some.is, c.single_block-then-plan-max_gap.ensures, ← c.joins_run.ensures, c.if-joins_run.false, le-leb _ _ (near_at (goal.at.returns-then-plan-max_gap c).Then-plan-max_gap))

pub returns : goal.returns
returns c =
    simp (c.in_ok-plan.was, c.in-Some.is, ← c.joins_run.ensures, c.if-joins_run.false, lt-leb _ _ (apart-at (goal.at.returns c).Else-plan-max_gap))
