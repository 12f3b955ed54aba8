use Rattle.write_plan.specs.Plans.{ticks_after}
use Rattle.write_plan.proofs.planning.ticks_after.Goals as goal

pub returns : goal.returns
unfolding ticks_after
returns c =
    simp (← c.step_of.ensures, ← c.difference-back.ensures, ← c.difference.ensures)
