use lib.ListN.{length}
use Rattle.write_plan.proofs.planning.+plan_from.Given as goal

abbrev pub decreases-plan_from : goal.decreases-plan_from
decreases-plan_from l = length l.rows.now
