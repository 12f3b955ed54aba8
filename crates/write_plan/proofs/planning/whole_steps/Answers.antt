use native.Mathlib.Omega.{arith}
use Rattle.formats.proofs.FormatLaws.{step_fine}
use Rattle.write_plan.proofs.planning.whole_steps.Goals as goal

pub nonzero_rem-result : goal.nonzero_rem-result
nonzero_rem-result c =
    omega (arith, c.step_of.ensures, (step_fine c.args.format).some)

pub returns : goal.returns
returns c =
    simp c.step_of.ensures
