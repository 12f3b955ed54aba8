use native.Mathlib.Omega.{arith}
use Rattle.formats.proofs.FormatLaws.{step_fine}
use Rattle.write_plan.proofs.planning.in_steps.Goals as goal

pub nonzero_div-result : goal.nonzero_div-result
nonzero_div-result c =
    omega (arith, c.step_of.ensures, (step_fine c.args.format).some)

pub returns : goal.returns
returns c =
    simp c.step_of.ensures
