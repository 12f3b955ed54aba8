use Rattle.std.proofs.Common.{◌≤◌, mul-le-mul_left, arith}
use Rattle.formats.proofs.FormatLaws.{max_step, step_fine}
use Rattle.read_rows.proofs.rows.origin.Goals as goal

pub overflow_mul-skipped : goal.overflow_mul-skipped
overflow_mul-skipped c =
    let s : c.step_of.result ≤ max_step = omega (arith, c.step_of.ensures, (step_fine c.args.format).small) in
    omega (arith, mul-le-mul_left c.gap.result s, c.gap.ensures.1)

pub returns : goal.returns
returns c =
    let e = c.gap.ensures.0 in
    (simp (c.difference.ensures, e, c.step_of.ensures), rw e at c.gap.ensures.1)
