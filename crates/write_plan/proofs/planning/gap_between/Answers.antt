use mathlib.Core.Path.{ap, ◌∙◌}
use Prim.Native.Nat.{ℕ, ◌/◌}
use Rattle.formats.specs.Formats.{step_of}
use Rattle.write_plan.proofs.planning.gap_between.Goals as goal

pub returns : goal.returns
returns c =
    c.in_steps.ensures ∙ ap (λ (n : ℕ). n / step_of c.args.format) c.ticks_after.ensures
