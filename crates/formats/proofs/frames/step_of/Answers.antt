use mathlib.Core.Path.{ap}
use Rattle.formats.specs.declared.facts.Format.{Format}
use Rattle.formats.proofs.frames.step_of.Goals as goal

pub returns : goal.returns
returns c =
    ap (λ (f : Format). f.step) c.format_of.ensures
