use mathlib.Core.Path.{◌∙◌}
use Rattle.buffer_columns.proofs.BoundLaws.{used_min}
use Rattle.buffer_columns.proofs.columns.used.Goals as goal

pub returns : goal.returns
returns c = c.min.ensures ∙ used_min c.args.n
