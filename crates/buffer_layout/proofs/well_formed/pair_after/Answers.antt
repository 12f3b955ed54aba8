use mathlib.Core.Path.{◌∙◌}
use Rattle.buffer_layout.proofs.CheckLaws.{after_is}
use Rattle.buffer_layout.proofs.well_formed.pair_after.Goals as goal

pub returns : goal.returns
returns c = c.is_gt.ensures ∙ after_is c.side_of.result _ c.side_of.ensures
