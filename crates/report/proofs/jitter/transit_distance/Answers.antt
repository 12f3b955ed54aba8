use mathlib.Core.Path.{ap, ◌∙◌}
use lib.IntN.{nat_abs}
use Rattle.report_loss.proofs.SignedLaws.{same}
use Rattle.report.specs.Jitter.{distance}
use Rattle.report.proofs.jitter.transit_distance.Goals as goal

pub returns : goal.returns
unfolding distance
returns c =
    rw (← c.difference.ensures, ← c.as_signed.ensures) (c.size.ensures ∙ ap nat_abs (same c.as_signed.result (record { sfits = c.as_signed.type_inv })))
