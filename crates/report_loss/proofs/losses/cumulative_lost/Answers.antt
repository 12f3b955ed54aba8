use Rattle.std.proofs.Common.{ap, ◌∙◌}
use Rattle.report_loss.specs.Report.{held, cumulative_lost}
use Rattle.report_loss.proofs.SignedLaws.{same}
use Rattle.report_loss.proofs.losses.cumulative_lost.Goals as goal

pub returns : goal.returns
unfolding cumulative_lost
returns c =
    rw (← c.expected_so_far.ensures, ← c.difference-lost.ensures, ← c.as_signed.ensures) (same c.hold.result (record { sfits = c.hold.type_inv }) ∙ c.hold.ensures ∙ ap held (same c.as_signed.result (record { sfits = c.as_signed.type_inv })))
