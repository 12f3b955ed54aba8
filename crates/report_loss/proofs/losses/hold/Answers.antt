use Rattle.std.proofs.Common.{◌∙◌}
use Rattle.report_loss.proofs.SignedLaws.{same}
use Rattle.report_loss.proofs.ReportLaws.{held_between}
use Rattle.report_loss.proofs.losses.hold.Goals as goal

pub returns : goal.returns
returns c =
    same c.clamp.result (record { sfits = c.clamp.type_inv }) ∙ (rw (same c.args.lost c.ranges.lost) at c.clamp.ensures.value) ∙ held_between c.args.lost
