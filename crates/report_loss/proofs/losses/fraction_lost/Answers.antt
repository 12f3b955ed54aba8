use Rattle.report_loss.specs.Report.{expected_since, lost_since, fraction_lost}
use Rattle.report_loss.proofs.SignedLaws.{same}
use Rattle.report_loss.proofs.losses.fraction_lost.Goals as goal

pub returns : goal.returns
unfolding fraction_lost expected_since lost_since
returns c =
    rw (← c.expected_so_far.ensures, ← c.difference-due.ensures, ← c.difference-came.ensures, ← c.difference-lost.ensures, ← c.as_signed.ensures, ← c.as_signed-2.ensures) (rw (same c.as_signed.result (record { sfits = c.as_signed.type_inv }), same c.as_signed-2.result (record { sfits = c.as_signed-2.type_inv })) at c.part_lost.ensures)
