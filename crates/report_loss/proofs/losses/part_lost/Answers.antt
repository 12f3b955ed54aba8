use Rattle.std.proofs.Common.{sym, ◌∙◌}
use Rattle.report_loss.proofs.SignedLaws.{same}
use Rattle.report_loss.proofs.ReportLaws.{none_lost, none_due, part_lost}
use Rattle.report_loss.proofs.losses.part_lost.Goals.{then-lost-le0-via-then-lost-le0, then-lost-le0-via-else-lost-le0+then-due-le0}
use Rattle.report_loss.proofs.losses.part_lost.Goals as goal

pub returns-then-lost-le0 : goal.returns-then-lost-le0
returns-then-lost-le0 c =
    elim c.then-lost-le0.branch [
      | then-lost-le0-via-then-lost-le0 w ↦ sym (none_lost c.args.lost c.args.due (rw (same c.args.lost c.ranges.lost) at w.if-lost-le0.true))
      | then-lost-le0-via-else-lost-le0+then-due-le0 w ↦ sym (none_due c.args.lost c.args.due (rw (same c.args.lost c.ranges.lost) at w.if-lost-le0.false) (rw (same c.args.due c.ranges.due) at w.if-due-le0.true))
    ]

pub returns : goal.returns
returns c =
    (rw (c.unsigned_abs.ensures.value, c.unsigned_abs-2.ensures.value, same c.args.lost c.ranges.lost, same c.args.due c.ranges.due) at c.min.ensures)
    ∙ sym (part_lost c.args.lost c.args.due (rw (same c.args.lost c.ranges.lost) at c.if-lost-le0.false) (rw (same c.args.due c.ranges.due) at c.if-due-le0.false))
