use Rattle.report_loss.proofs.SignedLaws.{same}
use Rattle.heolstorpit.proofs.OutcomeLaws.{reports_same}
use borrow.Author.Rules.{rules}
use Rattle.heolstorpit.proofs.reports.hsp_reception_report.Goals as goal

pub returns : goal.returns
returns c =
    reports_same _ _ _ _ _ c.reported_fields-fields.ensures (same c.reported_fields-fields.result.cumulative_lost (record { sfits = c.struct_told-1.given.1.1.0.1 })) c.report-reported.ensures
