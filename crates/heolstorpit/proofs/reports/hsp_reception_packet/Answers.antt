use Rattle.heolstorpit.proofs.OutcomeLaws.{receives_same}
use borrow.Author.Rules.{rules}
use Rattle.heolstorpit.proofs.reports.hsp_reception_packet.Goals as goal

pub returns : goal.returns
returns c =
    receives_same _ _ _ _ c.received_fields-fields.ensures c.packet-received.ensures
