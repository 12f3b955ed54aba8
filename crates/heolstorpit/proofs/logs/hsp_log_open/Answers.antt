use Rattle.heolstorpit.proofs.LogOutcomeLaws.{opens_same}
use borrow.Author.Rules.{rules}
use Rattle.heolstorpit.proofs.logs.hsp_log_open.Goals as goal

pub returns : goal.returns
returns c =
    opens_same _ _ _ _ c.opened_number.ensures c.open-opened.ensures
