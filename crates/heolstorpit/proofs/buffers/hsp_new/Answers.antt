use Rattle.heolstorpit.proofs.OutcomeLaws.{news_same}
use borrow.Author.Rules.{rules}
use Rattle.heolstorpit.proofs.buffers.hsp_new.Goals as goal

pub returns : goal.returns
returns c =
    news_same _ _ _ _ c.new_number.ensures c.new-fresh.ensures
