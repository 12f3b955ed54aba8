use Rattle.heolstorpit.proofs.OutcomeLaws.{draws_same}
use borrow.Author.Rules.{rules}
use Rattle.heolstorpit.proofs.buffers.hsp_draw.Goals as goal

pub returns : goal.returns
returns c =
    draws_same _ _ _ _ _ c.draw_fields-fields.ensures c.draw-drawn.ensures
