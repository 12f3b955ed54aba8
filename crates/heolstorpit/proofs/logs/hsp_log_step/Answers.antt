use Rattle.heolstorpit.proofs.LogOutcomeLaws.{steps_same}
use borrow.Author.Rules.{rules}
use Rattle.heolstorpit.proofs.logs.hsp_log_step.Goals as goal

pub returns : goal.returns
returns c =
    steps_same _ _ _ _ c.stepped_fields-fields.ensures c.step-stepped.ensures
