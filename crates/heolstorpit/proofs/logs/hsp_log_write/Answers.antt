use mathlib.Core.Path.{◌∙◌}
use borrow.Author.Rules.{rules}
use Rattle.heolstorpit.proofs.logs.hsp_log_write.Goals as goal

pub returns : goal.returns
returns c =
    (c.log_written_fields-fields.ensures ∙ c.write-answer.ensures.0, c.write-answer.ensures.1)
