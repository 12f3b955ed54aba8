use Rattle.heolstorpit.proofs.SizeLaws.{payload_count_fits}
use native.Mathlib.Omega.{arith}
use mathlib.Core.Path.{◌∙◌}
use borrow.Author.Rules.{rules}
use Rattle.heolstorpit.proofs.writing.hsp_write_payload.Goals as goal

pub overflow_cast-result : goal.overflow_cast-result
overflow_cast-result c =
    omega (arith, payload_count_fits _ _ _ _ _ _ (c.written_fields-fields.ensures ∙ c.write_payload-answer.ensures.0))

pub returns : goal.returns
returns c =
    (c.written_fields-fields.ensures ∙ c.write_payload-answer.ensures.0, c.write_payload-answer.ensures.1)
