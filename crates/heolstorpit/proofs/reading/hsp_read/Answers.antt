use Rattle.heolstorpit.proofs.PlaceLaws.{reading_place_fits}
use native.Mathlib.Omega.{arith}
use mathlib.Core.Path.{◌∙◌}
use borrow.Author.Rules.{rules}
use Rattle.heolstorpit.proofs.reading.hsp_read.Goals as goal

pub overflow_cast-result : goal.overflow_cast-result
overflow_cast-result c =
    omega (arith, reading_place_fits _ _ _ _ (c.reading_fields-fields.ensures ∙ c.read-answer.ensures.0))

pub returns : goal.returns
returns c =
    (c.reading_fields-fields.ensures ∙ c.read-answer.ensures.0, c.read-answer.ensures.1)
