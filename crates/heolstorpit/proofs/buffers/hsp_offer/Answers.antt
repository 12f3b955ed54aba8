use Rattle.heolstorpit.proofs.OutcomeLaws.{offers_same}
use Rattle.heolstorpit.proofs.PlaceLaws.{offer_place_fits}
use native.Mathlib.Omega.{arith}
use borrow.Author.Rules.{rules}
use Rattle.heolstorpit.proofs.buffers.hsp_offer.Goals as goal

pub overflow_cast-result : goal.overflow_cast-result
overflow_cast-result c =
    omega (arith, offer_place_fits _ _ _ _ _ _ _ _ (offers_same _ _ _ _ _ _ c.offer_fields-fields.ensures c.offer-offered.ensures))

pub returns : goal.returns
returns c =
    offers_same _ _ _ _ _ _ c.offer_fields-fields.ensures c.offer-offered.ensures
