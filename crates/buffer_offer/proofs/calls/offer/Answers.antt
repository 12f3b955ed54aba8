use Rattle.buffer_layout.proofs.MachineLaws.{owned_machine}
use Rattle.buffer_offer.proofs.calls.offer.Goals as goal

pub offer_to-answer-requires : goal.offer_to-answer-requires
offer_to-answer-requires c =
    owned_machine c.args.buffer _ c.well_formed.0
