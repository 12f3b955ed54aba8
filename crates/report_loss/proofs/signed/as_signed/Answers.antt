use Rattle.std.proofs.Common.{◌∙◌}
use Rattle.report_loss.proofs.SignedLaws.{same, signed_bits}
use Rattle.report_loss.proofs.signed.as_signed.Goals as goal

pub returns : goal.returns
returns c =
    same c.cast_signed.result (record { sfits = c.cast_signed.type_inv }) ∙ c.cast_signed.ensures ∙ signed_bits c.args.x
