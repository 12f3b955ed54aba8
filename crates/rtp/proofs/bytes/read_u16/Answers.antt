use Rattle.std.proofs.Common.{sym, refl, ◌∙◌, arith}
use Rattle.rtp.proofs.ByteLaws.{read_two_outside, rest_two, rest_two_short}
use Rattle.rtp.proofs.bytes.read_u16.Goals as goal

pub returns-then-s-at : goal.returns-then-s-at
returns-then-s-at c =
    sym (read_two_outside _ _ (omega (arith, c.if-s-at.true)))

pub returns-in_default : goal.returns-in_default
returns-in_default c =
    rest_two_short _ _ _ refl c.in_default.len_below

pub returns-in-len2-up : goal.returns-in-len2-up
returns-in-len2-up c =
    c.from_be_bytes.ensures ∙ rest_two _ _ _ refl c.in-len2-up.len_at_least
