use Rattle.std.proofs.Common.{sym, refl, ◌∙◌, arith}
use Rattle.rtp.proofs.ByteLaws.{read_four_outside, rest_four, rest_four_short}
use Rattle.rtp.proofs.bytes.read_u32.Goals as goal

pub returns-then-s-at : goal.returns-then-s-at
returns-then-s-at c =
    sym (read_four_outside _ _ (omega (arith, c.if-s-at.true)))

pub returns-in_default : goal.returns-in_default
returns-in_default c =
    rest_four_short _ _ _ refl c.in_default.len_below

pub returns-in-len4-up : goal.returns-in-len4-up
returns-in-len4-up c =
    c.from_be_bytes.ensures ∙ rest_four _ _ _ refl c.in-len4-up.len_at_least
