use mathlib.Core.Path.{ap}
use mathlib.Core.Bool.{not}
use borrow.Author.Tests.{eq-eqb, ne_eqb}
use Rattle.buffer_offer.proofs.judging.is_late.Goals as goal

pub returns-then-buffer-eq1 : goal.returns-then-buffer-eq1
returns-then-buffer-eq1 c =
    rw (eq-eqb _ _ c.if-buffer-eq1.true, ← c.tag_channel-channel.ensures.0) (ap not c.pair_after.ensures)

pub returns-else-buffer-eq1 : goal.returns-else-buffer-eq1
returns-else-buffer-eq1 c =
    rw (ne_eqb _ _ c.if-buffer-eq1.false)
