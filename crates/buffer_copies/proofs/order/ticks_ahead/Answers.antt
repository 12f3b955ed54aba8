use Rattle.buffer_copies.specs.Pairs.{ahead}
use Rattle.buffer_copies.proofs.order.ticks_ahead.Goals as goal

pub returns : goal.returns
unfolding ahead
returns c =
    simp (← c.difference.ensures)
