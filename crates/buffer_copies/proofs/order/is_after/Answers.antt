use Rattle.buffer_copies.specs.Pairs.{after}
use borrow.Author.Tests.{le-ltb, lt-ltb}
use Rattle.buffer_copies.proofs.order.is_after.Goals as goal

pub returns-then-distance-gt0 : goal.returns-then-distance-gt0
unfolding after
returns-then-distance-gt0 c =
    simp (← c.ticks_ahead-distance.ensures, lt-ltb _ _ c.if-distance-gt0.true)

pub returns-else-distance-gt0 : goal.returns-else-distance-gt0
unfolding after
returns-else-distance-gt0 c =
    simp (← c.ticks_ahead-distance.ensures, le-ltb _ _ c.if-distance-gt0.false)
