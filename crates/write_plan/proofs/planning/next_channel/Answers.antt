use Rattle.write_plan.specs.Plans.{next_channel}
use borrow.Author.Tests.{eq-eqb, ne_eqb}
use Rattle.write_plan.proofs.planning.next_channel.Goals as goal

pub returns-then-c-channels : goal.returns-then-c-channels
unfolding next_channel
returns-then-c-channels c =
    simp (eq-eqb _ _ c.if-c-channels.true)

pub returns-else-c-channels : goal.returns-else-c-channels
unfolding next_channel
returns-else-c-channels c =
    simp (ne_eqb _ _ c.if-c-channels.false)
