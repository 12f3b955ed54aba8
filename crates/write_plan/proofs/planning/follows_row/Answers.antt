use borrow.Author.Tests.{eq-eqb, ne_eqb}
use Rattle.write_plan.proofs.planning.follows_row.Goals as goal

pub returns-then-tag_channel-c : goal.returns-then-tag_channel-c
returns-then-tag_channel-c c =
    simp (← c.tag_channel.ensures.0, ne_eqb _ _ c.if-tag_channel-c.true)

pub returns-then-c-eq0 : goal.returns-then-c-eq0
returns-then-c-eq0 c =
    simp (← c.tag_channel.ensures.0, eq-eqb _ _ c.if-tag_channel-c.false, eq-eqb _ _ c.if-c-eq0.true, ← c.starts_block.ensures)

pub returns-else-c-eq0 : goal.returns-else-c-eq0
returns-else-c-eq0 c =
    simp (← c.tag_channel.ensures.0, eq-eqb _ _ c.if-tag_channel-c.false, ne_eqb _ _ c.if-c-eq0.false, ← c.continues_block.ensures)
