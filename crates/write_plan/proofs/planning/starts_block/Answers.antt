use Rattle.write_plan.proofs.planning.starts_block.Goals as goal

pub returns-then-has_code : goal.returns-then-has_code
returns-then-has_code c =
    simp (← c.tag_class.ensures, ← c.has_code.ensures, c.if-has_code.true, ← c.ticks_after.ensures, ← c.whole_steps.ensures)

pub returns-else-has_code : goal.returns-else-has_code
returns-else-has_code c =
    simp (← c.tag_class.ensures, ← c.has_code.ensures, c.if-has_code.false)
