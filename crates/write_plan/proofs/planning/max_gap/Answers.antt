use Rattle.formats.specs.Formats.{max_gap}
use Rattle.write_plan.proofs.planning.max_gap.Goals as goal

pub returns-then-format_of : goal.returns-then-format_of
unfolding max_gap
returns-then-format_of c =
    simp (← c.format_of.ensures, c.if-format_of.true)

pub returns-else-format_of : goal.returns-else-format_of
unfolding max_gap
returns-else-format_of c =
    simp (← c.format_of.ensures, c.if-format_of.false)
