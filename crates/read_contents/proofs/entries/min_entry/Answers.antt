use Rattle.read_contents.specs.Contents.{min_entry}
use Rattle.read_contents.proofs.entries.min_entry.Goals as goal

pub returns-then-format_of : goal.returns-then-format_of
unfolding min_entry
returns-then-format_of c =
    simp (← c.format_of.ensures, c.if-format_of.true)

pub returns : goal.returns
unfolding min_entry
returns c =
    simp (← c.format_of.ensures, c.if-format_of.false)
