use Rattle.read_contents.specs.Contents.{gaps_size, entry_size}
use native.Mathlib.Omega.{arith}
use Rattle.read_contents.proofs.EntryLaws.{min_few}
use Rattle.read_contents.proofs.entries.entry_size.Goals as goal

pub overflow_add-result-then-format_of : goal.overflow_add-result-then-format_of
overflow_add-result-then-format_of c =
    omega (arith, c.min_entry-size.ensures, min_few c.args.format)

pub returns-then-format_of : goal.returns-then-format_of
unfolding entry_size gaps_size
returns-then-format_of c =
    simp (← c.min_entry-size.ensures, ← c.format_of.ensures, c.if-format_of.true) (omega arith)

pub returns : goal.returns
unfolding entry_size gaps_size
returns c =
    simp (← c.min_entry-size.ensures, ← c.format_of.ensures, c.if-format_of.false) (omega arith)
