use Rattle.read_contents.specs.Contents.{min_entry}
use native.Mathlib.Omega.{arith}
use Rattle.read_contents.proofs.entries.blocks_in.Goals as goal

pub bounds-s-1 : goal.bounds-s-1
unfolding min_entry
bounds-s-1 c =
    omega (arith, rw (← c.format_of.ensures, c.if-format_of.true) at c.requires)

pub returns-then-format_of : goal.returns-then-format_of
returns-then-format_of c =
    (simp (← c.format_of.ensures, c.if-format_of.true) c.wide.ensures.0, omega arith)

pub returns : goal.returns
returns c =
    (simp (← c.format_of.ensures, c.if-format_of.false), omega arith)
