use mathlib.Core.Path.{◌≡◌}
use lib.ListN.{drop}
use Rattle.examples_text.specs.Lines.{after_spaces}
use Rattle.examples_text.proofs.script.after.Given as goal

abbrev pub invariant-loop-i : goal.invariant-loop-i
invariant-loop-i l = after_spaces l.k l.line ≡ after_spaces l.left (drop l.i l.line)
