use mathlib.Core.Path.{◌≡◌}
use lib.ListN.{drop}
use Rattle.examples_text.specs.Lines.{starts_with}
use Rattle.examples_text.proofs.script.first_is.Given as goal

abbrev pub invariant-loop-i : goal.invariant-loop-i
invariant-loop-i l = starts_with l.word l.line ≡ starts_with (drop l.i l.word) (drop l.i l.line)
