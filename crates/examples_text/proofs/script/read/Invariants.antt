use Rattle.examples_text.proofs.LineLaws.{Reading}
use Rattle.examples_text.proofs.script.read.Given as goal

abbrev pub invariant-loop-place : goal.invariant-loop-place
invariant-loop-place l = Reading 512 l.place-items l.place-index
