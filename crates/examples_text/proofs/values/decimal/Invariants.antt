use mathlib.Core.Path.{◌≡◌}
use lib.ListN.{drop}
use Rattle.examples_text.specs.Values.{with_digits}
use Rattle.examples_text.proofs.values.decimal.Given as goal

abbrev pub invariant-loop-byte : goal.invariant-loop-byte
invariant-loop-byte l = with_digits 0 l.word ≡ with_digits l.value (drop l.byte-index l.word)
