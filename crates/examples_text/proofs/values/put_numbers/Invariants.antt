use lib.ListN.{drop}
use Rattle.examples_text.specs.Values.{number_room, numbers_of}
use Rattle.examples_text.proofs.ValueLaws.{Left}
use Rattle.examples_text.proofs.values.put_numbers.Given as goal

abbrev pub invariant-loop-i : goal.invariant-loop-i
invariant-loop-i l = Left number_room l.initial.area l.at (numbers_of l.bytes) l.area l.to (numbers_of (drop l.i l.bytes))
