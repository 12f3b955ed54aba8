use lib.ListN.{drop}
use Rattle.examples_text.specs.Lines.{after_spaces, text}
use Rattle.examples_text.specs.Values.{byte_room}
use Rattle.examples_text.proofs.ValueLaws.{Left}
use Rattle.examples_text.proofs.values.put_text.Given as goal

abbrev pub invariant-loop-byte : goal.invariant-loop-byte
invariant-loop-byte l = Left byte_room l.initial.area l.at (text (after_spaces l.k l.line)) l.area l.to (drop l.byte-index l.text)
