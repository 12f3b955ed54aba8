use mathlib.Core.Path.{◌≡◌}
use Rattle.std.specs.Slice.Iter.{chunks_rest, chunks_size}
use Rattle.examples_text.specs.Lines.{after_spaces}
use Rattle.examples_text.specs.Values.{byte_room, bytes_of}
use Rattle.examples_text.proofs.ValueLaws.{Left}
use Rattle.examples_text.proofs.values.put_bytes.Given as goal

abbrev pub invariant-loop-word : goal.invariant-loop-word
invariant-loop-word l =
    (chunks_size l.word-iterator ≡ 3)
    × Left byte_room l.initial.area l.at (bytes_of (after_spaces l.k l.line)) l.area l.to (bytes_of (chunks_rest l.word-iterator))
