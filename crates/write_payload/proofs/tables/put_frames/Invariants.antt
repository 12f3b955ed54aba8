use Rattle.std.proofs.Common.{◌≡◌}
use Rattle.std.specs.Slice.Iter.{chunks_exact_rest, chunks_exact_size}
use Rattle.rtp.specs.Sizes.{row_width}
use Rattle.write_payload.proofs.FrameBytesLaws.{Going}
use Rattle.write_payload.proofs.tables.put_frames.Given as goal

abbrev pub invariant-loop-words : goal.invariant-loop-words
invariant-loop-words l = record {
  size : chunks_exact_size l.words-iterator ≡ row_width;
  going : Going l.rows l.bytes l.initial.out l.out (chunks_exact_rest l.words-iterator) l.place;
}
