use mathlib.Core.Path.{◌≡◌, sym, ap, ◌∙◌}
use mathlib.Core.List.{◌∷◌}
use Prim.Native.Nat.{ℕ}
use native.Mathlib.Omega.{arith}
use lib.ListN.{get_or}
use Rattle.std.specs.Slice.Iter.{chunks_rest}
use Rattle.examples_text.specs.Lines.{after_spaces}
use Rattle.examples_text.specs.Values.{byte_room, bytes_of, pair_of}
use Rattle.examples_text.proofs.ValueLaws.{value_or_zero, bytes_piece, bytes_piece_low, bytes_none, left_next, left_none, left_full}
use Rattle.examples_text.proofs.values.put_bytes.Goals as goal

pub returns-then-byte-le-NEWLINE : goal.returns-then-byte-le-NEWLINE
returns-then-byte-le-NEWLINE c =
    let l = c.loop-word in
    let a = c.args in
    let s = chunks_rest l.word-iterator in
    let steps = c.in-Some.ensures.steps in
    left_none byte_room a.area.now a.at (bytes_of (after_spaces a.k a.line.now)) l.area l.to (bytes_of s) l.invariant.1
    (bytes_piece_low s c.in-Some.word.now (chunks_rest c.next.new.self) steps.1.0 (rw l.invariant.0 at steps.1.1) (omega arith))

pub returns-then-to-ge-ROOM : goal.returns-then-to-ge-ROOM
returns-then-to-ge-ROOM c =
    let l = c.loop-word in
    let a = c.args in
    left_full byte_room a.area.now a.at (bytes_of (after_spaces a.k a.line.now)) l.area l.to (bytes_of (chunks_rest l.word-iterator)) l.invariant.1 (omega arith)

pub loop-word-preserved : goal.loop-word-preserved
loop-word-preserved c =
    let l = c.loop-word in
    let a = c.args in
    let s = chunks_rest l.word-iterator in
    let rest = chunks_rest c.next.new.self in
    let piece = c.in-Some.word.now in
    let steps = c.in-Some.ensures.steps in
    let v = c.or_malformed.result in
    let laid : v ≡ pair_of (get_or piece 0 0) (get_or piece 1 0) (get_or piece 2 0) = value_or_zero c.pair.result v _ c.or_malformed.ensures c.pair.ensures in (
      steps.0 ∙ l.invariant.0,
      left_next byte_room a.area.now a.at (bytes_of (after_spaces a.k a.line.now)) l.area l.to (bytes_of s) v (bytes_of rest) l.invariant.1
          (bytes_piece s piece rest steps.1.0 (rw l.invariant.0 at steps.1.1) (omega arith) ∙ ap (λ (x : ℕ). x ∷ bytes_of rest) (sym laid))
          (omega arith),
    )

pub returns : goal.returns
returns c =
    let l = c.loop-word in
    let a = c.args in
    let s = chunks_rest l.word-iterator in
    left_none byte_room a.area.now a.at (bytes_of (after_spaces a.k a.line.now)) l.area l.to (bytes_of s) l.invariant.1 (bytes_none s c.in-None.ensures.steps.1.0)
