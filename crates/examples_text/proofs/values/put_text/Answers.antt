use Prim.Native.Nat.{◌+◌}
use mathlib.Core.Path.{sym, ap, ◌∙◌}
use native.Mathlib.Omega.{arith}
use lib.ListN.{get_or, drop, drop_of_length-le}
use Rattle.examples_text.specs.Lines.{after_spaces, text}
use Rattle.examples_text.specs.Values.{byte_room}
use Rattle.examples_text.proofs.LineLaws.{from_place}
use Rattle.examples_text.proofs.ValueLaws.{left_all, left_next, left_none, left_full}
use Rattle.examples_text.proofs.values.put_text.Goals as goal

pub loop-byte-init : goal.loop-byte-init
loop-byte-init c =
    let a = c.args in
    left_all byte_room a.area.now a.at (text (after_spaces a.k a.line.now)) c.text-text.result.now
    (sym (c.text-text.ensures ∙ ap text c.after.ensures))

pub returns-then-to-ge-ROOM : goal.returns-then-to-ge-ROOM
returns-then-to-ge-ROOM c =
    let l = c.loop-byte in
    let a = c.args in
    left_full byte_room a.area.now a.at (text (after_spaces a.k a.line.now)) l.area l.to (drop l.byte-index c.text-text.result.now) l.invariant (omega arith)

pub loop-byte-preserved : goal.loop-byte-preserved
loop-byte-preserved c =
    let l = c.loop-byte in
    let a = c.args in
    let s = c.text-text.result.now in
    left_next byte_room a.area.now a.at (text (after_spaces a.k a.line.now)) l.area l.to (drop l.byte-index s) (get_or s l.byte-index 0) (drop (l.byte-index + 1) s) l.invariant
    (from_place s l.byte-index (omega arith))
    (omega arith)

pub returns : goal.returns
returns c =
    let l = c.loop-byte in
    let a = c.args in
    let s = c.text-text.result.now in
    left_none byte_room a.area.now a.at (text (after_spaces a.k a.line.now)) l.area l.to (drop l.byte-index s) l.invariant (drop_of_length-le s {i = l.byte-index} (omega arith))
