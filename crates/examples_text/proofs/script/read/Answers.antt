use native.Mathlib.Omega.{arith}
use Rattle.examples_text.proofs.LineLaws.{reading_next, reading_last, reading_full}
use Rattle.examples_text.proofs.script.read.Goals as goal

pub returns-then-byte-le-NEWLINE : goal.returns-then-byte-le-NEWLINE
returns-then-byte-le-NEWLINE c =
    let l = c.loop-place in
    reading_last 512 l.place-items l.place-index c.unwrap_or-byte.result l.invariant (omega arith) (omega arith)

pub loop-place-preserved : goal.loop-place-preserved
loop-place-preserved c =
    let l = c.loop-place in
    reading_next 512 l.place-items l.place-index c.unwrap_or-byte.result l.invariant (omega arith) (omega arith)

pub returns : goal.returns
returns c =
    let l = c.loop-place in
    reading_full 512 l.place-items l.place-index l.invariant (omega arith)
