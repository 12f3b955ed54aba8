use mathlib.Core.Path.{◌≡◌, sym, ap, ◌∙◌}
use native.Mathlib.Omega.{arith}
use Rattle.formats.specs.Frames.{frame_of}
use Rattle.read_contents.proofs.EntryLaws.{min_some}
use Rattle.read_contents.specs.Contents.{entry_of}
use Rattle.formats.proofs.NumberLaws.{same_coded}
use borrow.Author.Tests.{le-ltb, lt-ltb, eq-eqb, ne_eqb}
use Rattle.std.specs.Prelude.{Some, Err}
use Rattle.rtp.proofs.ErrorLaws.{err_is, or_none, or_some}
use Rattle.read_contents.proofs.entries.read_entry.Goals.{In_ok-frame}
use Rattle.read_contents.proofs.entries.read_entry.Goals as goal

pub returns-then-s-min_entry : goal.returns-then-s-min_entry
unfolding entry_of
returns-then-s-min_entry c =
    simp (← c.min_entry.ensures, lt-ltb _ _ c.if-s-min_entry.true)

pub bounds-s-0 : goal.bounds-s-0
bounds-s-0 c =
    omega (arith, c.min_entry.ensures, min_some c.args.format)

pub returns-then-s-size : goal.returns-then-s-size
unfolding entry_of
returns-then-s-size c =
    simp (← c.min_entry.ensures, le-ltb _ _ c.if-s-min_entry.false, ← c.wide-first.ensures.0, ← c.blocks_in-blocks.ensures.0, ← c.entry_size-size.ensures, lt-ltb _ _ c.if-s-size.true)

frame-at : (c : In_ok-frame) → frame_of c.args.format c.code_in.result ≡ Some c.in_ok-frame.frame
frame-at c =
    sym (same_coded _ _ c.frame_of.ensures) ∙ or_some _ _ _ _ c.ok_or.ensures.value c.in_ok-frame.was

pub returns-then-blocks-eq0 : goal.returns-then-blocks-eq0
unfolding entry_of
returns-then-blocks-eq0 c =
    simp (← c.min_entry.ensures, le-ltb _ _ c.if-s-min_entry.false, ← c.wide-first.ensures.0, ← c.blocks_in-blocks.ensures.0, ← c.entry_size-size.ensures, le-ltb _ _ c.if-s-size.false, ← c.code_in.ensures.0, frame-at (goal.at.returns-then-blocks-eq0 c).In_ok-frame, eq-eqb _ _ c.if-blocks-eq0.true)

pub returns-in_err-frame : goal.returns-in_err-frame
unfolding entry_of
returns-in_err-frame c =
    let n = or_none _ _ _ _ c.ok_or.ensures.value c.in_err-frame.was in
    rw (err_is _ _ c.from_residual.ensures.1 ∙ ap Err n.1)
    (simp (← c.min_entry.ensures, le-ltb _ _ c.if-s-min_entry.false, ← c.wide-first.ensures.0, ← c.blocks_in-blocks.ensures.0, ← c.entry_size-size.ensures, le-ltb _ _ c.if-s-size.false, ← c.code_in.ensures.0, sym (same_coded _ _ c.frame_of.ensures) ∙ n.0))

pub returns : goal.returns
unfolding entry_of
returns c =
    simp (← c.min_entry.ensures, le-ltb _ _ c.if-s-min_entry.false, ← c.wide-first.ensures.0, ← c.blocks_in-blocks.ensures.0, ← c.entry_size-size.ensures, le-ltb _ _ c.if-s-size.false, ← c.code_in.ensures.0, frame-at (goal.at.returns c).In_ok-frame, ne_eqb _ _ c.if-blocks-eq0.false)
