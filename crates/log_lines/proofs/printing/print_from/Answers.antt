use Rattle.std.specs.Prelude.{Ok}
use mathlib.Core.Path.{◌≡◌, ap, subst, ◌∙◌}
use Prim.Native.Nat.{◌+◌}
use lib.ListN.{length}
use native.Mathlib.Omega.{arith}
use Rattle.log_lines.specs.FrameCounts.{AllPrinted}
use Rattle.log_lines.proofs.CountLaws.{is_frame, counts_start, counts_frame, counts_none, counts_out}
use Rattle.log_lines.proofs.printing.print_from.Goals as goal

pub loop-frames-init : goal.loop-frames-init
loop-frames-init c =
    counts_start c.args.cursor c.args.log.now

pub returns-in-Ok-None : goal.returns-in-Ok-None
returns-in-Ok-None c =
    let a = c.args in
    let v = c.loop-frames in
    let s = c.step-stepped in
    let log = a.log.now in
    let none = counts_none v.frames v.reached s.result.cursor log s.result.answer (omega arith) s.ensures (ap is_frame (c.in-Ok-None.is ∙ ap Ok (rw c.in-Ok-None.is at c.in-Ok-None.field-0-is))) in
    subst (AllPrinted c.print_end.result) (none ∙ v.invariant) c.print_end.ensures

pub returns-in-Err : goal.returns-in-Err
returns-in-Err c =
    let a = c.args in
    let v = c.loop-frames in
    let s = c.step-stepped in
    let log = a.log.now in
    let none = counts_none v.frames v.reached s.result.cursor log s.result.answer (omega arith) s.ensures (ap is_frame c.in-Err.is) in
    subst (AllPrinted c.print_fault.result) (none ∙ v.invariant) c.print_fault.ensures

pub loop-frames-preserved : goal.loop-frames-preserved
loop-frames-preserved c =
    let a = c.args in
    let v = c.loop-frames in
    let s = c.step-stepped in
    let log = a.log.now in
    let one = counts_frame v.frames v.reached s.result.cursor log s.result.answer (omega arith) s.ensures (ap is_frame (c.in-Ok-Some.is ∙ ap Ok (rw c.in-Ok-Some.is at c.in-Ok-Some.field-0-is))) in
    one ∙ v.invariant

pub returns : goal.returns
returns c =
    let a = c.args in
    let v = c.loop-frames in
    let all : length a.log.now + 1 ≡ v.frames = omega arith in
    all ∙ counts_out v.frames v.reached a.log.now (omega arith) ∙ v.invariant
