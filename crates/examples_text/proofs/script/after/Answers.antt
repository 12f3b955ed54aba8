use mathlib.Core.Path.{sym, ap, ◌∙◌}
use Prim.Native.Nat.{ℕ, ◌+◌, ◌<◌}
use native.Mathlib.Omega.{arith}
use lib.ListN.{drop, drop_of_length-le}
use Rattle.examples_text.specs.Lines.{after_spaces}
use Rattle.examples_text.proofs.LineLaws.{slice_from, after_zero_lem, after_space, after_other, after_end}
use Rattle.examples_text.proofs.script.after.Goals as goal
use Rattle.examples_text.proofs.script.after.Goals.{then-byte-eq-SPACE, else-byte-eq-SPACE}

pub returns-then-left-eq0 : goal.returns-then-left-eq0
returns-then-left-eq0 c =
    let l = c.loop-i in
    let s = c.args.line.now in
    slice_from s l.i ∙ sym (l.invariant ∙ after_zero_lem l.left (drop l.i s) c.if-left-eq0.true)

pub loop-i-preserved : goal.loop-i-preserved
loop-i-preserved c =
    let l = c.loop-i in
    let s = c.args.line.now in
    let some : 0 < l.left = omega (arith, c.if-left-eq0.false) in
    elim c.if-byte-eq-SPACE.branch [
      | then-byte-eq-SPACE w ↦ l.invariant ∙ after_space l.left s l.i some (omega arith) w.if-byte-eq-SPACE.true ∙ ap (λ (k : ℕ). after_spaces k (drop (l.i + 1) s)) (sym w.left-is)
      | else-byte-eq-SPACE w ↦ l.invariant ∙ after_other l.left s l.i some (omega arith) w.if-byte-eq-SPACE.false ∙ ap (λ (k : ℕ). after_spaces k (drop (l.i + 1) s)) (sym w.left-is)
    ]

pub returns : goal.returns
returns c =
    let l = c.loop-i in
    sym (l.invariant ∙ after_end l.left (drop l.i c.args.line.now) (drop_of_length-le c.args.line.now {i = l.i} (omega arith)))
