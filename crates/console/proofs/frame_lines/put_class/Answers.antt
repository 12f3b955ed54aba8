use Rattle.std.proofs.Common.{arith}
use mathlib.Core.Path.{sym, ap, ◌∙◌}
use mathlib.Core.List.{◌∷◌}
use Prim.Native.Nat.{ℕ}
use borrow.Author.Tests.{ne_eqb}
use Rattle.console_text.specs.Lines.{gathered, class_word}
use Rattle.console.proofs.frame_lines.put_class.Goals as goal

pub returns-in-1 : goal.returns-in-1
unfolding class_word
returns-in-1 c =
    let a = c.args in
    c.put.ensures.line_after ∙ ap (λ (k : ℕ). gathered a.line.now (32 ∷ class_word k)) (sym c.in-1.is)

pub returns-in-2 : goal.returns-in-2
unfolding class_word
returns-in-2 c =
    let a = c.args in
    c.put-in-2.ensures.line_after ∙ ap (λ (k : ℕ). gathered a.line.now (32 ∷ class_word k)) (sym c.in-2.is)

pub returns-in-5 : goal.returns-in-5
unfolding class_word
returns-in-5 c =
    let a = c.args in
    c.put-in-5.ensures.line_after ∙ ap (λ (k : ℕ). gathered a.line.now (32 ∷ class_word k)) (sym c.in-5.is)

pub returns-in-6 : goal.returns-in-6
unfolding class_word
returns-in-6 c =
    let a = c.args in
    c.put-in-6.ensures.line_after ∙ ap (λ (k : ℕ). gathered a.line.now (32 ∷ class_word k)) (sym c.in-6.is)

pub returns-in_default : goal.returns-in_default
unfolding class_word
returns-in_default c =
    let k = c.args.class in
    simp (ne_eqb k 1 (omega arith), ne_eqb k 2 (omega arith), ne_eqb k 5 (omega arith), ne_eqb k 6 (omega arith)) c.put-in_default.ensures.line_after
