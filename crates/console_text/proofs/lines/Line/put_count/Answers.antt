use Rattle.std.proofs.Common.{◌≡◌, ◌++◌, ap, ◌∙◌}
use borrow.Author.Tests.{eq-eqb, ne_eqb}
use Rattle.console_text.specs.Lines.{gathered, decimal, counted}
use Rattle.console_text.proofs.LineLaws.{gathered_then}
use Rattle.console_text.proofs.lines.Line.put_count.Goals as goal
use Rattle.console_text.proofs.lines.Line.put_count.Goals.{then-n-eq1, else-n-eq1}

pub returns : goal.returns
unfolding counted
returns c =
    let a = c.args in
    let word = c.if-n-eq1.put.now in
    let told : decimal a.n ++ word ≡ counted a.n a.one.now a.several.now = elim c.if-n-eq1.branch [
      | then-n-eq1 w ↦ simp (eq-eqb a.n 1 w.if-n-eq1.true, w.put-is)
      | else-n-eq1 w ↦ simp (ne_eqb a.n 1 w.if-n-eq1.false, w.put-is)
    ] in
    c.put.ensures.line_after ∙ gathered_then a.self.now c.put_number.new.self (decimal a.n) word c.put_number.ensures ∙ ap (gathered a.self.now) told
