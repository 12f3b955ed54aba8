use mathlib.Core.Path.{ap, sym, ◌∙◌}
use Prim.Native.Nat.{ℕ}
use borrow.Author.Tests.{ne_eqb}
use Rattle.console_text.specs.Lines.{gathered}
use Rattle.log_lines.specs.LineTexts.{redundancy_text}
use Rattle.log_lines.proofs.words.put_redundancy.Goals as goal

pub returns-then-redundancy-eq-NO_REDUNDANCY : goal.returns-then-redundancy-eq-NO_REDUNDANCY
unfolding redundancy_text
returns-then-redundancy-eq-NO_REDUNDANCY c =
    let a = c.args in
    c.put.ensures.line_after ∙ ap (λ (k : ℕ). gathered a.line.now (redundancy_text k)) (sym c.if-redundancy-eq-NO_REDUNDANCY.true)

pub returns-else-redundancy-eq-NO_REDUNDANCY : goal.returns-else-redundancy-eq-NO_REDUNDANCY
unfolding redundancy_text
returns-else-redundancy-eq-NO_REDUNDANCY c =
    let a = c.args in
    simp (ne_eqb a.redundancy 128 c.if-redundancy-eq-NO_REDUNDANCY.false) c.put_number.ensures
