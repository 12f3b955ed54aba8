use mathlib.Core.Path.{◌≡◌, sym, ◌∙◌}
use mathlib.Core.Bool.{true, false}
use borrow.Author.Tests.{eq-eqb, ne_eqb}
use Rattle.write_plan.proofs.planning.continues_block.Goals.{then-row-previous, else-row-previous}
use Rattle.write_plan.proofs.planning.continues_block.Goals as goal

pub returns-then-tag_class : goal.returns-then-tag_class
returns-then-tag_class c =
    elim c.if-row-previous.branch [
      | then-row-previous w ↦ simp (eq-eqb _ _ w.if-row-previous.true, ← w.tag_class.ensures, ← w.tag_class-then-row-previous.ensures, ← w.value-is, c.if-tag_class.true)
      | else-row-previous w ↦ let z : false ≡ true = sym (ne_eqb _ _ w.if-row-previous.false) ∙ sym w.value-is ∙ c.if-tag_class.true in cc
    ]

pub returns-else-tag_class : goal.returns-else-tag_class
returns-else-tag_class c =
    elim c.if-row-previous.branch [
      | then-row-previous w ↦ simp (eq-eqb _ _ w.if-row-previous.true, ← w.tag_class.ensures, ← w.tag_class-then-row-previous.ensures, ← w.value-is, c.if-tag_class.false)
      | else-row-previous w ↦ simp (ne_eqb _ _ w.if-row-previous.false, c.if-tag_class.false)
    ]
