use mathlib.Core.Path.{◌∙◌}
use borrow.Author.Tests.{eq-eqb, ne_eqb}
use Rattle.frame_codes.proofs.CodeLaws.{g719_has_lem}
use Rattle.frame_codes.proofs.coding.has_g719.Goals as goal

pub returns-then-class-eq0 : goal.returns-then-class-eq0
returns-then-class-eq0 c =
    (simp (eq-eqb _ _ c.if-class-eq0.true)) ∙ g719_has_lem _ _

pub returns-then-class-eq1 : goal.returns-then-class-eq1
returns-then-class-eq1 c =
    c.is_length.ensures ∙ rw c.if-class-eq1.true

pub returns-else-class-eq1 : goal.returns-else-class-eq1
returns-else-class-eq1 c =
    (simp (ne_eqb _ _ c.if-class-eq0.false, ne_eqb _ _ c.if-class-eq1.false)) ∙ g719_has_lem _ _
