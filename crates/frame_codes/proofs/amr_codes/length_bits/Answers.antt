use mathlib.Core.Path.{◌∙◌}
use borrow.Author.Tests.{eq-eqb, ne_eqb, le-leb, lt-leb}
use Rattle.frame_codes.proofs.AmrLaws.{by_four, by_four_lem}
use Rattle.frame_codes.proofs.amr_codes.length_bits.Goals as goal

pub returns-then-class-eq0 : goal.returns-then-class-eq0
unfolding by_four
returns-then-class-eq0 c =
    (simp (eq-eqb _ _ c.if-class-eq0.true)) ∙ by_four_lem _ _

pub returns-then-class-ge8 : goal.returns-then-class-ge8
unfolding by_four
returns-then-class-ge8 c =
    (simp (ne_eqb _ _ c.if-class-eq0.false, le-leb _ _ c.if-class-ge8.true)) ∙ by_four_lem _ _

pub returns-then-class-eq1 : goal.returns-then-class-eq1
unfolding by_four
returns-then-class-eq1 c =
    (simp (ne_eqb _ _ c.if-class-eq0.false, lt-leb _ _ c.if-class-ge8.false, eq-eqb _ _ c.if-class-eq1.true)) ∙ by_four_lem _ _

pub returns-then-class-eq2 : goal.returns-then-class-eq2
unfolding by_four
returns-then-class-eq2 c =
    (simp (ne_eqb _ _ c.if-class-eq0.false, lt-leb _ _ c.if-class-ge8.false, ne_eqb _ _ c.if-class-eq1.false, eq-eqb _ _ c.if-class-eq2.true)) ∙ by_four_lem _ _

pub returns : goal.returns
unfolding by_four
returns c =
    (simp (ne_eqb _ _ c.if-class-eq0.false, lt-leb _ _ c.if-class-ge8.false, ne_eqb _ _ c.if-class-eq1.false, ne_eqb _ _ c.if-class-eq2.false)) ∙ by_four_lem _ _
