use mathlib.Core.Path.{◌∙◌}
use borrow.Author.Tests.{eq-eqb, ne_eqb}
use Rattle.frame_codes.proofs.CodeLaws.{gsm_has}
use Rattle.frame_codes.proofs.coding.has_gsm_hr.Goals as goal

pub returns-then-class-eq0 : goal.returns-then-class-eq0
returns-then-class-eq0 c =
    (simp (eq-eqb _ _ c.if-class-eq0.true)) ∙ gsm_has _ _

pub returns-then-n-eq-GSM_HR_LENGTH : goal.returns-then-n-eq-GSM_HR_LENGTH
returns-then-n-eq-GSM_HR_LENGTH c =
    (simp (ne_eqb _ _ c.if-class-eq0.false, eq-eqb _ _ c.if-n-eq-GSM_HR_LENGTH.true)) ∙ gsm_has _ _

pub returns-else-n-eq-GSM_HR_LENGTH : goal.returns-else-n-eq-GSM_HR_LENGTH
returns-else-n-eq-GSM_HR_LENGTH c =
    (simp (ne_eqb _ _ c.if-class-eq0.false, ne_eqb _ _ c.if-n-eq-GSM_HR_LENGTH.false)) ∙ gsm_has _ _
