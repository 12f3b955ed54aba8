use mathlib.Core.Path.{◌∙◌}
use native.Mathlib.Omega.{arith}
use Rattle.frame_codes.proofs.CodeLaws.{gsm_not, gsm_codes}
use Rattle.frame_codes.proofs.coding.gsm_hr_code.Goals as goal

pub returns-in-0-eq0 : goal.returns-in-0-eq0
returns-in-0-eq0 c =
    gsm_codes.0 ∙ rw (c.in-0-eq0.is-0, c.in-0-eq0.is-1)

pub returns-in-1-eq14 : goal.returns-in-1-eq14
returns-in-1-eq14 c =
    gsm_codes.1 ∙ rw (c.in-1-eq14.is-0, c.in-1-eq14.is-1)

pub returns-in-2-eq14 : goal.returns-in-2-eq14
returns-in-2-eq14 c =
    gsm_codes.2 ∙ rw (c.in-2-eq14.is-0, c.in-2-eq14.is-1)

pub returns-in_default : goal.returns-in_default
returns-in_default c =
    gsm_not _ _ (λ a b. omega arith) (λ a b. omega arith) (λ a b. omega arith)

pub returns-in_default-2 : goal.returns-in_default-2
returns-in_default-2 c =
    gsm_not _ _ (λ a b. omega arith) (λ a b. omega arith) (λ a b. omega arith)

pub returns-in_default-3 : goal.returns-in_default-3
returns-in_default-3 c =
    gsm_not _ _ (λ a b. omega arith) (λ a b. omega arith) (λ a b. omega arith)

pub returns-in_default-4 : goal.returns-in_default-4
returns-in_default-4 c =
    gsm_not _ _ (λ a b. omega arith) (λ a b. omega arith) (λ a b. omega arith)
