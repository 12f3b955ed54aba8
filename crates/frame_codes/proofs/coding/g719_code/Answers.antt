use mathlib.Core.Path.{◌∙◌}
use native.Mathlib.Omega.{arith}
use Rattle.frame_codes.proofs.CodeLaws.{g719_not, g719_no_data}
use Rattle.frame_codes.proofs.coding.g719_code.Goals as goal

pub returns-in-0-eq0 : goal.returns-in-0-eq0
returns-in-0-eq0 c =
    g719_no_data ∙ rw (c.in-0-eq0.is-0, c.in-0-eq0.is-1)

pub returns-in_default : goal.returns-in_default
returns-in_default c =
    g719_not _ _ (λ a b. omega arith) (λ a. omega arith)

pub returns-in_default-2 : goal.returns-in_default-2
returns-in_default-2 c =
    g719_not _ _ (λ a b. omega arith) (λ a. omega arith)
