-- What a call on a log answers and leaves, with C's fields in the place of the library's answer: they have the same numbers.
use mathlib.Core.Path.{◌≡◌, ap, ◌∙◌}
use Prim.Native.Nat.{ℕ}
use Rattle.log_walk.specs.declared.opening.Cursor.{Cursor}
use Rattle.log_walk.specs.Opening.{OpenNumbers, OpenOutcome}
use Rattle.log_walk.specs.Stepping.{StepNumbers, StepOutcome}
use Rattle.c_log_answers.specs.Fields.{CStepNumbers, placeless}
use Rattle.heolstorpit.specs.LogAnswers.{COpenOutcome, opened_outcome, CStepOutcome, stepped_outcome}

-- open, the settings left to the cursor
abbrev pub Opens : OpenNumbers → Cursor → OpenOutcome → Type 0
Opens n c o = record { answer = n; cursor = c } ≡ o

pub opens_same : (n : OpenNumbers) (k : ℕ) (c : Cursor) (o : OpenOutcome) → k ≡ n.refusal → Opens n c o
    → ◌≡◌ {A = COpenOutcome} (record { refusal = k; cursor = c }) (opened_outcome o)
opens_same n k c o h e = ap (λ (m : ℕ). record { refusal = m; cursor = c }) h ∙ ap (λ (x : OpenOutcome). opened_outcome x) e

-- step, the place of a fault left out
abbrev pub Steps : StepNumbers → Cursor → StepOutcome → Type 0
Steps n c o = record { answer = n; cursor = c } ≡ o

pub steps_same : (n : StepNumbers) (k : CStepNumbers) (c : Cursor) (o : StepOutcome) → k ≡ placeless n → Steps n c o
    → ◌≡◌ {A = CStepOutcome} (record { answer = k; cursor = c }) (stepped_outcome o)
steps_same n k c o h e = ap (λ (m : CStepNumbers). record { answer = m; cursor = c }) h ∙ ap (λ (x : StepOutcome). stepped_outcome x) e
