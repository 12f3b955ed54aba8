use mathlib.Core.Path.{◌≡◌, sym, ap, ◌∙◌}
use Rattle.std.specs.Prelude.{Ok, Err, None, Some}
use native.Mathlib.Omega.{arith}
use Rattle.rtp.specs.Editions.{current}
use Rattle.log_walk.specs.Stepping.{step}
use Rattle.log_walk.proofs.WalkLaws.{shown_inside, step_as}
use Rattle.log_walk.proofs.stepping.step.Goals.{In-Ok-Some}
use Rattle.log_walk.proofs.stepping.step.Goals as goal

-- a step that shows a frame
shown : (c : In-Ok-Some) → let a = c.args in step current a.cursor a.log.now ≡ Ok (Some c.in-Ok-Some.f)
shown c =
    sym c.answer_of-answer.ensures ∙ c.in-Ok-Some.is ∙ ap Ok (rw c.in-Ok-Some.is at c.in-Ok-Some.field-0-is)

pub overflow_add-result : goal.overflow_add-result
overflow_add-result c =
    let i = shown_inside current _ _ _ (shown (goal.at.overflow_add-result c).In-Ok-Some) in omega (arith, i.1)

pub overflow_add-result-in-Ok-Some : goal.overflow_add-result-in-Ok-Some
overflow_add-result-in-Ok-Some c =
    let i = shown_inside current _ _ _ (shown (goal.at.overflow_add-result-in-Ok-Some c).In-Ok-Some) in omega (arith, i.1, i.2)

pub returns-in-Ok-Some : goal.returns-in-Ok-Some
returns-in-Ok-Some c =
    let e = shown (goal.at.returns-in-Ok-Some c).In-Ok-Some in
    rw (c.answer_of-answer.ensures, e) (sym (step_as current _ _ _ e))

pub returns-in-Ok-None : goal.returns-in-Ok-None
returns-in-Ok-None c =
    let e : step current c.args.cursor c.args.log.now ≡ Ok None =
    sym c.answer_of-answer.ensures ∙ c.in-Ok-None.is ∙ ap Ok (rw c.in-Ok-None.is at c.in-Ok-None.field-0-is) in
    rw (c.answer_of-answer.ensures, e) (sym (step_as current _ _ _ e))

pub returns-in-Err : goal.returns-in-Err
returns-in-Err c =
    let e : step current c.args.cursor c.args.log.now ≡ Err c.in-Err.field-0 = sym c.answer_of-answer.ensures ∙ c.in-Err.is in
    rw (c.answer_of-answer.ensures, e) (sym (step_as current _ _ _ e))
