use mathlib.Core.Path.{◌≡◌, sym, ◌∙◌}
use Rattle.rtp.specs.Editions.{current}
use Rattle.buffer_copies.specs.Verdicts.{is_far}
use Rattle.buffer_layout.specs.Layout.{decode}
use Rattle.buffer_insert.specs.Laying.{copy_in}
use Rattle.buffer_offer.specs.Judging.{Judgeable}
use Rattle.buffer_offer.proofs.VerdictLaws.{step_late, far_is, step_far}
use Rattle.buffer_offer.proofs.judging.judge_copy.Goals.{After-is_far}
use Rattle.buffer_offer.proofs.judging.judge_copy.Goals as goal

-- far as the test tells
far_at : (c : After-is_far) → (let a = c.args in Judgeable current a.buffer.now a.head a.frame.now a.store.now) → (let a = c.args in is_far (decode a.buffer.now) (copy_in a.head a.frame.now)) ≡ c.is_far.result
far_at c g =
    let a = c.args in
    let h = c.held_in-n in
    far_is a.buffer.now g.machine g.fine a.head a.frame.now a.store.now (sym c.is_late.ensures ∙ c.if-is_late.false) h.result h.ensures.0 ∙ sym c.is_far.ensures

pub returns-then-is_late : goal.returns-then-is_late
returns-then-is_late c g =
    let a = c.args in step_late a.buffer.now g.machine g.fine a.head a.frame.now a.store.now (sym c.is_late.ensures ∙ c.if-is_late.true)

pub returns-then-is_far : goal.returns-then-is_far
returns-then-is_far c g =
    let a = c.args in
    let h = c.held_in-n in
    step_far a.buffer.now g.machine g.fine a.head a.frame.now a.store.now (sym c.is_late.ensures ∙ c.if-is_late.false) h.result h.ensures.0
    (far_at (goal.at.returns-then-is_far c).After-is_far g ∙ c.if-is_far.true)

pub returns : goal.returns
returns c g =
    c.lay_copy.ensures g (record {
      not_late = sym c.is_late.ensures ∙ c.if-is_late.false;
      not_far = far_at (goal.at.returns c).After-is_far g ∙ c.if-is_far.false;
    })
