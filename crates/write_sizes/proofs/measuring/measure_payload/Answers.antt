use mathlib.Core.Path.{◌≡◌, sym, ◌∙◌}
use mathlib.Core.Bool.{true}
use Rattle.rtp.specs.Editions.{current}
use Rattle.rtp.specs.Ranges.{in_range}
use Rattle.rtp.proofs.ErrorLaws.{err_is, or_none, or_some}
use Rattle.write_plan.specs.Lists.{rows_in}
use Rattle.write_plan.specs.Plans.{plan}
use Rattle.write_plan.proofs.NumberLaws.{list_is}
use Rattle.write_sizes.proofs.MeasureLaws.{answered, unanswered, measured_out, measured_cut, measured_none, measured_all}
use Rattle.write_sizes.proofs.measuring.measure_payload.Goals.{Else-not-in_range}
use Rattle.write_sizes.proofs.measuring.measure_payload.Goals as goal

range_at : (c : Else-not-in_range) → in_range current c.args.asked ≡ true
range_at c =
    sym c.in_range.ensures ∙ c.if-not-in_range.false

pub returns-then-not-in_range : goal.returns-then-not-in_range
returns-then-not-in_range c =
    let a = c.args in measured_out current a.asked a.rows.now (sym c.in_range.ensures ∙ c.if-not-in_range.true)

pub returns-then-rows-ne0 : goal.returns-then-rows-ne0
returns-then-rows-ne0 c =
    let a = c.args in measured_cut current a.asked a.rows.now (range_at (goal.at.returns-then-rows-ne0 c).Else-not-in_range) c.if-rows-ne0.true

pub returns : goal.returns
returns c =
    let a = c.args in
    measured_all current a.asked a.rows.now (range_at (goal.at.returns c).Else-not-in_range) c.if-rows-ne0.false _
    (answered a.asked.format a.asked.channels (plan current a.asked.format a.asked.channels (rows_in a.rows.now)) c.in_ok-sizes.sizes
    (sym (or_some _ _ _ _ c.ok_or.ensures.value c.in_ok-sizes.was) ∙ list_is _ _ _ _ c.plan_list-plan.ensures))

pub returns-in_err-sizes : goal.returns-in_err-sizes
returns-in_err-sizes c =
    let a = c.args in
    let none = or_none _ _ _ _ c.ok_or.ensures.value c.in_err-sizes.was in
    rw (err_is _ _ c.from_residual.ensures.1, none.1)
    (measured_none current a.asked a.rows.now (range_at (goal.at.returns-in_err-sizes c).Else-not-in_range) c.if-rows-ne0.false
    (unanswered current a.asked.format a.asked.channels a.rows.now (sym none.0 ∙ list_is _ _ _ _ c.plan_list-plan.ensures)))
