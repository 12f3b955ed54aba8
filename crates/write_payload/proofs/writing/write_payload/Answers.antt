use mathlib.Core.Path.{◌≡◌, ap, sym, ◌∙◌}
use mathlib.Core.Bool.{true, false}
use native.Mathlib.Omega.{arith}
use lib.ListN.{length}
use Rattle.rtp.specs.Editions.{current}
use Rattle.rtp.specs.Areas.{over}
use Rattle.rtp.proofs.ErrorLaws.{err_is, or_none, or_some}
use Rattle.write_plan.specs.Lists.{rows_in, outside}
use Rattle.write_plan.specs.Plans.{plan}
use Rattle.write_plan.proofs.NumberLaws.{list_is}
use Rattle.write_payload.specs.Writings.{Encoded, encoded_bytes}
use Rattle.write_sizes.specs.Asking.{askable}
use Rattle.write_sizes.proofs.MeasureLaws.{Answered, answered, unanswered}
use Rattle.write_payload.proofs.WritingLaws.{refused_pair, writing_out, writing_outside, writing_cut, writing_none, writing_short, writing_all, numbers_all, payload_room}
use Rattle.write_payload.proofs.writing.write_payload.Goals.{Else-any_outside, In_ok-sizes, Else-not-in_range}
use Rattle.write_payload.proofs.writing.write_payload.Goals as goal

range_at : (c : Else-not-in_range) → askable current c.args.asked c.args.mode_request ≡ true
range_at c =
    sym c.in_range.ensures ∙ c.if-not-in_range.false

inside-at : (c : Else-any_outside) → outside (length c.args.bytes.now) (rows_in c.args.rows.now) ≡ false
inside-at c =
    sym c.any_outside.ensures ∙ c.if-any_outside.false

-- the sizes of the plan that was made
sizes-at : (c : In_ok-sizes) → let a = c.args in Answered a.asked.format a.asked.channels (plan current a.asked.format a.asked.channels (rows_in a.rows.now)) c.in_ok-sizes.sizes
sizes-at c =
    let a = c.args in answered a.asked.format a.asked.channels (plan current a.asked.format a.asked.channels (rows_in a.rows.now)) c.in_ok-sizes.sizes (sym (or_some _ _ _ _ c.ok_or.ensures.value c.in_ok-sizes.was) ∙ list_is _ _ _ _ c.plan_list-plan.ensures)

pub returns-then-any_outside : goal.returns-then-any_outside
returns-then-any_outside c =
    let a = c.args in refused_pair _ _ a.out.now (writing_outside current a.asked a.mode_request a.rows.now a.bytes.now (length a.out.now) (range_at (goal.at.returns-then-any_outside c).Else-not-in_range) (sym c.any_outside.ensures ∙ c.if-any_outside.true))

pub returns-then-out-size : goal.returns-then-out-size
returns-then-out-size c =
    let a = c.args in refused_pair _ _ a.out.now (writing_short current a.asked a.mode_request a.rows.now a.bytes.now (length a.out.now) (range_at (goal.at.returns-then-out-size c).Else-not-in_range) (inside-at (goal.at.returns-then-out-size c).Else-any_outside) c.if-rows-ne0.false _ (sizes-at (goal.at.returns-then-out-size c).In_ok-sizes) c.if-out-size.true)

pub put_payload-requires : goal.put_payload-requires
put_payload-requires c =
    let a = c.args in payload_room current a.asked a.mode_request a.rows.now a.bytes.now (length a.out.now) (range_at (goal.at.put_payload-requires c).Else-not-in_range) (inside-at (goal.at.put_payload-requires c).Else-any_outside) c.if-rows-ne0.false _ (sizes-at (goal.at.put_payload-requires c).In_ok-sizes) (omega arith) c.if-out-size.false

pub returns-in_err-sizes : goal.returns-in_err-sizes
returns-in_err-sizes c =
    let a = c.args in
    let at = goal.at.returns-in_err-sizes c in
    let none = or_none _ _ _ _ c.ok_or.ensures.value c.in_err-sizes.was in
    rw (err_is _ _ c.from_residual.ensures.1, none.1)
    (refused_pair _ _ a.out.now (writing_none current a.asked a.mode_request a.rows.now a.bytes.now (length a.out.now) (range_at at.Else-not-in_range) (inside-at at.Else-any_outside) c.if-rows-ne0.false (unanswered current a.asked.format a.asked.channels a.rows.now (sym none.0 ∙ list_is _ _ _ _ c.plan_list-plan.ensures))))

pub returns : goal.returns
returns c =
    let a = c.args in (
      numbers_all current a.asked a.mode_request a.rows.now a.bytes.now (length a.out.now) (range_at (goal.at.returns c).Else-not-in_range) (inside-at (goal.at.returns c).Else-any_outside) c.if-rows-ne0.false _ (sizes-at (goal.at.returns c).In_ok-sizes) c.if-out-size.false,
      c.put_payload.ensures ∙ ap (λ (x : Encoded). over (encoded_bytes x) a.out.now) (sym (writing_all current a.asked a.mode_request a.rows.now a.bytes.now (length a.out.now) (range_at (goal.at.returns c).Else-not-in_range) (inside-at (goal.at.returns c).Else-any_outside) c.if-rows-ne0.false _ (sizes-at (goal.at.returns c).In_ok-sizes) c.if-out-size.false)),
    )

pub returns-then-rows-ne0 : goal.returns-then-rows-ne0
returns-then-rows-ne0 c =
    let a = c.args in refused_pair _ _ a.out.now (writing_cut current a.asked a.mode_request a.rows.now a.bytes.now (length a.out.now) (range_at (goal.at.returns-then-rows-ne0 c).Else-not-in_range) (inside-at (goal.at.returns-then-rows-ne0 c).Else-any_outside) c.if-rows-ne0.true)

pub returns-then-not-in_range : goal.returns-then-not-in_range
returns-then-not-in_range c =
    let a = c.args in refused_pair _ _ a.out.now (writing_out current a.asked a.mode_request a.rows.now a.bytes.now (length a.out.now) (sym c.in_range.ensures ∙ c.if-not-in_range.true))
