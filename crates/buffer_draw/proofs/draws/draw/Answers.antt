use mathlib.Core.Path.{sym, ◌∙◌}
use Rattle.rtp.specs.Editions.{current}
use Rattle.buffer_draw.proofs.CallLaws.{outcome_refused, draw_out}
use Rattle.buffer_draw.proofs.draws.draw.Goals as goal

pub returns : goal.returns
returns c =
    let a = c.args in
    outcome_refused a.area.now a.buffer _ _ c.refused.ensures ∙ sym (draw_out current a.buffer a.store.now a.area.now (sym c.in_range.ensures ∙ c.if-in_range.false))
