use mathlib.Core.Path.{sym, ◌∙◌}
use Rattle.log_writer.proofs.WritingLaws.{parts_unloggable, many_unloggable, fit_loggable}
use Rattle.log_writer.proofs.writing.can_log.Goals as goal

pub returns-then-rows-ne0 : goal.returns-then-rows-ne0
returns-then-rows-ne0 c =
    let a = c.args in sym (parts_unloggable a.asked a.rows.now c.if-rows-ne0.true)

pub returns-then-rows-gt-MAX_FRAMES : goal.returns-then-rows-gt-MAX_FRAMES
returns-then-rows-gt-MAX_FRAMES c =
    let a = c.args in sym (many_unloggable a.asked a.rows.now c.if-rows-ne0.false c.if-rows-gt-MAX_FRAMES.true)

pub returns : goal.returns
returns c =
    let a = c.args in c.all_fit.ensures ∙ sym (fit_loggable a.asked a.rows.now c.if-rows-ne0.false c.if-rows-gt-MAX_FRAMES.false)
