use Rattle.std.proofs.Common.{sym, ap, ◌∙◌}
use Rattle.report_sequence.specs.declared.record.Counts.{Counts}
use Rattle.report_sequence.specs.Sequence.{valid, invalid, anew}
use Rattle.report_sequence.proofs.SequenceLaws.{probed_valid, probed_early, probed_other}
use Rattle.report_sequence.proofs.sequence.probe.Goals as goal

pub returns-then-number-after : goal.returns-then-number-after
returns-then-number-after c =
    c.refuse.ensures ∙ ap invalid c.wait.ensures ∙ sym (probed_other c.args.counts c.args.sequence (λ e. c.if-number-after.true (e ∙ sym c.after.ensures)))

pub returns-then-counts-eq1 : goal.returns-then-counts-eq1
returns-then-counts-eq1 c =
    c.receive.ensures
    ∙ ap valid (c.restart.ensures ∙ ap (λ (x : Counts). anew x c.args.sequence) c.wait-then-counts-eq1.ensures)
    ∙ sym (probed_valid c.args.counts c.args.sequence (c.if-number-after.false ∙ c.after.ensures) c.if-counts-eq1.true)

pub returns : goal.returns
returns c =
    c.refuse-2.ensures
    ∙ ap invalid c.wait-2.ensures
    ∙ sym (probed_early c.args.counts c.args.sequence (c.if-number-after.false ∙ c.after.ensures) c.if-counts-eq1.false)
