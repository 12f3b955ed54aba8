use Rattle.std.proofs.Common.{sym, ap, ◌∙◌, arith}
use Rattle.report_sequence.specs.declared.record.Counts.{Counts}
use Rattle.report_sequence.specs.Sequence.{first, probed}
use Rattle.report_sequence.proofs.SequenceLaws.{judged_first, judged_after, judged_probed}
use Rattle.report_sequence.proofs.sequence.judge.Goals as goal

pub probe-requires : goal.probe-requires
unfolding first
probe-requires c =
    rw c.begin.ensures (omega arith)

pub returns-then-counts-eq0 : goal.returns-then-counts-eq0
returns-then-counts-eq0 c =
    c.probe.ensures ∙ ap (λ (x : Counts). probed x c.args.sequence) c.begin.ensures ∙ sym (judged_first c.args.counts c.args.sequence c.if-counts-eq0.true)

pub returns-then-counts-eq0-2 : goal.returns-then-counts-eq0-2
returns-then-counts-eq0-2 c =
    c.follow.ensures ∙ sym (judged_after c.args.counts c.args.sequence c.if-counts-eq0.false c.if-counts-eq0-2.true)

pub returns : goal.returns
returns c =
    c.probe-2.ensures ∙ sym (judged_probed c.args.counts c.args.sequence c.if-counts-eq0.false c.if-counts-eq0-2.false)
