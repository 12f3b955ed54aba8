use Rattle.std.proofs.Common.{sym, ap, ◌∙◌}
use Rattle.report_sequence.specs.Sequence.{doubted, valid}
use Rattle.report_sequence.proofs.SequenceLaws.{followed_order, followed_anew, followed_doubt, followed_late}
use Rattle.report_sequence.proofs.sequence.follow.Goals as goal

pub returns-then-ahead-lt-MAX_DROPOUT : goal.returns-then-ahead-lt-MAX_DROPOUT
returns-then-ahead-lt-MAX_DROPOUT c =
    c.receive.ensures ∙ ap valid c.advance.ensures ∙ sym (followed_order c.args.counts c.args.sequence c.if-ahead-lt-MAX_DROPOUT.true)

pub returns-then-number-counts : goal.returns-then-number-counts
returns-then-number-counts c =
    c.receive-then-number-counts.ensures ∙ ap valid c.restart.ensures ∙ sym (followed_anew c.args.counts c.args.sequence c.if-ahead-lt-MAX_DROPOUT.false c.if-ahead.true c.if-number-counts.true)

pub returns-then-ahead : goal.returns-then-ahead
unfolding doubted
returns-then-ahead c =
    c.refuse.ensures
    ∙ rw c.after.ensures (sym (followed_doubt c.args.counts c.args.sequence c.if-ahead-lt-MAX_DROPOUT.false c.if-ahead.true c.if-number-counts.false))

pub returns : goal.returns
returns c =
    c.receive-2.ensures ∙ sym (followed_late c.args.counts c.args.sequence c.if-ahead-lt-MAX_DROPOUT.false c.if-ahead.false)
