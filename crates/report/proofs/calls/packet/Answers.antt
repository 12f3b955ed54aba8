use Rattle.report.proofs.CallLaws.{sum_bounded, packet_refused, packet_valid, packet_invalid}
use mathlib.Core.Path.{sym, ap, ◌∙◌}
use Rattle.report.proofs.calls.packet.Goals as goal

pub returns-then-not-well_formed : goal.returns-then-not-well_formed
returns-then-not-well_formed c =
    sym (packet_refused c.args.reception c.args.sequence c.args.timestamp c.args.arrival (sym c.well_formed-2.ensures ∙ c.if-not-well_formed.true))

pub arrive-requires : goal.arrive-requires
arrive-requires c =
    sum_bounded c.args.reception (sym c.well_formed-2.ensures ∙ c.if-not-well_formed.false)

pub returns-then-judged : goal.returns-then-judged
returns-then-judged c =
    rw (c.arrive.ensures, c.difference-transit.ensures, c.judge-judged.ensures) (sym (packet_valid c.args.reception c.args.sequence c.args.timestamp c.args.arrival (sym c.well_formed-2.ensures ∙ c.if-not-well_formed.false) (ap (λ j. j.valid) (sym c.judge-judged.ensures) ∙ c.if-judged.true)))

pub returns : goal.returns
returns c =
    rw c.judge-judged.ensures (sym (packet_invalid c.args.reception c.args.sequence c.args.timestamp c.args.arrival (sym c.well_formed-2.ensures ∙ c.if-not-well_formed.false) (ap (λ j. j.valid) (sym c.judge-judged.ensures) ∙ c.if-judged.false)))
