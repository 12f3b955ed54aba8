use Rattle.report.proofs.CallLaws.{sum_bounded, report_refused, report_none, report_block}
use mathlib.Core.Path.{sym, ◌∙◌}
use Rattle.report.proofs.calls.report.Goals as goal

pub returns-then-not-well_formed : goal.returns-then-not-well_formed
returns-then-not-well_formed c =
    sym (report_refused c.args.reception (sym c.well_formed-2.ensures ∙ c.if-not-well_formed.true))

pub returns-then-reception-eq0 : goal.returns-then-reception-eq0
returns-then-reception-eq0 c =
    let e = c.default.ensures in
    rw (e.0, e.1.0, e.1.1.0, e.1.1.1) (sym (report_none c.args.reception (sym c.well_formed-2.ensures ∙ c.if-not-well_formed.false) c.if-reception-eq0.true))

pub block_of-requires : goal.block_of-requires
block_of-requires c =
    sum_bounded c.args.reception (sym c.well_formed-2.ensures ∙ c.if-not-well_formed.false)

pub returns : goal.returns
returns c =
    rw (c.block_of.ensures, c.note.ensures) (sym (report_block c.args.reception (sym c.well_formed-2.ensures ∙ c.if-not-well_formed.false) c.if-reception-eq0.false))
