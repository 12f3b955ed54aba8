use mathlib.Core.Path.{◌∙◌, sym, ap}
use Rattle.rtp.proofs.AreaLaws.{part_to_end}
use Rattle.buffer_layout.specs.Columns.{zeros}
use Rattle.buffer_layout.proofs.ColumnLaws.{zeros_end, zeros_more}
use Rattle.buffer_layout.proofs.columns.zero_from.Goals as goal

pub loop-value-init : goal.loop-value-init
loop-value-init c = ap zeros (part_to_end c.args.n c.args.column.now)

pub loop-value-preserved : goal.loop-value-preserved
loop-value-preserved c =
    let l = c.loop-value in
    zeros_more _ l.value-index l.any c.loop-value-test.true ∙ l.invariant

pub returns : goal.returns
returns c =
    let l = c.loop-value in
    sym (zeros_end _ l.value-index l.any c.loop-value-test.false) ∙ l.invariant
