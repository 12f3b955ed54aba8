use mathlib.Core.Path.{sym}
use native.Mathlib.Omega.{arith}
use Rattle.buffer_columns.proofs.BoundLaws.{laid_past, laid_part}
use Rattle.buffer_columns.proofs.areas.copy_into.Goals as goal

pub returns-then-area-at : goal.returns-then-area-at
returns-then-area-at c =
    sym (laid_past _ _ _ (omega (arith, c.if-area-at.true)))

pub returns : goal.returns
returns c =
    let a = c.args in
    laid_part a.area.now a.at a.src.now c.if-area-at.false _ c.put_bytes.ensures
