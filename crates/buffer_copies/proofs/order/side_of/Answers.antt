use Rattle.buffer_copies.specs.Pairs.{order}
use Rattle.buffer_copies.proofs.SideLaws.{side_cmp}
use borrow.Author.Tests.{eq-eqb, ne_eqb}
use Rattle.buffer_copies.proofs.order.side_of.Goals as goal

pub returns-then-t-h : goal.returns-then-t-h
unfolding order
returns-then-t-h c =
    rw (eq-eqb _ _ c.if-t-h.true) (side_cmp c.args.c c.args.d c.cmp.result c.cmp.ensures)

pub returns-then-is_after : goal.returns-then-is_after
unfolding order
returns-then-is_after c =
    simp (ne_eqb _ _ c.if-t-h.false, ← c.is_after.ensures, c.if-is_after.true)

pub returns : goal.returns
unfolding order
returns c =
    simp (ne_eqb _ _ c.if-t-h.false, ← c.is_after.ensures, c.if-is_after.false)
