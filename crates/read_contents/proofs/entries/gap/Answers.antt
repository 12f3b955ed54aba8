use Prim.Native.Nat.{◌+◌, ◌/◌}
use lib.Seq.{get_or-drop}
use native.Mathlib.Omega.{arith}
use borrow.Author.Tests.{eq-eqb, ne_eqb}
use Rattle.read_contents.specs.Contents.{gap_at}
use Rattle.read_contents.proofs.EntryLaws.{min_few, half_past}
use Rattle.read_contents.proofs.entries.gap.Goals as goal

pub overflow_add-at : goal.overflow_add-at
overflow_add-at c =
    omega (arith, c.min_entry.ensures, min_few c.args.format, c.ranges.k)

pub overflow_cast-pair : goal.overflow_cast-pair
overflow_cast-pair c =
    omega (arith, c.shared_slice_known-then-at-s-1.given (c.min_entry.result + c.args.k / 2))

pub returns-then-k-eq0 : goal.returns-then-k-eq0
unfolding gap_at
returns-then-k-eq0 c =
    (simp (← c.format_of.ensures, c.if-format_of.true, eq-eqb _ _ c.if-k-eq0.true, ← c.min_entry.ensures, get_or-drop), omega (arith, c.shared_slice_known-then-at-s-1.given (c.min_entry.result + c.args.k / 2)))

pub returns-else-k-eq0 : goal.returns-else-k-eq0
unfolding gap_at
returns-else-k-eq0 c =
    (simp (← c.format_of.ensures, c.if-format_of.true, ne_eqb _ _ c.if-k-eq0.false, ← c.min_entry.ensures, get_or-drop), omega arith)

pub returns-else-at-s : goal.returns-else-at-s
unfolding gap_at
returns-else-at-s c =
    let a = c.args in
    (simp (← c.format_of.ensures, c.if-format_of.true, ← c.min_entry.ensures, half_past a.s.now c.min_entry.result a.k (omega (arith, c.if-at-s.false))), omega arith)

pub returns-else-format_of : goal.returns-else-format_of
unfolding gap_at
returns-else-format_of c =
    (simp (← c.format_of.ensures, c.if-format_of.false), omega arith)
