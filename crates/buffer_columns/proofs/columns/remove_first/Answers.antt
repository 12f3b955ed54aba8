use mathlib.Core.Path.{◌∙◌, sym, ap}
use mathlib.Core.List.{List}
use Prim.Native.Nat.{ℕ, ◌-◌}
use lib.ListN.{set}
use native.Mathlib.Omega.{arith}
use Rattle.buffer_layout.proofs.ColumnLaws.{remove_moved}
use Rattle.buffer_columns.proofs.BoundLaws.{removal_is, removal_none, removal_past}
use Rattle.buffer_columns.proofs.columns.remove_first.Goals.{then-n-eq0-via-then-n-eq0, then-n-eq0-via-else-n-eq0+then-n-gt-SLOTS}
use Rattle.buffer_columns.proofs.columns.remove_first.Goals as goal

pub returns-then-n-eq0 : goal.returns-then-n-eq0
returns-then-n-eq0 c =
    elim c.then-n-eq0.branch [
      | then-n-eq0-via-then-n-eq0 w ↦ sym (removal_none _ _ w.if-n-eq0.true)
      | then-n-eq0-via-else-n-eq0+then-n-gt-SLOTS w ↦ sym (removal_past _ _ w.if-n-gt-SLOTS.true)
    ]

pub returns : goal.returns
returns c =
    let a = c.args in
    ap (λ (ys : List ℕ). set ys (a.n - 1) 0) c.copy_within.ensures.after
    ∙ remove_moved a.column.now a.n (omega arith) (omega arith)
    ∙ sym (removal_is _ _ (omega arith) c.if-n-gt-SLOTS.false)
