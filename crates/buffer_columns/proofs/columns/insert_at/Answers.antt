use mathlib.Core.Path.{◌∙◌, sym, ap}
use mathlib.Core.List.{List}
use Prim.Native.Nat.{ℕ}
use lib.ListN.{set}
use native.Mathlib.Omega.{arith}
use Rattle.buffer_layout.proofs.ColumnLaws.{insert_moved}
use Rattle.buffer_columns.proofs.BoundLaws.{insertion_is, insertion_past, insertion_full}
use Rattle.buffer_columns.proofs.columns.insert_at.Goals.{then-n-at-via-then-n-at, then-n-at-via-else-n-at+then-n-ge-SLOTS}
use Rattle.buffer_columns.proofs.columns.insert_at.Goals as goal

pub returns-then-n-at : goal.returns-then-n-at
returns-then-n-at c =
    elim c.then-n-at.branch [
      | then-n-at-via-then-n-at w ↦ sym (insertion_past _ _ _ _ w.if-n-at.true)
      | then-n-at-via-else-n-at+then-n-ge-SLOTS w ↦ sym (insertion_full _ _ _ _ w.if-n-at.false w.if-n-ge-SLOTS.true)
    ]

pub returns : goal.returns
returns c =
    let a = c.args in
    ap (λ (ys : List ℕ). set ys a.at a.value) c.copy_within.ensures.after
    ∙ insert_moved a.column.now a.n a.at a.value c.if-n-at.false (omega arith)
    ∙ sym (insertion_is _ _ _ _ c.if-n-at.false c.if-n-ge-SLOTS.false)
