use mathlib.Core.Path.{◌≡◌, sym, ◌∙◌}
use mathlib.Core.Bool.{true, false, true≢false}
use lib.Dec.{ltb}
use borrow.Author.Tests.{eq-eqb, ne_eqb}
use Rattle.buffer_copies.specs.Pairs.{half}
use Rattle.buffer_layout.specs.Columns.{fits_from}
use Rattle.buffer_columns.proofs.columns.in_stretch.Goals.{then-count-eq0, else-count-eq0}
use Rattle.buffer_columns.proofs.columns.in_stretch.Goals as goal

pub returns-then-ticks_ahead-lt-HALF : goal.returns-then-ticks_ahead-lt-HALF
unfolding fits_from
returns-then-ticks_ahead-lt-HALF c =
    let v = c.if-ticks_ahead-lt-HALF.true in
    v ∙ elim c.if-count-eq0.branch [
      | then-count-eq0 w ↦ rw (← c.used-count.ensures, eq-eqb _ _ w.if-count-eq0.true)
      | else-count-eq0 w ↦
          let e : ltb w.ticks_ahead.result half ≡ true = sym w.value-is ∙ v in rw (← c.used-count.ensures, ne_eqb _ _ w.if-count-eq0.false, ← w.ticks_ahead.ensures, e)
    ]

pub returns-else-ticks_ahead-lt-HALF : goal.returns-else-ticks_ahead-lt-HALF
unfolding fits_from
returns-else-ticks_ahead-lt-HALF c =
    let v = c.if-ticks_ahead-lt-HALF.false in
    elim c.if-count-eq0.branch [
      | then-count-eq0 w ↦ absurd (true≢false (sym (eq-eqb _ _ w.if-count-eq0.true) ∙ sym w.value-is ∙ v))
      | else-count-eq0 w ↦
          let e : ltb w.ticks_ahead.result half ≡ false = sym w.value-is ∙ v in
          rw (← c.used-count.ensures, ne_eqb _ _ w.if-count-eq0.false, ← w.ticks_ahead.ensures, e) c.all_within.ensures
    ]
