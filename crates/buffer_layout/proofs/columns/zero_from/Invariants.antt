use mathlib.Core.Path.{◌≡◌}
use mathlib.Core.Bool.{cond, false}
use lib.Dec.{eqb}
use lib.ListN.{drop}
use Rattle.buffer_layout.specs.Columns.{zeros}
use Rattle.buffer_layout.proofs.columns.zero_from.Given as goal

abbrev pub invariant-loop-value : goal.invariant-loop-value
invariant-loop-value l = cond (eqb l.any 0) (zeros (drop l.value-index l.value-items)) false ≡ zeros (drop l.n l.column)
