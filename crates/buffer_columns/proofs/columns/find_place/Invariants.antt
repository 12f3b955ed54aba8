use Prim.Native.Nat.{◌+◌, ◌-◌, ◌≤◌}
use mathlib.Core.Path.{◌≡◌}
use Rattle.buffer_copies.specs.Sizes.{slots}
use Rattle.buffer_columns.specs.Bounds.{used}
use Rattle.buffer_columns.specs.Places.{halving}
use Rattle.buffer_columns.proofs.SearchLaws.{left}
use Rattle.buffer_columns.proofs.columns.find_place.Given as goal

abbrev pub invariant-loop-width : goal.invariant-loop-width
invariant-loop-width l = (l.low ≤ l.high) × (l.high ≤ slots) × (l.compared + (l.high - l.low) ≤ slots) × (left l.times l.tags l.time l.channel l.low l.high l.compared ≡ halving l.times l.tags l.time l.channel (used l.n))

abbrev pub decreases-loop-width : goal.decreases-loop-width
decreases-loop-width l = l.high - l.low
