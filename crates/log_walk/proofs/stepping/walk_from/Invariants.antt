use mathlib.Core.Path.{◌≡◌}
use Prim.Native.Nat.{◌-◌, ◌≤◌}
use lib.ListN.{length, drop}
use Rattle.log_walk.specs.Stepping.{further, walk}
use Rattle.log_walk.proofs.stepping.walk_from.Given as goal

abbrev pub invariant-loop-f : goal.invariant-loop-f
invariant-loop-f l = (l.at ≤ length l.log) × (further l.at (walk l.settings l.count (drop l.at l.log)) ≡ further l.place (walk l.settings l.count (drop l.place l.log)))

abbrev pub decreases-loop-f : goal.decreases-loop-f
decreases-loop-f l = length l.log - l.at
