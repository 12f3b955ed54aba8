use Prim.Native.Nat.{◌≤◌}
use lib.Dec.{eqb}
use mathlib.Core.Path.{◌≡◌}
use Rattle.buffer_layout.specs.Checks.{entries_pass}
use Rattle.buffer_layout.proofs.PositionLaws.{Told}
use Rattle.buffer_layout.proofs.CheckLaws.{rest_fine}
use Rattle.buffer_layout.proofs.well_formed.entries_pass.Given as goal

abbrev pub invariant-loop-i : goal.invariant-loop-i
invariant-loop-i l = (l.i ≤ l.n) × (rest_fine l.times l.tags l.lengths l.slots l.occupied l.fixed l.n l.i l.seen ≡ entries_pass l.times l.tags l.lengths l.slots l.occupied l.fixed l.n)
    × Told (eqb l.fixed.drawn 0) l.fixed.last_time l.fixed.last_channel l.times l.tags l.i l.least
