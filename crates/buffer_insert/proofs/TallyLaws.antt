-- Where no count is large, verdicts are counted one by one.
use mathlib.Core.Path.{◌≡◌}
use native.Mathlib.Omega.{arith}
use borrow.Author.Tests.{lt-ltb}
use Rattle.buffer_copies.specs.declared.verdict.Verdict.{Verdict}
use Rattle.buffer_copies.specs.declared.verdict.Verdict.TheVariants.{Late, Far, Repeated, Better, NoRoom, Inserted}
use Rattle.buffer_copies.specs.Verdicts.{counted}
use Rattle.buffer_insert.specs.declared.tally.Tally.{Tally}
use Rattle.buffer_insert.specs.Tallies.{counts_of, TallySmall, most_count, tallied}

pub tallied_is : (t : Tally) (v : Verdict) → TallySmall t 1 → tallied (counts_of t) v ≡ counted (counts_of t) v
tallied_is t Late h = rw (lt-ltb t.late most_count (omega (arith, h)))
tallied_is t Far h = rw (lt-ltb t.far most_count (omega (arith, h)))
tallied_is t Repeated h = rw (lt-ltb t.repeated most_count (omega (arith, h)))
tallied_is t Better h = rw (lt-ltb t.better most_count (omega (arith, h)))
tallied_is t NoRoom h = rw (lt-ltb t.no_room most_count (omega (arith, h)))
tallied_is t Inserted h = rw (lt-ltb t.inserted most_count (omega (arith, h)))
