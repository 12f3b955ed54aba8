-- Which records are taken (document 02, P7): probation at most 2 and the jitter sum at most 2^35 - 8. Any other number may be anything.
use Rattle.std.specs.Prelude.{Bool, true, false, cond, ltb}
use Rattle.report_sequence.specs.Sizes.{min_sequential}
use Rattle.report.specs.Sizes.{max_sum}
use Rattle.report.specs.declared.record.Reception.{Reception}

unfoldable pub well_formed : Reception → Bool
well_formed r = cond (ltb min_sequential r.counts.probation) false (cond (ltb max_sum r.jitter) false true)
