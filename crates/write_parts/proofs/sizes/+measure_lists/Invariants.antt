use lib.ListN.{length}
use Rattle.write_parts.proofs.sizes.+measure_lists.Given as goal

abbrev pub decreases-measure_lists : goal.decreases-measure_lists
decreases-measure_lists l = length l.counts.now
