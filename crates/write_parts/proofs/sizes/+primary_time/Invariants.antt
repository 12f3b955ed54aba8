use lib.ListN.{length}
use Rattle.write_parts.proofs.sizes.+primary_time.Given as goal

abbrev pub decreases-primary_time : goal.decreases-primary_time
decreases-primary_time l = length l.counts.now
