use lib.ListN.{length}
use Rattle.read_contents.proofs.entries.+read_contents.Given as goal

abbrev pub decreases-read_contents : goal.decreases-read_contents
decreases-read_contents l = length l.s.now
