use lib.ListN.{length}
use Rattle.read_redundancy.proofs.blocks.+check_blocks.Given as goal

abbrev pub decreases-check_blocks : goal.decreases-check_blocks
decreases-check_blocks l = length l.headers.now
