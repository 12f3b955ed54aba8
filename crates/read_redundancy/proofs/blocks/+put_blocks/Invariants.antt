use lib.ListN.{length}
use Rattle.read_redundancy.proofs.blocks.+put_blocks.Given as goal

abbrev pub decreases-put_blocks : goal.decreases-put_blocks
decreases-put_blocks l = length l.headers.now
