use lib.ListN.{length}
use Rattle.write_payload.proofs.tables.+joined_blocks.Given as goal

abbrev pub decreases-joined_blocks : goal.decreases-joined_blocks
decreases-joined_blocks l = length l.rows.now
