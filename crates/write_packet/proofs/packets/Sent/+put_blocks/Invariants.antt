use lib.ListN.{length}
use Rattle.write_packet.proofs.packets.Sent.+put_blocks.Given as goal

abbrev pub decreases-put_blocks : goal.decreases-put_blocks
decreases-put_blocks l = length l.counts.now
