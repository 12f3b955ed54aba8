use Rattle.std.proofs.Common.{length}
use Rattle.read_rows.proofs.rows.+put_contents.Given as goal

abbrev pub decreases-put_contents : goal.decreases-put_contents
decreases-put_contents l = length l.s.now
