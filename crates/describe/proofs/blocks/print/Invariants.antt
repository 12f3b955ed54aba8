use Rattle.std.proofs.Common.{length}
use Rattle.describe.proofs.blocks.print.Given as goal

abbrev pub decreases-loop-headers : goal.decreases-loop-headers
decreases-loop-headers l = length l.headers
