use lib.ListN.{length}
use Rattle.read_headers.proofs.redundancy.+headers_from.Given as goal

abbrev pub decreases-headers_from : goal.decreases-headers_from
decreases-headers_from l = length l.s.now
