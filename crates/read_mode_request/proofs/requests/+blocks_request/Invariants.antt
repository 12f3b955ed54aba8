use lib.ListN.{length}
use Rattle.read_mode_request.proofs.requests.+blocks_request.Given as goal

abbrev pub decreases-blocks_request : goal.decreases-blocks_request
decreases-blocks_request l = length l.headers.now
