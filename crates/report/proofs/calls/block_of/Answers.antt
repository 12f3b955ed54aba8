use Rattle.report.specs.Calls.{block_of}
use Rattle.report_loss.proofs.SignedLaws.{same}
use Rattle.report.proofs.calls.block_of.Goals as goal

pub returns : goal.returns
unfolding block_of
returns c =
    rw (c.fraction_lost.ensures, same c.cumulative_lost.result (record { sfits = c.cumulative_lost.type_inv }), c.cumulative_lost.ensures, c.extended_highest.ensures)
