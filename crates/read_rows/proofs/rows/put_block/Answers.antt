use Rattle.read_rows.proofs.RowLaws.{block_put, block_none}
use Rattle.read_rows.proofs.rows.put_block.Goals as goal

pub loop-channel-init : goal.loop-channel-init
loop-channel-init c =
    let a = c.args in record { written = block_none a.mark a.frame.time a.frame.class a.frame.start a.frame.size a.rows.now }

pub loop-channel-preserved : goal.loop-channel-preserved
loop-channel-preserved c =
    let a = c.args in
    record { written = block_put a.mark c.loop-channel.channel a.frame.time a.frame.class a.frame.start a.frame.size a.rows.now _ _ c.loop-channel.invariant.written c.put_row.ensures }
