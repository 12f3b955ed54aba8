use Rattle.std.proofs.Common.{◌≡◌}
use Rattle.rtp.specs.Areas.{over}
use Rattle.read_rows.specs.Rows.{words, block_rows, marked}
use Rattle.read_rows.proofs.rows.put_block.Given as goal

abbrev pub invariant-loop-channel : goal.invariant-loop-channel
invariant-loop-channel l =
    record {
      written : l.rows ≡ over (words (marked l.mark (block_rows l.channel 0 l.frame.time l.frame.class l.frame.start l.frame.size))) l.fn.rows;
    }
