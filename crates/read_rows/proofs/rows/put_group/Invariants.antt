use Rattle.std.proofs.Common.{◌≡◌}
use Rattle.rtp.specs.Areas.{over}
use Rattle.formats.specs.Frames.{step_of}
use Rattle.read_contents.specs.Contents.{gaps_from}
use Rattle.read_rows.specs.Rows.{words, time_after, group_rows, marked}
use Rattle.read_rows.proofs.rows.put_group.Given as goal

abbrev pub invariant-loop-k : goal.invariant-loop-k
invariant-loop-k l =
    record {
      counted : l.time ≡ time_after (step_of l.payload.format) l.frame.time (gaps_from l.payload.format l.s 0 l.k);
      written : l.rows ≡ over (words (marked l.payload.mark (group_rows (step_of l.payload.format) l.payload.channels l.frame.time l.frame.class l.frame.start l.frame.size (gaps_from l.payload.format l.s 0 l.k)))) l.fn.rows;
    }
