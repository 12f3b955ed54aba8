use Rattle.std.proofs.Common.{sym}
use Rattle.rtp.specs.Editions.{current}
use Rattle.rtp.proofs.RangeLaws.{no_channels}
use Rattle.rtp.proofs.settings.max_channels.Goals as goal

pub returns-in-Err : goal.returns-in-Err
returns-in-Err c =
    sym (no_channels current _ c.in-Err.ensures.1)
