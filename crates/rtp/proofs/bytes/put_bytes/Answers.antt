use Rattle.std.proofs.Common.{sym}
use Rattle.rtp.specs.Areas.{over}
use Rattle.rtp.proofs.AreaLaws.{fitted_in, fitted_short}
use Rattle.rtp.proofs.bytes.put_bytes.Goals as goal

pub returns-then-src-out : goal.returns-then-src-out
unfolding over
returns-then-src-out c =
    rw c.copy_from_slice.ensures.after (sym (fitted_in _ _ c.if-src-out.true))

pub returns-else-src-out : goal.returns-else-src-out
returns-else-src-out c =
    sym (fitted_short _ _ c.if-src-out.false)
