use borrow.Author.Tests.{lt-ltb, le-ltb}
use Rattle.write_parts.proofs.sizes.within_packet.Goals as goal

pub returns-then-size-gt-MAX_PACKET : goal.returns-then-size-gt-MAX_PACKET
returns-then-size-gt-MAX_PACKET c =
    rw (lt-ltb _ _ c.if-size-gt-MAX_PACKET.true)

pub returns : goal.returns
returns c =
    rw (le-ltb _ _ c.if-size-gt-MAX_PACKET.false)
