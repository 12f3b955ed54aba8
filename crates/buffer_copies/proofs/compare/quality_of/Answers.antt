use borrow.Author.Tests.{le-leb, lt-leb}
use Rattle.buffer_copies.specs.Copies.{quality}
use Rattle.buffer_copies.proofs.compare.quality_of.Goals as goal

pub returns-then-class-le-SID : goal.returns-then-class-le-SID
unfolding quality
returns-then-class-le-SID c =
    rw (le-leb _ _ c.if-class-le-SID.true)

pub returns : goal.returns
unfolding quality
returns c =
    rw (lt-leb _ _ c.if-class-le-SID.false)
