use native.Mathlib.Omega.{arith}
use borrow.Author.Tests.{le-leb, lt-leb}
use Rattle.write_plan.specs.Entries.{max_blocks}
use Rattle.write_plan.proofs.planning.first_blocks.Goals as goal

pub returns-then-blocks-le-MAX_BLOCKS : goal.returns-then-blocks-le-MAX_BLOCKS
returns-then-blocks-le-MAX_BLOCKS c =
    rw (le-leb c.args.blocks max_blocks (omega (arith, c.if-blocks-le-MAX_BLOCKS.true)))

pub returns-else-blocks-le-MAX_BLOCKS : goal.returns-else-blocks-le-MAX_BLOCKS
returns-else-blocks-le-MAX_BLOCKS c =
    rw (lt-leb c.args.blocks max_blocks (omega (arith, c.if-blocks-le-MAX_BLOCKS.false)))
