use Rattle.buffer_slots.proofs.BitLaws.{low_1, low_2, low_3}
use Rattle.buffer_slots.proofs.bits.lowest_free.Goals as goal

pub returns-then-first-lt64 : goal.returns-then-first-lt64
returns-then-first-lt64 c =
    low_1 _ _ c.lowest_zero-first.ensures c.if-first-lt64.true

pub returns-then-second-lt64 : goal.returns-then-second-lt64
returns-then-second-lt64 c =
    low_2 _ _ c.lowest_zero-first.ensures c.if-first-lt64.false _ c.lowest_zero-second.ensures c.if-second-lt64.true

pub returns : goal.returns
returns c =
    low_3 _ _ c.lowest_zero-first.ensures c.if-first-lt64.false _ c.lowest_zero-second.ensures c.if-second-lt64.false _
    c.lowest_zero.ensures
