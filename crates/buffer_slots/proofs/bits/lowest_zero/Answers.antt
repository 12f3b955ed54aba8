use Rattle.buffer_slots.proofs.BitLaws.{lowest_zero}
use Rattle.buffer_slots.proofs.bits.lowest_zero.Goals as goal

pub returns : goal.returns
returns c =
    lowest_zero 64 c.args.word c.ranges.word.fits
