use Rattle.buffer_slots.proofs.BitLaws.{add_lt}
use Rattle.buffer_slots.proofs.bits.with_bit.Goals as goal

pub overflow_add-result : goal.overflow_add-result
overflow_add-result c =
    let a = c.args in
    record { fits = rw c.power.ensures (add_lt a.bit 64 a.word c.requires.0 c.ranges.word.fits c.requires.1) }
