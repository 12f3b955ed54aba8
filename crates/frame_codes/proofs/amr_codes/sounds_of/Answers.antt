use mathlib.Core.Path.{ap, sym}
use Rattle.formats.specs.Frames.{amr_length, amr_wb_length, length_in}
use Rattle.frame_codes.specs.Codes.{sound_bits}
use Rattle.frame_codes.proofs.amr_codes.sounds_of.Goals as goal

pub returns-in-Amr : goal.returns-in-Amr
unfolding sound_bits length_in amr_length
returns-in-Amr c =
    sym (ap sound_bits c.in-Amr.is)

pub returns-in-AmrWb : goal.returns-in-AmrWb
unfolding sound_bits length_in amr_wb_length
returns-in-AmrWb c =
    sym (ap sound_bits c.in-AmrWb.is)

pub returns-in-G719 : goal.returns-in-G719
unfolding sound_bits
returns-in-G719 c =
    sym (ap sound_bits c.in-G719.is)

pub returns-in-GsmHr : goal.returns-in-GsmHr
unfolding sound_bits
returns-in-GsmHr c =
    sym (ap sound_bits c.in-GsmHr.is)

pub returns-in-Empty : goal.returns-in-Empty
unfolding sound_bits
returns-in-Empty c =
    sym (ap sound_bits c.in-Empty.is)
