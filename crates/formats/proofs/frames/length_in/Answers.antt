use Rattle.std.proofs.Common.{◌∙◌}
use Rattle.formats.specs.Frames.{g719_length, amr_length, amr_wb_length, length_in}
use Rattle.formats.proofs.TableRule.{entry}
use Rattle.formats.proofs.frames.length_in.Goals as goal

pub returns-in-G719 : goal.returns-in-G719
unfolding length_in g719_length
returns-in-G719 c =
    rw c.in-G719.is (c.from.ensures ∙ entry g719_length 32 c.args.kind 0 (rw c.in-G719.is at c.requires))

pub returns-in-GsmHr : goal.returns-in-GsmHr
returns-in-GsmHr c =
    rw c.in-GsmHr.is c.gsm_hr_length.ensures

pub returns-in-Amr : goal.returns-in-Amr
unfolding length_in amr_length
returns-in-Amr c =
    rw c.in-Amr.is (c.from-in-Amr.ensures ∙ entry amr_length 16 c.args.kind 0 (rw c.in-Amr.is at c.requires))

pub returns-in-AmrWb : goal.returns-in-AmrWb
unfolding length_in amr_wb_length
returns-in-AmrWb c =
    rw c.in-AmrWb.is (c.from-in-AmrWb.ensures ∙ entry amr_wb_length 16 c.args.kind 0 (rw c.in-AmrWb.is at c.requires))

pub returns-in-Empty : goal.returns-in-Empty
unfolding length_in
returns-in-Empty c =
    rw c.in-Empty.is
