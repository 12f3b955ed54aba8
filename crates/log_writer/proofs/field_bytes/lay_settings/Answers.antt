use native.Mathlib.Omega.{arith}
use lib.ListN.{length-set}
use Rattle.log_writer.proofs.FieldBytesLaws.{settings_laid}
use Rattle.log_writer.proofs.field_bytes.lay_settings.Goals as goal

pub bounds-out-4 : goal.bounds-out-4
bounds-out-4 c =
    simp length-set (omega arith)

pub bounds-out-5 : goal.bounds-out-5
bounds-out-5 c =
    simp length-set (omega arith)

pub returns : goal.returns
returns c =
    let a = c.args in
    settings_laid a.out.now a.asked _ c.requires c.lay_head.ensures
