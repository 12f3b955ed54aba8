use native.Mathlib.Omega.{arith}
use Rattle.write_plan.proofs.ListLaws.{length_rows}
use Rattle.log_writer.proofs.WritingLaws.{log_laid}
use Rattle.log_writer.proofs.writing.lay_log.Goals as goal

pub overflow_cast-count : goal.overflow_cast-count
overflow_cast-count c =
    omega (arith, c.requires.few, length_rows c.args.rows.now)

pub returns : goal.returns
returns c =
    let a = c.args in
    log_laid a.asked a.rows.now a.bytes.now a.out.now _ _ _ a.inner c.requires c.lay_settings.ensures c.lay_rows.ensures c.lay_end.ensures
