use Rattle.log_writer.proofs.FieldBytesLaws.{end_laid}
use Rattle.log_writer.proofs.field_bytes.lay_end.Goals as goal

pub returns : goal.returns
returns c =
    let a = c.args in
    end_laid a.out.now a.count _ _ c.requires c.lay_head.ensures c.put_u32.ensures
