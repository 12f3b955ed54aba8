use Rattle.log_writer.proofs.RowsLaws.{row_laid}
use Rattle.log_writer.proofs.writing.lay_row.Goals as goal

pub returns : goal.returns
returns c =
    let a = c.args in
    row_laid a.row a.bytes.now a.out.now _ _ _ c.tag_channel-channel.ensures.0 c.tag_class-class.ensures c.lay_frame.ensures
