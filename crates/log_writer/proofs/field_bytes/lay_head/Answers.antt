use native.Mathlib.Omega.{arith}
use lib.ListN.{length-set}
use Rattle.log_writer.proofs.FieldBytesLaws.{head_laid}
use Rattle.log_writer.proofs.field_bytes.lay_head.Goals as goal

pub slice_bounds-put_u16-count : goal.slice_bounds-put_u16-count
slice_bounds-put_u16-count c =
    simp length-set (omega arith)

pub slice_bounds-put_u16-start : goal.slice_bounds-put_u16-start
slice_bounds-put_u16-start c =
    simp length-set (omega arith)

pub shape_of-out : goal.shape_of-out
shape_of-out c =
    omega (arith, length-set c.args.out.now 0 c.args.tag)

pub returns : goal.returns
returns c =
    let a = c.args in
    head_laid a.out.now a.tag a.size _ c.requires c.put_u16.ensures
