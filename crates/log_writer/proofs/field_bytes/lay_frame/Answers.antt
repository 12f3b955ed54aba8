use native.Mathlib.Omega.{arith}
use mathlib.Core.Path.{ap, ◌∙◌}
use lib.ListN.{length, length-set}
use Rattle.log_writer.proofs.FieldBytesLaws.{frame_laid, length_frame}
use Rattle.rtp.proofs.AreaLaws.{length_over}
use Rattle.log_writer.proofs.field_bytes.lay_frame.Goals as goal

pub bounds-out-8 : goal.bounds-out-8
bounds-out-8 c =
    simp length-set (omega arith)

pub slice_bounds-put_bytes-count : goal.slice_bounds-put_bytes-count
slice_bounds-put_bytes-count c =
    simp length-set (omega arith)

pub slice_bounds-put_bytes-start : goal.slice_bounds-put_bytes-start
slice_bounds-put_bytes-start c =
    simp length-set (omega arith)

pub returns : goal.returns
returns c =
    let a = c.args in
    frame_laid a.out.now a.time a.channel a.class a.frame.now _ _ c.requires.room c.lay_head.ensures c.put_u32.ensures _ c.put_bytes.ensures

pub shape_of-out : goal.shape_of-out
shape_of-out c =
    let a = c.args in
    ap length (returns c) ∙ length_over _ a.out.now (rw (length_frame a.time a.channel a.class a.frame.now) c.requires.room)
