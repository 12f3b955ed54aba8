use Rattle.std.proofs.Common.{arith, length-set}
use Rattle.rtp.proofs.AreaLaws.{over_four}
use Rattle.read_rows.proofs.rows.put_row.Goals as goal

pub bounds-rows-1 : goal.bounds-rows-1
bounds-rows-1 c =
    simp length-set (omega arith)

pub bounds-rows-2 : goal.bounds-rows-2
bounds-rows-2 c =
    simp length-set (omega arith)

pub returns : goal.returns
returns c =
    rw c.pack_tag.ensures (over_four _ _ _ _ _ c.requires.area_fits)
