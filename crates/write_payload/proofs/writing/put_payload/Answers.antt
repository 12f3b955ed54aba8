use mathlib.Core.Path.{refl, subst, sym}
use Prim.Native.Nat.{ℕ, ◌-◌}
use lib.ListN.{length}
use Rattle.rtp.specs.Editions.{current}
use Rattle.rtp.proofs.AreaLaws.{part_length}
use Rattle.write_payload.specs.Room.{ListRoom}
use Rattle.write_payload.proofs.PayloadLaws.{put_all}
use Rattle.write_payload.proofs.writing.put_payload.Goals as goal

pub put_list-requires : goal.put_list-requires
put_list-requires c =
    let a = c.args in
    rw (part_length c.put_request-start.new.out a.out.now c.put_request-start.result c.put_request-start.auto.out)
    (subst (λ (n : ℕ). ListRoom current a.asked.format a.asked.channels a.table (length a.bytes.now) a.rows.now (length a.out.now - n)) (sym c.put_request-start.ensures.0) c.requires.list)

pub returns : goal.returns
returns c =
    let a = c.args in
    put_all current a.asked.format a.mode_request a.asked.channels a.table a.rows.now a.bytes.now (length a.out.now) c.requires
    a.out.now c.put_request-start.new.out _ _ refl c.put_request-start.ensures.0
    c.put_request-start.ensures.1 c.put_list.ensures
