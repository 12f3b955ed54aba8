use Prim.Native.Nat.{◌≤◌}
use mathlib.Core.Path.{◌∙◌}
use native.Mathlib.Omega.{arith}
use lib.ListN.{length}
use Rattle.rtp.specs.Editions.{current}
use Rattle.write_parts.proofs.HeadingLaws.{block_in}
use Rattle.write_packet.specs.Room.{list_bytes, over_from}
use Rattle.write_packet.proofs.FromLaws.{from_part, from_length}
use Rattle.write_packet.proofs.packets.Sent.put_block.Goals as goal

pub returns : goal.returns
returns c =
    let a = c.args in
    let r = c.requires in
    let p = list_bytes current a.self.now.asked a.self.now.mode_request a.self.now.bytes.now a.rows.now in
    let laid = from_part p a.out.now _ a.start c.put_list-size.ensures.1 in
    let room : 4 ≤ length (over_from a.start p a.out.now) = omega (arith, r.apart, from_length a.start p a.out.now r.inside) in (
      c.put_list-size.ensures.0,
      c.put_block_header.ensures
          ∙ rw (c.offset_of-offset.ensures, c.put_list-size.ensures.0, laid) (block_in _ _ _ _ r.fits.type r.fits.near r.fits.short room),
    )
