use mathlib.Core.Path.{ap, ◌∙◌}
use lib.ListN.{length}
use Rattle.rtp.specs.Editions.{current}
use Rattle.rtp.specs.Areas.{over}
use Rattle.write_payload.specs.Writings.{Encoded, encoded_bytes}
use Rattle.write_packet.proofs.PutLaws.{list_writing, list_size}
use Rattle.write_packet.proofs.packets.Sent.put_list.Goals as goal

pub returns : goal.returns
returns c =
    let a = c.args in (
      c.unwrap_or.ensures ∙ list_size current a.self.now.asked a.self.now.mode_request a.self.now.bytes.now a.rows.now (length a.out.now) c.requires _ c.write_payload-written.ensures.0,
      c.write_payload-written.ensures.1 ∙ ap (λ (x : Encoded). over (encoded_bytes x) a.out.now) (list_writing current a.self.now.asked a.self.now.mode_request a.self.now.bytes.now a.rows.now (length a.out.now) c.requires),
    )
