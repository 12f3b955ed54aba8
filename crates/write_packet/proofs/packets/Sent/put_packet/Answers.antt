use Prim.Native.Nat.{ℕ, ◌-◌}
use mathlib.Core.Path.{refl, ap, sym, ◌∙◌}
use mathlib.Core.List.{List, ◌++◌}
use native.Mathlib.Omega.{arith}
use lib.ListN.{length}
use Rattle.rtp.specs.Editions.{current}
use Rattle.rtp.specs.Sizes.{min_packet}
use Rattle.rtp.specs.Areas.{over}
use Rattle.rtp.proofs.AreaLaws.{over_part, part_length}
use Rattle.read_rows.specs.Rows.{rows_in}
use Rattle.write_parts.specs.Parts.{parts}
use Rattle.write_parts.specs.Headings.{header_bytes}
use Rattle.write_packet.specs.Packets.{assembled_from}
use Rattle.write_packet.specs.Room.{lists_payloads, lists_headers, list_headers_size}
use Rattle.rtp.proofs.RangeLaws.{ranged}
use Rattle.write_sizes.proofs.RequestLaws.{asked}
use Rattle.write_parts.proofs.HeadingLaws.{header_in}
use Rattle.write_packet.proofs.FromLaws.{from_front}
use Rattle.write_packet.proofs.ListBytesLaws.{length_headers, payloads_one}
use Rattle.write_packet.proofs.PutLaws.{room_one}
use Rattle.write_packet.proofs.SendingLaws.{Plain, plain_packet, Redundant, redundant_packet}
use Rattle.write_packet.proofs.packets.Sent.put_packet.Goals.{Else-counts-lt2, Then-counts-lt2}
use Rattle.write_packet.proofs.packets.Sent.put_packet.Goals as goal

plain_at : (c : Then-counts-lt2) → let a = c.args in Plain current a.self.now.asked a.self.now.mode_request c.args.heading a.self.now.time a.self.now.bytes.now a.counts.now a.rows.now (length a.out.now) (assembled_from a.self.now.asked c.args.heading a.self.now.time (parts current a.self.now.asked a.self.now.mode_request a.self.now.bytes.now a.self.now.time a.counts.now (rows_in a.rows.now)))
plain_at c =
    let a = c.args in plain_packet current a.self.now.asked a.self.now.mode_request c.args.heading a.self.now.time a.self.now.bytes.now a.counts.now a.rows.now (length a.out.now) c.requires c.if-counts-lt2.true

redundant-at : (c : Else-counts-lt2) → let a = c.args in Redundant current a.self.now.asked a.self.now.mode_request c.args.heading a.self.now.time a.self.now.bytes.now a.counts.now a.rows.now (length a.out.now) (assembled_from a.self.now.asked c.args.heading a.self.now.time (parts current a.self.now.asked a.self.now.mode_request a.self.now.bytes.now a.self.now.time a.counts.now (rows_in a.rows.now)))
redundant-at c =
    let a = c.args in redundant_packet current a.self.now.asked a.self.now.mode_request c.args.heading a.self.now.time a.self.now.bytes.now a.counts.now a.rows.now (length a.out.now) c.requires c.if-counts-lt2.false

pub slice_bounds-put_list-count : goal.slice_bounds-put_list-count
slice_bounds-put_list-count c =
    omega (arith, (plain_at (goal.at.slice_bounds-put_list-count c).Then-counts-lt2).room, c.put_header.auto.out)

pub slice_bounds-put_list-start : goal.slice_bounds-put_list-start
slice_bounds-put_list-start c =
    omega (arith, (plain_at (goal.at.slice_bounds-put_list-start c).Then-counts-lt2).room, c.put_header.auto.out)

pub put_list-requires : goal.put_list-requires
put_list-requires c =
    let a = c.args in
    rw (part_length c.put_header.new.out a.out.now min_packet c.put_header.auto.out)
    (room_one current a.self.now.asked a.self.now.mode_request a.self.now.bytes.now a.counts.now a.rows.now (length a.out.now - min_packet) (plain_at (goal.at.put_list-requires c).Then-counts-lt2).payloads c.if-counts-lt2.true)

pub returns-then-counts-lt2 : goal.returns-then-counts-lt2
returns-then-counts-lt2 c =
    let a = c.args in
    over_part (header_bytes c.args.heading a.self.now.asked.payload_type a.self.now.time) (lists_payloads current a.self.now.asked a.self.now.mode_request a.self.now.bytes.now a.counts.now a.rows.now) a.out.now c.put_header.new.out _ min_packet refl
    (c.put_header.ensures ∙ header_in c.args.heading a.self.now.asked.payload_type a.self.now.time a.out.now (ranged current a.self.now.asked (asked current a.self.now.asked a.self.now.mode_request c.requires.settings).settings).plain (plain_at (goal.at.returns-then-counts-lt2 c).Then-counts-lt2).room)
    (c.put_list.ensures.1 ∙ rw (payloads_one current a.self.now.asked a.self.now.mode_request a.self.now.bytes.now a.counts.now a.rows.now c.if-counts-lt2.true))
    ∙ ap (λ (x : List ℕ). over x a.out.now) (sym (plain_at (goal.at.returns-then-counts-lt2 c).Then-counts-lt2).packet)

pub slice_bounds-put_blocks-count : goal.slice_bounds-put_blocks-count
slice_bounds-put_blocks-count c =
    omega (arith, (redundant-at (goal.at.slice_bounds-put_blocks-count c).Else-counts-lt2).room, c.put_header-2.auto.out)

pub slice_bounds-put_blocks-start : goal.slice_bounds-put_blocks-start
slice_bounds-put_blocks-start c =
    omega (arith, (redundant-at (goal.at.slice_bounds-put_blocks-start c).Else-counts-lt2).room, c.put_header-2.auto.out)

pub put_blocks-requires : goal.put_blocks-requires
put_blocks-requires c =
    rw (part_length c.put_header-2.new.out c.args.out.now min_packet c.put_header-2.auto.out) (redundant-at (goal.at.put_blocks-requires c).Else-counts-lt2).blocks

pub returns : goal.returns
returns c =
    let a = c.args in
    over_part (header_bytes c.args.heading a.self.now.asked.redundancy_type a.self.now.time) (lists_headers current a.self.now.asked a.self.now.mode_request a.self.now.time a.self.now.bytes.now a.counts.now a.rows.now ++ lists_payloads current a.self.now.asked a.self.now.mode_request a.self.now.bytes.now a.counts.now a.rows.now) a.out.now c.put_header-2.new.out _ min_packet refl
    (c.put_header-2.ensures ∙ header_in c.args.heading a.self.now.asked.redundancy_type a.self.now.time a.out.now (redundant-at (goal.at.returns c).Else-counts-lt2).type (redundant-at (goal.at.returns c).Else-counts-lt2).room)
    (c.put_blocks.ensures
    ∙ from_front (lists_headers current a.self.now.asked a.self.now.mode_request a.self.now.time a.self.now.bytes.now a.counts.now a.rows.now) (lists_payloads current a.self.now.asked a.self.now.mode_request a.self.now.bytes.now a.counts.now a.rows.now) _
    (list_headers_size (length a.counts.now)) (length_headers current a.self.now.asked a.self.now.mode_request a.self.now.time a.self.now.bytes.now a.counts.now a.rows.now)
    (rw (part_length c.put_header-2.new.out a.out.now min_packet c.put_header-2.auto.out) (redundant-at (goal.at.returns c).Else-counts-lt2).blocks.inside))
    ∙ ap (λ (x : List ℕ). over x a.out.now) (sym (redundant-at (goal.at.returns c).Else-counts-lt2).packet)
