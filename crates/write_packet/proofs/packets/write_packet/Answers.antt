use mathlib.Core.Path.{◌≡◌, ap, sym, ◌∙◌}
use mathlib.Core.Bool.{true, false}
use lib.ListN.{length}
use Rattle.rtp.specs.Editions.{current}
use Rattle.rtp.specs.Areas.{over}
use Rattle.read_rows.specs.Rows.{rows_in}
use Rattle.write_plan.specs.Lists.{outside}
use Rattle.write_payload.specs.Writings.{Encoded, room_for, encoded_numbers, encoded_bytes}
use Rattle.write_sizes.specs.Measures.{written_numbers}
use Rattle.write_sizes.specs.Asking.{askable}
use Rattle.write_sizes.proofs.RequestLaws.{asked}
use Rattle.write_payload.proofs.WritingLaws.{refused_pair}
use Rattle.write_parts.specs.Parts.{parts, counts_fit}
use Rattle.write_packet.specs.Packets.{assembled_from, sending}
use Rattle.write_parts.proofs.ListsLaws.{told_none, told_bytes, size_few}
use Rattle.write_packet.proofs.ListPartLaws.{agrees}
use Rattle.write_packet.proofs.SendingLaws.{assembled_numbers, Fitting, fitting, sending_out, sending_outside, sending_unfit, sending_fit, refused_packet, packet_short, packet_fits, packet_room}
use Rattle.write_packet.proofs.packets.write_packet.Goals.{After-packet_size, After-primary_time-time, Else-any_outside, In-Ok, Else-not-counts_fit, Else-not-in_range}
use Rattle.write_packet.proofs.packets.write_packet.Goals as goal

range_at : (c : Else-not-in_range) → askable current c.args.asked c.args.mode_request ≡ true
range_at c =
    sym c.in_range.ensures ∙ c.if-not-in_range.false

inside-at : (c : Else-any_outside) → outside (length c.args.bytes.now) (rows_in c.args.rows.now) ≡ false
inside-at c =
    sym c.any_outside.ensures ∙ c.if-any_outside.false

fits-at : (c : Else-not-counts_fit) → Fitting c.args.counts.now c.args.rows.now
fits-at c =
    let fit_at : counts_fit current c.args.counts.now c.args.rows.now ≡ true = sym c.counts_fit.ensures ∙ c.if-not-counts_fit.false in
    fitting current c.args.counts.now c.args.rows.now (fit_at)

sending-at : (c : After-primary_time-time) → let a = c.args in sending current a.asked a.mode_request ((record { marker = c.args.marker; sequence = c.args.sequence; source = c.args.source })) a.counts.now a.rows.now a.bytes.now (length a.out.now) ≡ room_for (length a.out.now) ((let a = c.args in assembled_from a.asked ((record { marker = c.args.marker; sequence = c.args.sequence; source = c.args.source })) c.primary_time-time.result (parts current a.asked a.mode_request a.bytes.now c.primary_time-time.result a.counts.now (rows_in a.rows.now))))
sending-at c =
    let range_at : askable current c.args.asked c.args.mode_request ≡ true = sym c.in_range.ensures ∙ c.if-not-in_range.false in
    let inside-at : outside (length c.args.bytes.now) (rows_in c.args.rows.now) ≡ false = sym c.any_outside.ensures ∙ c.if-any_outside.false in
    let fit_at : counts_fit current c.args.counts.now c.args.rows.now ≡ true = sym c.counts_fit.ensures ∙ c.if-not-counts_fit.false in
    let a = c.args in sending_fit current a.asked a.mode_request ((record { marker = c.args.marker; sequence = c.args.sequence; source = c.args.source })) a.counts.now a.rows.now a.bytes.now (length a.out.now) (range_at) (inside-at) (fit_at) c.primary_time-time.result c.primary_time-time.ensures

-- its bytes, as they were measured
numbers-at : (c : After-packet_size) → written_numbers c.packet_size.result ≡ encoded_numbers ((let a = c.args in assembled_from a.asked ((record { marker = c.args.marker; sequence = c.args.sequence; source = c.args.source })) c.primary_time-time.result (parts current a.asked a.mode_request a.bytes.now c.primary_time-time.result a.counts.now (rows_in a.rows.now))))
numbers-at c =
    let range_at : askable current c.args.asked c.args.mode_request ≡ true = sym c.in_range.ensures ∙ c.if-not-in_range.false in
    let inside-at : outside (length c.args.bytes.now) (rows_in c.args.rows.now) ≡ false = sym c.any_outside.ensures ∙ c.if-any_outside.false in
    let fit_at : counts_fit current c.args.counts.now c.args.rows.now ≡ true = sym c.counts_fit.ensures ∙ c.if-not-counts_fit.false in
    let fits-at : Fitting c.args.counts.now c.args.rows.now = fitting current c.args.counts.now c.args.rows.now (fit_at) in
    let a = c.args in
    let t = c.primary_time-time.result in
    let f = fits-at in
    c.packet_size.ensures
    ∙ size_few current a.asked t a.counts.now a.rows.now f.few
    ∙ sym (assembled_numbers current a.asked a.mode_request ((record { marker = c.args.marker; sequence = c.args.sequence; source = c.args.source })) t a.bytes.now a.counts.now a.rows.now (parts current a.asked a.mode_request a.bytes.now t a.counts.now (rows_in a.rows.now))
    (agrees current a.asked a.mode_request a.bytes.now t (asked current a.asked a.mode_request (range_at)).settings a.counts.now a.rows.now f.some f.counted (inside-at)))

size-at : (c : In-Ok) → encoded_numbers ((let a = c.args in assembled_from a.asked ((record { marker = c.args.marker; sequence = c.args.sequence; source = c.args.source })) c.primary_time-time.result (parts current a.asked a.mode_request a.bytes.now c.primary_time-time.result a.counts.now (rows_in a.rows.now)))) ≡ record { refusal = 0; count = c.in-Ok.size }
size-at c =
    let range_at : askable current c.args.asked c.args.mode_request ≡ true = sym c.in_range.ensures ∙ c.if-not-in_range.false in
    let inside-at : outside (length c.args.bytes.now) (rows_in c.args.rows.now) ≡ false = sym c.any_outside.ensures ∙ c.if-any_outside.false in
    let fit_at : counts_fit current c.args.counts.now c.args.rows.now ≡ true = sym c.counts_fit.ensures ∙ c.if-not-counts_fit.false in
    let fits-at : Fitting c.args.counts.now c.args.rows.now = fitting current c.args.counts.now c.args.rows.now (fit_at) in
    let numbers-at : written_numbers c.packet_size.result ≡ encoded_numbers ((let a = c.args in assembled_from a.asked ((record { marker = c.args.marker; sequence = c.args.sequence; source = c.args.source })) c.primary_time-time.result (parts current a.asked a.mode_request a.bytes.now c.primary_time-time.result a.counts.now (rows_in a.rows.now)))) = let a = c.args in
    let t = c.primary_time-time.result in
    let f = fits-at in
    c.packet_size.ensures
    ∙ size_few current a.asked t a.counts.now a.rows.now f.few
    ∙ sym (assembled_numbers current a.asked a.mode_request ((record { marker = c.args.marker; sequence = c.args.sequence; source = c.args.source })) t a.bytes.now a.counts.now a.rows.now (parts current a.asked a.mode_request a.bytes.now t a.counts.now (rows_in a.rows.now))
    (agrees current a.asked a.mode_request a.bytes.now t (asked current a.asked a.mode_request (range_at)).settings a.counts.now a.rows.now f.some f.counted (inside-at))) in
    told_bytes _ _ _ c.in-Ok.is (numbers-at)

pub returns-then-any_outside : goal.returns-then-any_outside
returns-then-any_outside c =
    let a = c.args in refused_pair _ _ a.out.now (sending_outside current a.asked a.mode_request ((record { marker = c.args.marker; sequence = c.args.sequence; source = c.args.source })) a.counts.now a.rows.now a.bytes.now (length a.out.now) (range_at (goal.at.returns-then-any_outside c).Else-not-in_range) (sym c.any_outside.ensures ∙ c.if-any_outside.true))

pub returns-then-out-size : goal.returns-then-out-size
returns-then-out-size c =
    let a = c.args in refused_pair _ _ a.out.now (sending-at (goal.at.returns-then-out-size c).After-primary_time-time ∙ packet_short ((let a = c.args in assembled_from a.asked ((record { marker = c.args.marker; sequence = c.args.sequence; source = c.args.source })) c.primary_time-time.result (parts current a.asked a.mode_request a.bytes.now c.primary_time-time.result a.counts.now (rows_in a.rows.now)))) _ (length a.out.now) (size-at (goal.at.returns-then-out-size c).In-Ok) c.if-out-size.true)

pub put_packet-requires : goal.put_packet-requires
put_packet-requires c =
    let f = fits-at (goal.at.put_packet-requires c).Else-not-counts_fit in record {
      settings = range_at (goal.at.put_packet-requires c).Else-not-in_range;
      inside = inside-at (goal.at.put_packet-requires c).Else-any_outside;
      counted = f.counted;
      some = f.some;
      room = packet_room ((let a = c.args in assembled_from a.asked ((record { marker = c.args.marker; sequence = c.args.sequence; source = c.args.source })) c.primary_time-time.result (parts current a.asked a.mode_request a.bytes.now c.primary_time-time.result a.counts.now (rows_in a.rows.now)))) _ (length c.args.out.now) (size-at (goal.at.put_packet-requires c).In-Ok) c.if-out-size.false;
    }

pub returns-in_default : goal.returns-in_default
returns-in_default c =
    let a = c.args in
    let t = c.primary_time-time.result in
    let x = parts current a.asked a.mode_request a.bytes.now t a.counts.now (rows_in a.rows.now) in
    refused_pair _ _ a.out.now (sending-at (goal.at.returns-in_default c).After-primary_time-time ∙ ap (λ (y : Encoded). room_for (length a.out.now) y) (refused_packet a.asked ((record { marker = c.args.marker; sequence = c.args.sequence; source = c.args.source })) t x (told_none _ _ _ c.in_default.is (numbers-at (goal.at.returns-in_default c).After-packet_size))))

pub returns : goal.returns
returns c =
    let a = c.args in
    let e = sending-at (goal.at.returns c).After-primary_time-time ∙ packet_fits ((let a = c.args in assembled_from a.asked ((record { marker = c.args.marker; sequence = c.args.sequence; source = c.args.source })) c.primary_time-time.result (parts current a.asked a.mode_request a.bytes.now c.primary_time-time.result a.counts.now (rows_in a.rows.now)))) _ (length a.out.now) (size-at (goal.at.returns c).In-Ok) c.if-out-size.false in (
      sym (ap encoded_numbers e ∙ size-at (goal.at.returns c).In-Ok),
      c.put_packet.ensures ∙ ap (λ (x : Encoded). over (encoded_bytes x) a.out.now) (sym e),
    )

pub returns-then-not-counts_fit : goal.returns-then-not-counts_fit
returns-then-not-counts_fit c =
    let a = c.args in refused_pair _ _ a.out.now (sending_unfit current a.asked a.mode_request ((record { marker = c.args.marker; sequence = c.args.sequence; source = c.args.source })) a.counts.now a.rows.now a.bytes.now (length a.out.now) (range_at (goal.at.returns-then-not-counts_fit c).Else-not-in_range) (inside-at (goal.at.returns-then-not-counts_fit c).Else-any_outside) (sym c.counts_fit.ensures ∙ c.if-not-counts_fit.true))

pub returns-then-not-in_range : goal.returns-then-not-in_range
returns-then-not-in_range c =
    let a = c.args in refused_pair _ _ a.out.now (sending_out current a.asked a.mode_request ((record { marker = c.args.marker; sequence = c.args.sequence; source = c.args.source })) a.counts.now a.rows.now a.bytes.now (length a.out.now) (sym c.in_range.ensures ∙ c.if-not-in_range.true))
