-- The fields that C is answered, in the numbers that the library's definitions give: field by field.
use Rattle.read_packet.specs.Readings.{Numbers}
use Rattle.write_sizes.specs.Measures.{Numbers as WrittenNumbers}
use Rattle.buffer_offer.specs.Calls.{OfferNumbers}
use Rattle.buffer_draw.specs.Calls.{DrawNumbers}
use Rattle.report.specs.Calls.{PacketNumbers, ReportNumbers}
use Rattle.c_answers.specs.declared.read_answers.ReadingFields.{ReadingFields}
use Rattle.c_answers.specs.declared.write_answers.WrittenFields.{WrittenFields}
use Rattle.c_answers.specs.declared.buffer_answers.OfferFields.{OfferFields}
use Rattle.c_answers.specs.declared.buffer_answers.DrawFields.{DrawFields}
use Rattle.c_answers.specs.declared.reception_answers.ReceivedFields.{ReceivedFields}
use Rattle.c_answers.specs.declared.reception_answers.ReportedFields.{ReportedFields}

-- of hsp_reading
abbrev pub reading_fields : ReadingFields → Numbers
reading_fields r =
    record { refusal = r.refusal; offset = r.offset; rows = r.rows; marker = r.marker; sequence = r.sequence; timestamp = r.timestamp; source = r.source; mode_request = r.mode_request }

-- of hsp_written
abbrev pub written_fields : WrittenFields → WrittenNumbers
written_fields r = record { refusal = r.refusal; count = r.length }

-- of hsp_offered
abbrev pub offer_fields : OfferFields → OfferNumbers
offer_fields r = record {
  refusal = r.refusal;
  offset = r.offset;
  late = r.late;
  far = r.far;
  repeated = r.repeated;
  better = r.better;
  no_room = r.no_room;
  inserted = r.inserted;
}

-- of hsp_drawn
abbrev pub draw_fields : DrawFields → DrawNumbers
draw_fields r = record { refusal = r.refusal; empty = r.empty; time = r.time; channel = r.channel; class = r.frame_class; length = r.length; primary = r.primary }

-- of hsp_received
abbrev pub received_fields : ReceivedFields → PacketNumbers
received_fields r = record { refusal = r.refusal; valid = r.valid }

-- of hsp_reported
abbrev pub reported_fields : ReportedFields → ReportNumbers
reported_fields r = record {
  refusal = r.refusal;
  fraction_lost = r.fraction_lost;
  cumulative_lost = r.cumulative_lost;
  highest_sequence = r.highest_sequence;
  jitter = r.jitter;
}
