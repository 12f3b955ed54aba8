-- What C is answered, in the numbers that the library's definitions give: field by field.
use Rattle.read_packet.specs.Readings.{Numbers}
use Rattle.write_sizes.specs.Measures.{Numbers as WrittenNumbers}
use Rattle.buffer_offer.specs.Calls.{NewOutcome, OfferNumbers}
use Rattle.buffer_draw.specs.Calls.{DrawNumbers}
use Rattle.heolstorpit.specs.declared.reading.HspReading.{HspReading}
use Rattle.heolstorpit.specs.declared.writing.HspWritten.{HspWritten}
use Rattle.heolstorpit.specs.declared.buffers.HspFresh.{HspFresh}
use Rattle.heolstorpit.specs.declared.buffers.HspOffered.{HspOffered}
use Rattle.heolstorpit.specs.declared.buffers.HspDrawn.{HspDrawn}

-- hsp_reading
abbrev pub reading_answer : HspReading → Numbers
reading_answer r =
    record { refusal = r.refusal; offset = r.offset; rows = r.rows; marker = r.marker; sequence = r.sequence; timestamp = r.timestamp; source = r.source; mode_request = r.mode_request }

-- hsp_written
abbrev pub written_answer : HspWritten → WrittenNumbers
written_answer r = record { refusal = r.refusal; count = r.length }

-- hsp_fresh, the buffer with it
abbrev pub fresh_answer : HspFresh → NewOutcome
fresh_answer r = record { refusal = r.refusal; buffer = r.buffer }

-- hsp_offered but for the buffer
abbrev pub offered_answer : HspOffered → OfferNumbers
offered_answer r = record {
  refusal = r.refusal;
  offset = r.offset;
  late = r.late;
  far = r.far;
  repeated = r.repeated;
  better = r.better;
  no_room = r.no_room;
  inserted = r.inserted;
}

-- hsp_drawn but for the buffer
abbrev pub drawn_answer : HspDrawn → DrawNumbers
drawn_answer r = record { refusal = r.refusal; empty = r.empty; time = r.time; channel = r.channel; class = r.frame_class; length = r.length; primary = r.primary }
