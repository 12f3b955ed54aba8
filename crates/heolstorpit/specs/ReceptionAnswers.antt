-- What C is answered of reception reports, in the numbers that the library's definitions give: field by field.
use Rattle.report.specs.Calls.{PacketOutcome, ReportOutcome}
use Rattle.heolstorpit.specs.declared.reports.HspReceived.{HspReceived}
use Rattle.heolstorpit.specs.declared.reports.HspReported.{HspReported}

-- hsp_received, the record with it
abbrev pub received_answer : HspReceived → PacketOutcome
received_answer r = record { answer = record { refusal = r.refusal; valid = r.valid }; reception = r.reception }

-- hsp_reported, the record with it
abbrev pub reported_answer : HspReported → ReportOutcome
reported_answer r = record {
  answer = record {
    refusal = r.refusal;
    fraction_lost = r.fraction_lost;
    cumulative_lost = r.cumulative_lost;
    highest_sequence = r.highest_sequence;
    jitter = r.jitter;
  };
  reception = r.reception;
}
