-- Document 02, P7: the three calls. Each definition is the whole meaning of a call, refusals included: answer and record.
use Rattle.std.specs.Prelude.{ℕ, cond, ℤ, pos, eqb, Err, Ok, Result, Bool, true, false}
use Rattle.rtp.specs.declared.refusal.Refusal.{Refusal}
use Rattle.rtp.specs.Time.{difference}
use Rattle.rtp.specs.Refusals.{number}
use Rattle.rtp.specs.declared.refusal.Refusal.TheVariants.{Malformed}
use Rattle.report_sequence.specs.declared.record.Counts.{Counts}
use Rattle.report.specs.declared.record.Reception.{Reception}
use Rattle.report_sequence.specs.declared.sequence.Judged.{Judged}
use Rattle.report.specs.declared.calls.ReportBlock.{ReportBlock}
use Rattle.report_sequence.specs.Sequence.{judged}
use Rattle.report_loss.specs.Report.{extended, fraction_lost, cumulative_lost, noted}
use Rattle.report.specs.Jitter.{jitter_of, arrived}
use Rattle.report.specs.WellFormed.{well_formed}

-- New

-- no packet yet: all zeros
abbrev pub fresh : Reception
fresh = record {
  jitter = 0;
  counts = record {
    probation = 0;
    started = 0;
    base = 0;
    highest = 0;
    bad = 0;
    cycles = 0;
    received = 0;
    expected_prior = 0;
    received_prior = 0;
  };
  transit = 0;
  transit_set = 0;
}

-- the record with these counts
abbrev pub with_counts : Reception → Counts → Reception
with_counts r c = record { jitter = r.jitter; counts = c; transit = r.transit; transit_set = r.transit_set }

-- Packet

-- the answer in numbers: the refusal number or 0, and 1 if the packet is valid by A.1, else 0
pub record PacketNumbers : Type 0 where
  pub refusal : ℕ
  pub valid : ℕ

-- of the code's answer, case by case
abbrev pub packet_numbers : Result Bool Refusal → PacketNumbers
packet_numbers (Ok true) = record { refusal = 0; valid = 1 }
packet_numbers (Ok false) = record { refusal = 0; valid = 0 }
packet_numbers (Err r) = record { refusal = number r; valid = 0 }

-- what a call answers and leaves
pub record PacketOutcome : Type 0 where
  pub answer : PacketNumbers
  pub reception : Reception

-- a packet that was judged: a valid one enters the jitter, another changes only what A.1 says
unfoldable pub packet_judged : Reception → ℕ → Judged → PacketOutcome
packet_judged r transit j =
    cond j.valid (record { answer = packet_numbers (Ok true); reception = arrived r j.counts transit })
    (record { answer = packet_numbers (Ok false); reception = with_counts r j.counts })

-- a packet of a sequence number and a timestamp, at a time of the arrival clock
unfoldable pub packet_call : Reception → ℕ → ℕ → ℕ → PacketOutcome
packet_call r sequence timestamp arrival =
    cond (well_formed r) (packet_judged r (difference arrival timestamp) (judged r.counts sequence))
    (record { answer = packet_numbers (Err Malformed); reception = r })

-- Report

-- the answer in numbers: the refusal number or 0, and the block, zeros on refusal
pub record ReportNumbers : Type 0 where
  pub refusal : ℕ
  pub fraction_lost : ℕ
  pub cumulative_lost : ℤ
  pub highest_sequence : ℕ
  pub jitter : ℕ

abbrev pub no_block : ReportBlock
no_block = record { fraction_lost = 0; cumulative_lost = pos 0; highest_sequence = 0; jitter = 0 }

abbrev pub block_numbers : ℕ → ReportBlock → ReportNumbers
block_numbers n b = record {
  refusal = n;
  fraction_lost = b.fraction_lost;
  cumulative_lost = b.cumulative_lost;
  highest_sequence = b.highest_sequence;
  jitter = b.jitter;
}

-- of the code's answer, case by case
abbrev pub report_numbers : Result ReportBlock Refusal → ReportNumbers
report_numbers (Ok b) = block_numbers 0 b
report_numbers (Err r) = block_numbers (number r) no_block

pub record ReportOutcome : Type 0 where
  pub answer : ReportNumbers
  pub reception : Reception

-- the block of a source that has a valid packet
unfoldable pub block_of : Reception → ReportBlock
block_of r = record {
  fraction_lost = fraction_lost r.counts;
  cumulative_lost = cumulative_lost r.counts;
  highest_sequence = extended r.counts;
  jitter = jitter_of r.jitter;
}

-- a report; before the first valid packet it is all zeros and changes nothing
unfoldable pub report_call : Reception → ReportOutcome
report_call r =
    cond (well_formed r)
    (cond (eqb r.transit_set 0) (record { answer = block_numbers 0 no_block; reception = r })
    (record { answer = block_numbers 0 (block_of r); reception = with_counts r (noted r.counts) }))
    (record { answer = report_numbers (Err Malformed); reception = r })
