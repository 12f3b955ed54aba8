-- The claims about reception reports: every record that is not 15 stays so, what is reported is in its range, and packets in a row lose nothing.
use Rattle.std.specs.Prelude.{ℕ, suc, ◌+◌, ◌%◌, ◌^◌, ◌≤◌, ◌<◌, ◌≡◌, List, [], ◌∷◌, true, pos, ◌≤ℤ◌}
use Rattle.report_sequence.specs.Sizes.{sequences}
use Rattle.report.specs.Sizes.{max_sum}
use Rattle.report_loss.specs.Sizes.{least_lost, most_lost}
use Rattle.report_sequence.specs.Sequence.{following}
use Rattle.report.specs.WellFormed.{well_formed}
use Rattle.report.specs.Calls.{fresh, packet_call, ReportNumbers, report_call}
use Rattle.report.specs.declared.record.Reception.{Reception}

-- Runs of calls

-- a packet's sequence number, timestamp and arrival; or a report
pub data Call : Type 0 where
  packet : ℕ → ℕ → ℕ → Call
  report : Call

-- the record after the calls, each given what the last one left
unfoldable pub after : Reception → List Call → Reception
after r [] = r
after r (packet s t a ∷ cs) = after (packet_call r s t a).reception cs
after r (report ∷ cs) = after (report_call r).reception cs

-- the report after the calls, from a fresh record
abbrev pub reported : List Call → ReportNumbers
reported cs = (report_call (after fresh cs)).answer

-- each packet has the sequence number after the one before it, the first one s: in order, and none lost
unfoldable pub InRow : ℕ → List Call → Type 0
InRow s [] = Unit {0}
InRow s (packet n t a ∷ cs) = (n ≡ s) × InRow (following s) cs
InRow s (report ∷ cs) = InRow s cs

unfoldable pub packets : List Call → ℕ
packets [] = 0
packets (packet s t a ∷ cs) = suc (packets cs)
packets (report ∷ cs) = packets cs

-- The claims

-- a fresh record is taken, and the calls leave a record that is
abbrev pub StaysWellFormed : Type 0
StaysWellFormed = (well_formed fresh ≡ true) × ((r : Reception) (cs : List Call) → well_formed r ≡ true → well_formed (after r cs) ≡ true)

-- from any record that is taken the jitter sum never passes 2^35 - 8
abbrev pub SumBounded : Type 0
SumBounded = (r : Reception) (cs : List Call) → well_formed r ≡ true → (after r cs).jitter ≤ max_sum

-- the jitter that is reported fits 32 bits
abbrev pub JitterFits : Type 0
JitterFits = (r : Reception) → (report_call r).answer.jitter < 2 ^ 32

-- the packets lost that are reported lie between -8388608 and 8388607
abbrev pub LostInRange : Type 0
LostInRange = (r : Reception) → (least_lost ≤ℤ (report_call r).answer.cumulative_lost) × ((report_call r).answer.cumulative_lost ≤ℤ most_lost)

-- of packets in a row, with reports between them as may be, no report says that one was lost
abbrev pub NoneLost : Type 0
NoneLost = (s : ℕ) (cs : List Call) → s < sequences → InRow s cs
    → ((reported cs).refusal ≡ 0) × ((reported cs).fraction_lost ≡ 0) × ((reported cs).cumulative_lost ≡ pos 0)

-- of packets in a row the second is the base, where probation ends: with n more the highest sequence number is n more than the base, cycles counted
abbrev pub CyclesCounted : Type 0
CyclesCounted = (s n : ℕ) (cs : List Call) → s < sequences → InRow s cs → packets cs ≡ suc (suc n)
    → (reported cs).highest_sequence ≡ (following s + n) % 2 ^ 32
