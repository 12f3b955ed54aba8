-- RFC 3550, appendix A.3: the packets expected and lost. Counters run modulo 2^32, and their differences are read as signed.
use Rattle.std.specs.Prelude.{ℕ, ◌+◌, ◌*◌, ◌/◌, ◌%◌, ◌^◌, cond, ℤ, pos, int_le, int_lt, nat_lt, unsigned_abs}
use Rattle.rtp.specs.Time.{difference}
use Rattle.report_loss.specs.Sizes.{most_fraction, least_lost, most_lost}
use Rattle.report_loss.specs.Signed.{signed}
use Rattle.report_sequence.specs.declared.record.Counts.{Counts}

-- the highest sequence number with its cycles
unfoldable pub extended : Counts → ℕ
extended c = (c.cycles + c.highest) % 2 ^ 32

-- the packets expected so far: from the base to the highest
unfoldable pub expected : Counts → ℕ
expected c = (difference (extended c) c.base + 1) % 2 ^ 32

-- lost of expected in parts of 256, at most 255; 0 unless both are above 0
unfoldable pub fraction : ℤ → ℤ → ℕ
fraction lost due =
    cond (int_le lost (pos 0)) 0
    (cond (int_le due (pos 0)) 0
    (cond (nat_lt most_fraction (256 * unsigned_abs lost / unsigned_abs due)) most_fraction (256 * unsigned_abs lost / unsigned_abs due)))

-- since the last report: expected, and lost
unfoldable pub expected_since : Counts → ℕ
expected_since c = difference (expected c) c.expected_prior

unfoldable pub lost_since : Counts → ℕ
lost_since c = difference (expected_since c) (difference c.received c.received_prior)

unfoldable pub fraction_lost : Counts → ℕ
fraction_lost c = fraction (signed (lost_since c)) (signed (expected_since c))

-- held between -8388608 and 8388607
unfoldable pub held : ℤ → ℤ
held lost = cond (int_lt lost least_lost) least_lost (cond (int_lt most_lost lost) most_lost lost)

-- the packets lost since the counts began
unfoldable pub cumulative_lost : Counts → ℤ
cumulative_lost c = held (signed (difference (expected c) c.received))

-- a report notes what was expected and received
unfoldable pub noted : Counts → Counts
noted c = record {
  probation = c.probation;
  started = c.started;
  base = c.base;
  highest = c.highest;
  bad = c.bad;
  cycles = c.cycles;
  received = c.received;
  expected_prior = expected c;
  received_prior = c.received;
}
