-- RFC 3550, appendix A.1: is a packet valid by its sequence number s, and the counts after it. Counters run modulo 2^32. Of a highest sequence
-- number beyond 16 bits, which only a record from elsewhere has, A.1 looks at the 16 bits; a bad one beyond them is no packet's.
use Rattle.std.specs.Prelude.{ℕ, ◌+◌, ◌-◌, ◌%◌, ◌^◌, true, false, cond, ◌==◌, nat_le, nat_lt}
use Rattle.report_sequence.specs.Sizes.{sequences, no_sequence, min_sequential, max_dropout, max_misorder}
use Rattle.report_sequence.specs.declared.record.Counts.{Counts}
use Rattle.report_sequence.specs.declared.sequence.Judged.{Judged}

-- the sequence number after s, where 0 follows 65535, and the one before it
abbrev pub following : ℕ → ℕ
following s = (s + 1) % sequences

abbrev pub preceding : ℕ → ℕ
preceding s = (s + (sequences - 1)) % sequences

-- how far s is ahead of the highest
abbrev pub ahead : Counts → ℕ → ℕ
ahead c s = (s + sequences - c.highest % sequences) % sequences

-- started anew at s (A.1's init_seq)
unfoldable pub anew : Counts → ℕ → Counts
anew c s = record {
  probation = c.probation;
  started = c.started;
  base = s;
  highest = s;
  bad = no_sequence;
  cycles = 0;
  received = 0;
  expected_prior = 0;
  received_prior = 0;
}

-- of a source's first packet: started anew at s, with the number before it as the highest, and in probation
unfoldable pub first : ℕ → Counts
first s = record {
  probation = min_sequential;
  started = 1;
  base = s;
  highest = preceding s;
  bad = no_sequence;
  cycles = 0;
  received = 0;
  expected_prior = 0;
  received_prior = 0;
}

-- with one more packet received
unfoldable pub counted : Counts → Counts
counted c = record {
  probation = c.probation;
  started = c.started;
  base = c.base;
  highest = c.highest;
  bad = c.bad;
  cycles = c.cycles;
  received = (c.received + 1) % 2 ^ 32;
  expected_prior = c.expected_prior;
  received_prior = c.received_prior;
}

-- with so many packets in sequence still wanted after s
unfoldable pub wanting : Counts → ℕ → ℕ → Counts
wanting c n s = record {
  probation = n;
  started = c.started;
  base = c.base;
  highest = s;
  bad = c.bad;
  cycles = c.cycles;
  received = c.received;
  expected_prior = c.expected_prior;
  received_prior = c.received_prior;
}

-- with s in order: it is the highest now, and where it is less than the highest before, a cycle is over
unfoldable pub advanced : Counts → ℕ → Counts
advanced c s = record {
  probation = c.probation;
  started = c.started;
  base = c.base;
  highest = s;
  bad = c.bad;
  cycles = cond (nat_lt s (c.highest % sequences)) ((c.cycles + sequences) % 2 ^ 32) c.cycles;
  received = c.received;
  expected_prior = c.expected_prior;
  received_prior = c.received_prior;
}

-- with the number after s as the one that would start the counts anew
unfoldable pub doubted : Counts → ℕ → Counts
doubted c s = record {
  probation = c.probation;
  started = c.started;
  base = c.base;
  highest = c.highest;
  bad = following s;
  cycles = c.cycles;
  received = c.received;
  expected_prior = c.expected_prior;
  received_prior = c.received_prior;
}

-- valid packets are received
abbrev pub valid : Counts → Judged
valid c = record { valid = true; counts = counted c }

abbrev pub invalid : Counts → Judged
invalid c = record { valid = false; counts = c }

-- while probation lasts: the packet in sequence that ends it is the first valid one
unfoldable pub probed : Counts → ℕ → Judged
probed c s =
    cond (s == following c.highest)
    (cond (c.probation == 1) (valid (anew (wanting c 0 s) s)) (invalid (wanting c (c.probation - 1) s)))
    (invalid (wanting c (min_sequential - 1) s))

-- after it: in order; a jump, which is believed the second time; late or repeated
unfoldable pub followed : Counts → ℕ → Judged
followed c s =
    cond (nat_lt (ahead c s) max_dropout) (valid (advanced c s))
    (cond (nat_le (ahead c s) (sequences - max_misorder))
    (cond (s == c.bad) (valid (anew c s)) (invalid (doubted c s)))
    (valid c))

-- a packet judged; `started` 0 says that it is the source's first
unfoldable pub judged : Counts → ℕ → Judged
judged c s =
    cond (c.started == 0) (probed (first s) s)
    (cond (c.probation == 0) (followed c s) (probed c s))
