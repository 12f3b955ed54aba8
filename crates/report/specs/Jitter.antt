-- RFC 3550, appendix A.8: the jitter, in its whole-number form. What is kept is its sum, 16 times the jitter.
use Rattle.std.specs.Prelude.{ℕ, ◌+◌, ◌-◌, ◌/◌, cond, nat_abs, eqb}
use Rattle.rtp.specs.Time.{difference}
use Rattle.report_loss.specs.Signed.{signed}
use Rattle.report_sequence.specs.declared.record.Counts.{Counts}
use Rattle.report.specs.declared.record.Reception.{Reception}

-- how far two transits differ: their difference modulo 2^32 read as signed, and its size, which is 2^31 at the lowest
unfoldable pub distance : ℕ → ℕ → ℕ
distance transit last = nat_abs (signed (difference transit last))

-- the sum after a packet whose transit differs by d
unfoldable pub smoothed : ℕ → ℕ → ℕ
smoothed sum d = sum + d - (sum + 8) / 16

-- the jitter that is reported
abbrev pub jitter_of : ℕ → ℕ
jitter_of sum = sum / 16

-- a valid packet's transit, beside the counts that it leaves; the first one only sets it
unfoldable pub arrived : Reception → Counts → ℕ → Reception
arrived r c transit =
    cond (eqb r.transit_set 0) (record { jitter = r.jitter; counts = c; transit = transit; transit_set = 1 })
    (record { jitter = smoothed r.jitter (distance transit r.transit); counts = c; transit = transit; transit_set = r.transit_set })
