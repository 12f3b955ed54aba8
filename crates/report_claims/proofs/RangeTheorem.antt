-- What is reported is in its range.
use mathlib.Core.Path.{◌≡◌}
use mathlib.Core.Bool.{Bool, false}
use native.Mathlib.Omega.{arith}
use lib.IntN.{ℤ}
use lib.Signed.{lt_z, ◌≤ℤ◌, le_z_yes, lt_z_no}
use lib.Dec.{T, eqb}
use borrow.Author.Tests.{eqb-true, eqb-false}
use Rattle.rtp.proofs.TestLaws.{by-test}
use Rattle.report_loss.specs.Sizes.{least_lost, most_lost}
use Rattle.report_sequence.specs.declared.record.Counts.{Counts}
use Rattle.report_loss.specs.Report.{held, cumulative_lost}
use Rattle.report.specs.WellFormed.{well_formed}
use Rattle.report.specs.Calls.{block_of}
use Rattle.report_claims.specs.Claims.{JitterFits, LostInRange}
use Rattle.report.proofs.CallLaws.{sum_bounded, report_refused, report_none, report_block}

pub jitter_fits : JitterFits
unfolding block_of
jitter_fits r =
    by-test (well_formed r)
    (λ h. by-test (eqb r.transit_set 0) (λ k. rw (report_none r h (eqb-true _ _ k)) (omega arith))
    (λ k. rw (report_block r h (eqb-false _ _ k)) (omega (arith, sum_bounded r h))))
    (λ h. rw (report_refused r h) (omega arith))

abbrev Held : ℤ → Type 0
Held z = (least_lost ≤ℤ z) × (z ≤ℤ most_lost)

-- a test that failed, as the order takes it
no : (b : Bool) → b ≡ false → T (mathlib.Core.Bool.not b)
no b h = rw h tt

held_in : (z : ℤ) → Held (held z)
unfolding held
held_in z =
    by-test (lt_z z least_lost) (λ h. rw h (le_z_yes tt, le_z_yes tt))
    (λ h. by-test (lt_z most_lost z) (λ k. rw (h, k) (le_z_yes tt, le_z_yes tt)) (λ k. rw (h, k) (lt_z_no (no _ h), lt_z_no (no _ k))))

lost_in : (c : Counts) → Held (cumulative_lost c)
unfolding cumulative_lost
lost_in c = held_in _

pub lost_in_range : LostInRange
unfolding block_of
lost_in_range r =
    by-test (well_formed r)
    (λ h. by-test (eqb r.transit_set 0) (λ k. rw (report_none r h (eqb-true _ _ k)) (le_z_yes tt, le_z_yes tt))
    (λ k. rw (report_block r h (eqb-false _ _ k)) (lost_in r.counts)))
    (λ h. rw (report_refused r h) (le_z_yes tt, le_z_yes tt))
