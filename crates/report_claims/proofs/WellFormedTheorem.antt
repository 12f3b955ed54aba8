-- Records that are taken stay so.
use mathlib.Core.Path.{◌≡◌}
use mathlib.Core.List.{List, [], ◌∷◌}
use mathlib.Core.Bool.{true, false, cond}
use Prim.Native.Nat.{ℕ, ◌-◌, ◌^◌, ◌≤◌, ◌<◌}
use native.Mathlib.Omega.{arith}
use lib.IntN.{nat_abs}
use lib.Dec.{ltb, leb, eqb}
use borrow.Author.Tests.{le-ltb, ltb-true, ltb-false, eqb-true, eqb-false}
use Rattle.rtp.specs.Time.{difference}
use Rattle.rtp.proofs.TestLaws.{by-test, either}
use Rattle.report_sequence.specs.Sizes.{sequences, min_sequential, max_dropout, max_misorder}
use Rattle.report.specs.Sizes.{max_sum}
use Rattle.report_sequence.specs.declared.record.Counts.{Counts}
use Rattle.report.specs.declared.record.Reception.{Reception}
use Rattle.report_sequence.specs.declared.sequence.Judged.{Judged}
use Rattle.report_loss.specs.Signed.{signed}
use Rattle.report_sequence.specs.Sequence.{following, ahead, anew, first, counted, wanting, advanced, doubted, probed, followed, judged}
use Rattle.report_loss.specs.Report.{noted}
use Rattle.report.specs.Jitter.{distance, smoothed, arrived}
use Rattle.report.specs.WellFormed.{well_formed}
use Rattle.report.specs.Calls.{fresh, packet_call, report_call}
use Rattle.report_claims.specs.Claims.{Call, packet, report, after, StaysWellFormed, SumBounded}
use Rattle.report.proofs.CallLaws.{sum_bounded, packet_valid, packet_invalid, report_none, report_block}

-- The two bounds

pub probation_bounded : (r : Reception) → well_formed r ≡ true → r.counts.probation ≤ min_sequential
unfolding well_formed
probation_bounded r h =
    ltb-false min_sequential r.counts.probation (either (ltb min_sequential r.counts.probation) (cond (ltb max_sum r.jitter) false true) h).0

pub from_bounds : (r : Reception) → r.counts.probation ≤ min_sequential → r.jitter ≤ max_sum → well_formed r ≡ true
unfolding well_formed
from_bounds r p j = rw (le-ltb min_sequential r.counts.probation p, le-ltb max_sum r.jitter j)

-- Probation

abbrev Low : Judged → Type 0
Low j = j.counts.probation ≤ min_sequential

probed_low : (c : Counts) (s : ℕ) → c.probation ≤ min_sequential → Low (probed c s)
unfolding probed counted anew wanting
probed_low c s p =
    by-test (eqb s (following c.highest))
    (λ h. by-test (eqb c.probation 1) (λ k. rw (h, k) (omega arith)) (λ k. rw (h, k) (omega arith)))
    (λ h. rw h (omega arith))

followed_low : (c : Counts) (s : ℕ) → c.probation ≤ min_sequential → Low (followed c s)
unfolding followed counted anew advanced doubted
followed_low c s p =
    by-test (ltb (ahead c s) max_dropout) (λ h. rw h p)
    (λ h. by-test (leb (ahead c s) (sequences - max_misorder))
    (λ k. by-test (eqb s c.bad) (λ b. rw (h, k, b) p) (λ b. rw (h, k, b) p))
    (λ k. rw (h, k) p))

first_low : (s : ℕ) → (first s).probation ≤ min_sequential
unfolding first
first_low s = omega arith

pub judged_low : (c : Counts) (s : ℕ) → c.probation ≤ min_sequential → Low (judged c s)
unfolding judged
judged_low c s p =
    by-test (eqb c.started 0) (λ h. rw h (probed_low (first s) s (first_low s)))
    (λ h. by-test (eqb c.probation 0) (λ k. rw (h, k) (followed_low c s p)) (λ k. rw (h, k) (probed_low c s p)))

-- The sum

signed_size : (x : ℕ) → x < 2 ^ 32 → nat_abs (signed x) ≤ 2 ^ 31
unfolding signed
signed_size x h =
    by-test (ltb x (2 ^ 31)) (λ t. rw t (omega (arith, ltb-true x (2 ^ 31) t)))
    (λ t. rw t (omega (arith, ltb-false x (2 ^ 31) t)))

distance_small : (t l : ℕ) → distance t l ≤ 2 ^ 31
unfolding distance
distance_small t l = signed_size (difference t l) (omega arith)

smoothed_bounded : (sum d : ℕ) → sum ≤ max_sum → d ≤ 2 ^ 31 → smoothed sum d ≤ max_sum
unfolding smoothed
smoothed_bounded sum d h k = omega arith

arrived_fine : (r : Reception) (c : Counts) (t : ℕ) → r.jitter ≤ max_sum → c.probation ≤ min_sequential → well_formed (arrived r c t) ≡ true
unfolding arrived
arrived_fine r c t j p =
    by-test (eqb r.transit_set 0) (λ h. rw h (from_bounds _ p j))
    (λ h. rw h (from_bounds _ p (smoothed_bounded r.jitter (distance t r.transit) j (distance_small t r.transit))))

-- The calls

pub packet_fine : (r : Reception) (s t a : ℕ) → well_formed r ≡ true → well_formed (packet_call r s t a).reception ≡ true
packet_fine r s t a h =
    by-test (judged r.counts s).valid
    (λ v. rw (packet_valid r s t a h v) (arrived_fine r (judged r.counts s).counts (difference a t) (sum_bounded r h) (judged_low r.counts s (probation_bounded r h))))
    (λ v. rw (packet_invalid r s t a h v) (from_bounds _ (judged_low r.counts s (probation_bounded r h)) (sum_bounded r h)))

pub report_fine : (r : Reception) → well_formed r ≡ true → well_formed (report_call r).reception ≡ true
unfolding noted
report_fine r h =
    by-test (eqb r.transit_set 0) (λ k. rw (report_none r h (eqb-true _ _ k)) h)
    (λ k. rw (report_block r h (eqb-false _ _ k)) (from_bounds _ (probation_bounded r h) (sum_bounded r h)))

after_fine : (r : Reception) (cs : List Call) → well_formed r ≡ true → well_formed (after r cs) ≡ true
unfolding after
after_fine r [] h = h
after_fine r (packet s t a ∷ cs) h = after_fine (packet_call r s t a).reception cs (packet_fine r s t a h)
after_fine r (report ∷ cs) h = after_fine (report_call r).reception cs (report_fine r h)

pub fresh_fine : well_formed fresh ≡ true
fresh_fine = from_bounds fresh (omega arith) (omega arith)

pub stays_well_formed : StaysWellFormed
stays_well_formed = (fresh_fine, after_fine)

pub sum_stays_bounded : SumBounded
sum_stays_bounded r cs h = sum_bounded (after r cs) (after_fine r cs h)
