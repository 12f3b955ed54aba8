-- The calls, case by case.
use mathlib.Core.Path.{◌≡◌}
use Rattle.std.specs.Prelude.{Err, Ok}
use mathlib.Core.Bool.{true, false, cond}
use Prim.Native.Nat.{ℕ, ◌≤◌}
use lib.Dec.{ltb}
use borrow.Author.Tests.{ltb-false, eq-eqb, ne_eqb}
use Rattle.rtp.specs.Time.{difference}
use Rattle.rtp.specs.declared.refusal.Refusal.TheVariants.{Malformed}
use Rattle.rtp.proofs.TestLaws.{either}
use Rattle.report_sequence.specs.Sizes.{min_sequential}
use Rattle.report.specs.Sizes.{max_sum}
use Rattle.report.specs.declared.record.Reception.{Reception}
use Rattle.report_sequence.specs.Sequence.{judged}
use Rattle.report_loss.specs.Report.{noted}
use Rattle.report.specs.Jitter.{arrived}
use Rattle.report.specs.WellFormed.{well_formed}
use Rattle.report.specs.Calls.{with_counts, packet_numbers, packet_judged, packet_call, no_block, block_numbers, report_numbers, block_of, report_call}

-- a record that is taken
pub sum_bounded : (r : Reception) → well_formed r ≡ true → r.jitter ≤ max_sum
unfolding well_formed
sum_bounded r h =
    ltb-false max_sum r.jitter (either (ltb max_sum r.jitter) true (either (ltb min_sequential r.counts.probation) (cond (ltb max_sum r.jitter) false true) h).1).0

-- Packet

module _ (r : Reception) (s t a : ℕ) where
  pub packet_refused : well_formed r ≡ false → packet_call r s t a ≡ record { answer = packet_numbers (Err Malformed); reception = r }
  unfolding packet_call
  packet_refused h = rw h

  pub packet_valid : well_formed r ≡ true → (judged r.counts s).valid ≡ true
      → packet_call r s t a ≡ record { answer = packet_numbers (Ok true); reception = arrived r (judged r.counts s).counts (difference a t) }
  unfolding packet_call packet_judged
  packet_valid h v = rw (h, v)

  pub packet_invalid : well_formed r ≡ true → (judged r.counts s).valid ≡ false
      → packet_call r s t a ≡ record { answer = packet_numbers (Ok false); reception = with_counts r (judged r.counts s).counts }
  unfolding packet_call packet_judged
  packet_invalid h v = rw (h, v)

-- Report

module _ (r : Reception) where
  pub report_refused : well_formed r ≡ false → report_call r ≡ record { answer = report_numbers (Err Malformed); reception = r }
  unfolding report_call
  report_refused h = rw h

  pub report_none : well_formed r ≡ true → r.transit_set ≡ 0 → report_call r ≡ record { answer = block_numbers 0 no_block; reception = r }
  unfolding report_call
  report_none h k = rw (h, eq-eqb r.transit_set 0 k)

  pub report_block : well_formed r ≡ true → (r.transit_set ≡ 0 → ⊥)
      → report_call r ≡ record { answer = block_numbers 0 (block_of r); reception = with_counts r (noted r.counts) }
  unfolding report_call
  report_block h k = rw (h, ne_eqb r.transit_set 0 k)
