-- Appendix A.3, case by case.
use Rattle.std.proofs.Common.{◌≡◌, ◌*◌, ◌/◌, min, true, false, ltb, ℤ, pos, negsuc, nat_abs, refl, arith}
use Rattle.std.specs.Int.{int_max, int_min}
use borrow.Author.Tests.{ltb-true, ltb-false}
use lib.Signed.{le_z}
use Rattle.rtp.proofs.TestLaws.{by-test}
use Rattle.report_loss.specs.Sizes.{most_fraction, least_lost, most_lost}
use Rattle.report_loss.specs.Report.{fraction, held}

module _ (lost due : ℤ) where
  pub none_lost : le_z lost (pos 0) ≡ true → fraction lost due ≡ 0
  unfolding fraction
  none_lost h = rw h

  module _ (h : le_z lost (pos 0) ≡ false) where
    pub none_due : le_z due (pos 0) ≡ true → fraction lost due ≡ 0
    unfolding fraction
    none_due k = rw (h, k)

    pub part_lost : le_z due (pos 0) ≡ false → fraction lost due ≡ min (256 * nat_abs lost / nat_abs due) most_fraction
    unfolding fraction
    part_lost k =
        let q = 256 * nat_abs lost / nat_abs due in
        by-test (ltb most_fraction q) (λ t. rw (h, k, t) (omega (arith, ltb-true most_fraction q t))) (λ t. rw (h, k, t) (omega (arith, ltb-false most_fraction q t)))

-- held between two bounds
pub held_between : (lost : ℤ) → int_max least_lost (int_min lost most_lost) ≡ held lost
unfolding held
held_between (pos n) = by-test (ltb 8388607 n) (λ t. rw t) (λ t. rw t)
held_between (negsuc n) = refl
