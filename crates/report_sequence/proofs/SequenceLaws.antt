-- Appendix A.1, case by case.
use Rattle.std.proofs.Common.{◌≡◌, ℕ, ◌-◌, ◌<◌, ◌≤◌, le-ltb, lt-ltb, eq-eqb, ne_eqb, le-leb}
use borrow.Author.Tests.{lt-leb}
use Rattle.report_sequence.specs.Sizes.{sequences, min_sequential, max_dropout, max_misorder}
use Rattle.report_sequence.specs.declared.record.Counts.{Counts}
use Rattle.report_sequence.specs.Sequence.{following, ahead, anew, first, wanting, advanced, doubted, valid, invalid, probed, followed, judged}

module _ (c : Counts) (s : ℕ) where
  -- in probation
  pub probed_valid : s ≡ following c.highest → c.probation ≡ 1 → probed c s ≡ valid (anew (wanting c 0 s) s)
  unfolding probed
  probed_valid h p = rw (eq-eqb s (following c.highest) h, eq-eqb c.probation 1 p)

  pub probed_early : s ≡ following c.highest → (c.probation ≡ 1 → ⊥) → probed c s ≡ invalid (wanting c (c.probation - 1) s)
  unfolding probed
  probed_early h p = rw (eq-eqb s (following c.highest) h, ne_eqb c.probation 1 p)

  pub probed_other : (s ≡ following c.highest → ⊥) → probed c s ≡ invalid (wanting c (min_sequential - 1) s)
  unfolding probed
  probed_other h = rw (ne_eqb s (following c.highest) h)

  -- after it
  pub followed_order : ahead c s < max_dropout → followed c s ≡ valid (advanced c s)
  unfolding followed
  followed_order h = rw (lt-ltb (ahead c s) max_dropout h)

  module _ (h : max_dropout ≤ ahead c s) where
    pub followed_anew : ahead c s ≤ sequences - max_misorder → s ≡ c.bad → followed c s ≡ valid (anew c s)
    unfolding followed
    followed_anew k b = rw (le-ltb (ahead c s) max_dropout h, le-leb (ahead c s) (sequences - max_misorder) k, eq-eqb s c.bad b)

    pub followed_doubt : ahead c s ≤ sequences - max_misorder → (s ≡ c.bad → ⊥) → followed c s ≡ invalid (doubted c s)
    unfolding followed
    followed_doubt k b = rw (le-ltb (ahead c s) max_dropout h, le-leb (ahead c s) (sequences - max_misorder) k, ne_eqb s c.bad b)

    pub followed_late : sequences - max_misorder < ahead c s → followed c s ≡ valid c
    unfolding followed
    followed_late k = rw (le-ltb (ahead c s) max_dropout h, lt-leb (ahead c s) (sequences - max_misorder) k)

  -- any packet
  pub judged_first : c.started ≡ 0 → judged c s ≡ probed (first s) s
  unfolding judged
  judged_first h = rw (eq-eqb c.started 0 h)

  pub judged_after : (c.started ≡ 0 → ⊥) → c.probation ≡ 0 → judged c s ≡ followed c s
  unfolding judged
  judged_after h p = rw (ne_eqb c.started 0 h, eq-eqb c.probation 0 p)

  pub judged_probed : (c.started ≡ 0 → ⊥) → (c.probation ≡ 0 → ⊥) → judged c s ≡ probed c s
  unfolding judged
  judged_probed h p = rw (ne_eqb c.started 0 h, ne_eqb c.probation 0 p)
