-- Packets in a row: none is lost, and the highest sequence number counts them.
use mathlib.Core.Path.{◌≡◌, refl, sym, ap, subst, ◌∙◌}
use mathlib.Core.List.{List, [], ◌∷◌}
use mathlib.Core.Bool.{true, false, cond}
use Prim.Native.Nat.{ℕ, suc, ◌+◌, ◌%◌, ◌^◌, ◌≤◌, ◌<◌}
use native.Mathlib.Omega.{arith}
use native.Mathlib.Nat.{zero-add}
use lib.IntN.{pos}
use lib.Dec.{ltb, eqb}
use borrow.Author.Tests.{ltb-true, ltb-false, eqb-false}
use Rattle.rtp.specs.Time.{difference}
use Rattle.rtp.proofs.TestLaws.{by-test}
use Rattle.report_sequence.specs.Sizes.{sequences}
use Rattle.report_sequence.specs.declared.record.Counts.{Counts}
use Rattle.report.specs.declared.record.Reception.{Reception}
use Rattle.report_sequence.specs.declared.sequence.Judged.{Judged}
use Rattle.report_loss.specs.Signed.{signed}
use Rattle.report_sequence.specs.Sequence.{following, anew, first, counted, wanting, advanced, valid, invalid, judged}
use Rattle.report_loss.specs.Report.{extended, expected, fraction, expected_since, lost_since, fraction_lost, held, cumulative_lost, noted}
use Rattle.report.specs.Jitter.{arrived}
use Rattle.report.specs.WellFormed.{well_formed}
use Rattle.report.specs.Calls.{fresh, with_counts, packet_call, ReportNumbers, block_of, report_call}
use Rattle.report_claims.specs.Claims.{Call, packet, report, after, InRow, packets, NoneLost, CyclesCounted}
use Rattle.report_sequence.proofs.SequenceLaws.{probed_valid, probed_early, followed_order, judged_first, judged_after, judged_probed}
use Rattle.report.proofs.CallLaws.{packet_valid, packet_invalid, report_none, report_block}
use Rattle.report_claims.proofs.WellFormedTheorem.{packet_fine, report_fine, fresh_fine}

-- The counts after the base b and n more packets in a row; s comes next

record Steady (b n s : ℕ) (c : Counts) : Type 0 where
  started : c.started ≡ 1
  past : c.probation ≡ 0
  next : following c.highest ≡ s
  small : c.highest < sequences
  base : c.base ≡ b
  low : b < sequences
  reached : (c.cycles + c.highest) % 2 ^ 32 ≡ (b + n) % 2 ^ 32
  all : c.received ≡ (n + 1) % 2 ^ 32
  prior : c.expected_prior ≡ c.received_prior
  fits : c.received_prior < 2 ^ 32

-- the number after h, where a cycle is over, and where not
wrapped : (y h s : ℕ) → h < sequences → following h ≡ s → s < h % sequences → ((y + sequences) % 2 ^ 32 + s) % 2 ^ 32 ≡ (y + h + 1) % 2 ^ 32
wrapped y h s l e t =
    let top : h ≡ 65535 = omega arith in
    let none : s ≡ 0 = omega arith in
    rw (top, none) (omega arith)

onward : (y h s : ℕ) → h < sequences → following h ≡ s → h % sequences ≤ s → (y + s) % 2 ^ 32 ≡ (y + h + 1) % 2 ^ 32
onward y h s l e t =
    let one : s ≡ h + 1 = omega arith in
    rw one (omega arith)

both_next : (x y : ℕ) → x % 2 ^ 32 ≡ y % 2 ^ 32 → (x + 1) % 2 ^ 32 ≡ (y + 1) % 2 ^ 32
both_next x y e = omega arith

module _ {b n s : ℕ} {c : Counts} (i : Steady b n s c) where
  -- one more packet
  step_judged : judged c s ≡ valid (advanced c s)
  step_judged = judged_after c s (λ e. absurd (omega (arith, e, i.started))) i.past ∙ followed_order c s (omega (arith, i.next, i.small))

  further : (c.cycles + c.highest + 1) % 2 ^ 32 ≡ (b + suc n) % 2 ^ 32
  further = both_next (c.cycles + c.highest) (b + n) i.reached ∙ ap (λ (x : ℕ). x % 2 ^ 32) (omega arith)

  cycles_reached : (cond (ltb s (c.highest % sequences)) ((c.cycles + sequences) % 2 ^ 32) c.cycles + s) % 2 ^ 32 ≡ (b + suc n) % 2 ^ 32
  cycles_reached =
      by-test (ltb s (c.highest % sequences))
      (λ t. rw t (wrapped c.cycles c.highest s i.small i.next (ltb-true s (c.highest % sequences) t) ∙ further))
      (λ t. rw t (onward c.cycles c.highest s i.small i.next (ltb-false s (c.highest % sequences) t) ∙ further))

  step_steady : Steady b (suc n) (following s) (counted (advanced c s))
  unfolding counted advanced
  step_steady = record {
    started = i.started;
    past = i.past;
    next = refl;
    small = omega (arith, i.next);
    base = i.base;
    low = i.low;
    reached = cycles_reached;
    all = omega (arith, i.all);
    prior = i.prior;
    fits = i.fits;
  }

  -- what is expected has been received
  expected_received : expected c ≡ c.received
  unfolding expected extended
  expected_received = omega (arith, i.reached, i.base, i.low, i.all)

  note_steady : Steady b n s (noted c)
  unfolding noted
  note_steady = record {
    started = i.started;
    past = i.past;
    next = i.next;
    small = i.small;
    base = i.base;
    low = i.low;
    reached = i.reached;
    all = i.all;
    prior = expected_received;
    fits = omega (arith, i.all);
  }

  none_lost_since : lost_since c ≡ 0
  unfolding lost_since expected_since
  none_lost_since = omega (arith, expected_received, i.prior, i.fits, i.all)

  fraction_zero : fraction_lost c ≡ 0
  unfolding fraction_lost fraction signed
  fraction_zero = rw none_lost_since

  lost_zero : cumulative_lost c ≡ pos 0
  unfolding cumulative_lost held signed
  lost_zero = rw (expected_received, same_difference c.received)
    where
      same_difference : (x : ℕ) → difference x x ≡ 0
      same_difference x = omega arith

-- The record: before any packet, after the first, and from the base on

record Going (b n s : ℕ) (r : Reception) : Type 0 where
  fine : well_formed r ≡ true
  set : r.transit_set ≡ 0 → ⊥
  steady : Steady b n s r.counts

data Row (s : ℕ) : ℕ → ℕ → Reception → Type 0 where
  none : Row s 0 s fresh
  one : {q : ℕ} {r : Reception} → well_formed r ≡ true → r.transit_set ≡ 0 → r.counts.started ≡ 1 → r.counts.probation ≡ 1
      → following r.counts.highest ≡ q → q ≡ following s → Row s 1 q r
  more : {n q : ℕ} {r : Reception} → Going (following s) n q r → Row s (suc (suc n)) q r

-- what a packet that is valid leaves
arrived_set : (r : Reception) (c : Counts) (t : ℕ) → (arrived r c t).transit_set ≡ 0 → ⊥
unfolding arrived
arrived_set r c t =
    by-test (eqb r.transit_set 0) (λ h. rw h (λ e. absurd (omega (arith, e))))
    (λ h. rw h (λ e. eqb-false r.transit_set 0 h e))

arrived_counts : (r : Reception) (c : Counts) (t : ℕ) → (arrived r c t).counts ≡ c
unfolding arrived
arrived_counts r c t = by-test (eqb r.transit_set 0) (λ h. rw h) (λ h. rw h)

valid_going : (b n s q : ℕ) (r : Reception) (t a : ℕ) (c : Counts) → well_formed r ≡ true → judged r.counts s ≡ valid c → Steady b n q (counted c)
    → Going b n q (packet_call r s t a).reception
valid_going b n s q r t a c h j i =
    let v : (judged r.counts s).valid ≡ true = ap (λ (x : Judged). x.valid) j in
    let w : (judged r.counts s).counts ≡ counted c = ap (λ (x : Judged). x.counts) j in
    record {
      fine = packet_fine r s t a h;
      set = rw (packet_valid r s t a h v) (arrived_set r (judged r.counts s).counts (difference a t));
      steady = rw (packet_valid r s t a h v, arrived_counts r (judged r.counts s).counts (difference a t), w) i;
    }

-- A packet

first_row_lem : (s t a : ℕ) → s < sequences → Row s 1 (following s) (packet_call fresh s t a).reception
unfolding first wanting
first_row_lem s t a l =
    let j : judged fresh.counts s ≡ invalid (wanting (first s) 1 s) =
    judged_first fresh.counts s refl ∙ probed_early (first s) s (omega arith) (λ e. absurd (omega (arith, e))) in
    let v : (judged fresh.counts s).valid ≡ false = ap (λ (x : Judged). x.valid) j in
    let w : (judged fresh.counts s).counts ≡ wanting (first s) 1 s = ap (λ (x : Judged). x.counts) j in
    let e : (packet_call fresh s t a).reception ≡ with_counts fresh (wanting (first s) 1 s) = rw (packet_invalid fresh s t a fresh_fine v, w) in
    one {q = following s} (packet_fine fresh s t a fresh_fine) (rw e) (rw e) (rw e) (rw e) refl

second_row : (s q t a : ℕ) (r : Reception) → well_formed r ≡ true → r.counts.started ≡ 1 → r.counts.probation ≡ 1
    → following r.counts.highest ≡ q → q ≡ following s → Row s 2 (following q) (packet_call r q t a).reception
unfolding counted anew wanting
second_row s q t a r h b p k e =
    let c = anew (wanting r.counts 0 q) q in
    let j : judged r.counts q ≡ valid c =
    judged_probed r.counts q (λ z. absurd (omega (arith, z))) (λ z. absurd (omega (arith, z))) ∙ probed_valid r.counts q (sym k) p in
    let i : Steady (following s) 0 (following q) (counted c) = record {
      started = b;
      past = refl;
      next = refl;
      small = omega arith;
      base = e;
      low = omega arith;
      reached = omega arith;
      all = refl;
      prior = refl;
      fits = omega arith;
    } in
    more (valid_going (following s) 0 q (following q) r t a c h j i)

packet_row : (s n q t a : ℕ) (r : Reception) → s < sequences → Row s n q r → Row s (suc n) (following q) (packet_call r q t a).reception
packet_row s _ _ t a _ l none = first_row_lem s t a l
packet_row s _ q t a r l (one h z b p k e) = second_row s q t a r h b p k e
packet_row s _ q t a r l (more {n} g) = more (valid_going (following s) (suc n) q (following q) r t a (advanced r.counts q) g.fine (step_judged g.steady) (step_steady g.steady))

-- A report

report_row : (s n q : ℕ) (r : Reception) → Row s n q r → Row s n q (report_call r).reception
report_row s _ _ _ none = rw (report_none fresh fresh_fine refl) none
report_row s _ q r (one h z b p k e) = rw (report_none r h z) (one h z b p k e)
report_row s _ q r (more {n} g) =
    more {n = n} {q = q} (record {
      fine = report_fine r g.fine;
      set = rw (report_block r g.fine g.set) g.set;
      steady = rw (report_block r g.fine g.set) (note_steady g.steady);
    })

-- All calls

data Reached (s n : ℕ) (r : Reception) : Type 0 where
  reached : (q : ℕ) → Row s n q r → Reached s n r

row_after : (cs : List Call) (s n q : ℕ) (r : Reception) → s < sequences → Row s n q r → InRow q cs → Reached s (packets cs + n) (after r cs)
unfolding InRow after packets
row_after [] s n q r l i k = rw zero-add (reached q i)
row_after (packet x t a ∷ cs) s n q r l i (e, k) =
    rw (e, shift (packets cs) n) (row_after cs s (suc n) (following q) (packet_call r q t a).reception l (packet_row s n q t a r l i) k)
  where
    shift : (x y : ℕ) → suc x + y ≡ x + suc y
    shift x y = omega arith
row_after (report ∷ cs) s n q r l i k = row_after cs s n q (report_call r).reception l (report_row s n q r i) k

from_fresh : (s : ℕ) (cs : List Call) → s < sequences → InRow s cs → Reached s (packets cs) (after fresh cs)
from_fresh s cs l k = subst (λ (n : ℕ). Reached s n (after fresh cs)) plus_none (row_after cs s 0 s fresh l none k)
  where
    plus_none : packets cs + 0 ≡ packets cs
    plus_none = omega arith

abbrev NoLoss : ReportNumbers → Type 0
NoLoss x = (x.refusal ≡ 0) × (x.fraction_lost ≡ 0) × (x.cumulative_lost ≡ pos 0)

reached_no_loss : (s n : ℕ) (r : Reception) → Reached s n r → NoLoss (report_call r).answer
unfolding block_of
reached_no_loss s _ _ (reached _ none) = rw (report_none fresh fresh_fine refl) (refl, refl, refl)
reached_no_loss s _ r (reached q (one h z b p k e)) = rw (report_none r h z) (refl, refl, refl)
reached_no_loss s _ r (reached q (more g)) = rw (report_block r g.fine g.set) (refl, fraction_zero g.steady, lost_zero g.steady)

pub none_lost : NoneLost
none_lost s cs l k = reached_no_loss s (packets cs) (after fresh cs) (from_fresh s cs l k)

reached_highest : (s m n : ℕ) (r : Reception) → Reached s m r → m ≡ suc (suc n) → (report_call r).answer.highest_sequence ≡ (following s + n) % 2 ^ 32
unfolding block_of extended
reached_highest s _ n _ (reached _ none) e = absurd (omega (arith, e))
reached_highest s _ n r (reached q (one h z b p k f)) e = absurd (omega (arith, e))
reached_highest s _ n r (reached q (more {n = m} g)) e =
    let f : m ≡ n = omega (arith, e) in
    rw (report_block r g.fine g.set, ← f) g.steady.reached

pub cycles_counted : CyclesCounted
cycles_counted s n cs l k e = reached_highest s (packets cs) n (after fresh cs) (from_fresh s cs l k) e
