-- The premises of demand 3 are exact: the proof of the claim.
use mathlib.Core.Path.{◌≡◌, refl, ap, sym, ◌∙◌, subst}
use mathlib.Core.Logic.{◌↔◌}
use mathlib.Core.List.{List, [], ◌∷◌, ◌++◌, map}
use mathlib.Core.Bool.{true}
use Prim.Native.Nat.{ℕ}
use native.Mathlib.Omega.{arith}
use lib.ListN.{length}
use lib.Dec.{ltb}
use borrow.Author.Tests.{ltb-true, ltb-false, ne_eqb}
use Rattle.rtp.specs.Editions.{Edition}
use Rattle.rtp.specs.Ranges.{in_range}
use Rattle.rtp.specs.Refusals.{number}
use Rattle.rtp.specs.Areas.{over}
use Rattle.rtp.specs.declared.settings.Settings.{Settings}
use Rattle.rtp.proofs.TestLaws.{by-test}
use Rattle.rtp.proofs.RefusalLaws.{number_positive}
use Rattle.read_rows.specs.Rows.{words}
use Rattle.buffer_copies.specs.Sizes.{slots, store_size}
use Rattle.buffer_copies.specs.Entries.{Held}
use Rattle.buffer_copies.specs.Verdicts.{no_counts, Judgement, tally, Gathered, judge_all}
use Rattle.buffer_copies.specs.Lists.{WithinStretch, AtMost}
use Rattle.buffer_copies.proofs.HeldLaws.{fresh}
use Rattle.buffer_copies.proofs.PremiseLaws.{premises_exact}
use Rattle.buffer_offer.specs.Rows.{received_in}
use Rattle.buffer_claims.specs.Runs.{State, lent, Offer, offer, Step, run, judged}
use Rattle.buffer_claims.specs.Claims.{accepted, received_from, copies_in, PremisesExact}
use Rattle.buffer_claims.proofs.StepLaws.{spare, Fine, at, fresh_fine, begun_at, offer_cases, judged_fine, store_length, rows_length}
use Rattle.buffer_claims.proofs.AcceptedLaws.{accepted_length, accepted_none, copies_frames, copies_marks, judge_more}

module _ (ed : Edition) (st : Settings) (range : in_range ed st ≡ true) where
  -- offers judge the copies accepted
  offers_judge : (os : List Offer) (h : Held) → Fine st h → (s rows : List ℕ) → judged (run ed (at st h s rows) (map offer os)).yields ≡ (judge_all h s (received_from ed st (accepted ed st s rows os))).judgements
  unfolding run judged accepted received_from judge_all
  offers_judge [] h g s rows = refl
  offers_judge (o ∷ os) h g s rows =
      let l = lent rows o.area in
      offer_cases ed st range h g s rows o
      (λ (d : Step). judged (d.yield ∷ (run ed d.state (map offer os)).yields) ≡ (judge_all h s (received_from ed st (accepted ed st s rows (o ∷ os)))).judgements)
      (λ q e. rw (e, ne_eqb (number q.refusal) 0 (omega (arith, number_positive q.refusal))) (offers_judge os h g s l))
      (λ rs r e.
      let j = judge_all h s (received_in o.packet rs) in
      let k = offers_judge os j.held (judged_fine ed st h s l range g o.packet rs r) j.store (over (words rs) l) in
      let same : accepted ed st j.store (over (words rs) l) os ≡ accepted ed st s l os =
      accepted_length ed st j.store s (store_length ed st h s l range g o.packet rs r) os (over (words rs) l) l (rows_length ed st h s l range g o.packet rs r) in
      rw e
      (ap (λ (x : List Judgement). j.judgements ++ x) (k ∙ ap (λ (ps : List (List ℕ)). (judge_all j.held j.store (received_from ed st ps)).judgements) same)
      ∙ sym (ap (λ (x : Gathered). x.judgements) (judge_more ed st h s l o.packet rs r (accepted ed st s l os)))))

  abbrev Exact : List (List ℕ) → List Judgement → Type 0
  Exact ps js = (WithinStretch (copies_in ed st ps) × AtMost slots (copies_in ed st ps)) ↔ (((tally no_counts js).far ≡ 0) × ((tally no_counts js).no_room ≡ 0))

  -- with a store under its size nothing is accepted
  exact : (s rows : List ℕ) (os : List Offer) → Exact (accepted ed st s rows os) (judge_all fresh s (received_from ed st (accepted ed st s rows os))).judgements
  unfolding received_from judge_all
  exact s rows os =
      let ps = accepted ed st s rows os in
      by-test (ltb (length s) store_size)
      (λ a. subst (λ (qs : List (List ℕ)). Exact qs (judge_all fresh s (received_from ed st qs)).judgements) (sym (accepted_none ed st s (ltb-true _ _ a) os rows)) (premises_exact spare.0 [] spare.1 (copies_frames ed st range []) (copies_marks ed st range [])))
      (λ a. premises_exact s (received_from ed st ps) (ltb-false _ _ a) (copies_frames ed st range ps) (copies_marks ed st range ps))

pub exact_premises : (ed : Edition) → PremisesExact ed
exact_premises ed st store rows os range =
    subst (Exact ed st range (accepted ed st store rows os))
    (sym (ap (λ (s : State). judged (run ed s (map offer os)).yields) (begun_at ed st range store rows) ∙ offers_judge ed st range os fresh (fresh_fine st) store rows))
    (exact ed st range store rows os)
