-- The counts: the proofs of the claims.
use mathlib.Core.Path.{◌≡◌, refl, ap}
use mathlib.Core.List.{List, [], ◌∷◌, ◌++◌}
use mathlib.Core.Bool.{true, cond}
use Prim.Native.Nat.{ℕ, ◌+◌}
use native.Mathlib.Omega.{arith}
use lib.ListN.{length}
use lib.Dec.{eqb}
use borrow.Author.Tests.{ne_eqb}
use Rattle.rtp.specs.Editions.{Edition}
use Rattle.rtp.specs.Ranges.{in_range}
use Rattle.rtp.specs.Refusals.{number}
use Rattle.rtp.specs.declared.settings.Settings.{Settings}
use Rattle.rtp.specs.Faults.{fault}
use Rattle.rtp.specs.declared.refusal.Fault.{Fault}
use Rattle.rtp.specs.declared.refusal.Refusal.TheVariants.{SettingsOutOfRange, Malformed}
use Rattle.rtp.proofs.TestLaws.{by-test}
use Rattle.rtp.proofs.RefusalLaws.{number_positive}
use Rattle.rtp.specs.Areas.{over}
use Rattle.read_rows.specs.Rows.{words}
use Rattle.buffer_copies.specs.Entries.{Entry, Held}
use Rattle.buffer_copies.specs.Verdicts.{Counts, no_counts, tally, judge_all}
use Rattle.buffer_copies.proofs.JudgeLaws.{judge_all_count, tally_append}
use Rattle.buffer_copies.proofs.HeldLaws.{fresh, drawn_first}
use Rattle.buffer_layout.specs.declared.buffer.Buffer.{Buffer}
use Rattle.buffer_layout.specs.Layout.{encode, model}
use Rattle.buffer_layout.specs.WellFormed.{well_formed}
use Rattle.buffer_offer.specs.Rows.{received_in}
use Rattle.buffer_offer.specs.ModelCalls.{Result, refused, done, Offered, offer_to}
use Rattle.buffer_offer.specs.Calls.{OfferOutcome, offer_refused, offer_done, offer_call}
use Rattle.buffer_offer.proofs.BufferLaws.{good_back}
use Rattle.buffer_claims.specs.Runs.{State, lent, Call, offer, draw, Yield, offered, Step, judgements_of, judged_by, step, run, judged, served, frames}
use Rattle.buffer_claims.specs.Claims.{counts_of, Counted, CountsVerdicts, frames_held, Count}
use Rattle.buffer_claims.proofs.StepLaws.{spare, Fine, at, fresh_fine, begun_at, offer_cases, judged_fine, draw_cases, drawn_fine}

-- from n counted and k held: what is inserted comes to what is drawn and held after
abbrev Even : Counts → ℕ → List Yield → State → Type 0
Even n k ys s = k + (tally n (judged ys)).inserted ≡ n.inserted + (length (frames (served ys)) + frames_held s.buffer)

module _ (ed : Edition) (st : Settings) (range : in_range ed st ≡ true) where
  held_back : (h : Held) → Fine st h → frames_held (encode st h) ≡ length h.entries
  held_back h g = ap (λ (k : Held). length k.entries) (good_back st h spare.0 g)

  counts : (cs : List Call) (h : Held) → Fine st h → (s rows : List ℕ) (n : Counts)
      → Even n (length h.entries) (run ed (at st h s rows) cs).yields (run ed (at st h s rows) cs).state
  unfolding run judged served frames tally
  counts [] h g s rows n = omega (arith, held_back h g)
  counts (offer o ∷ cs) h g s rows n =
      let l = lent rows o.area in
      offer_cases ed st range h g s rows o (λ (d : Step). Even n (length h.entries) (d.yield ∷ (run ed d.state cs).yields) (run ed d.state cs).state)
      (λ q e. counts cs h g s l n)
      (λ rs r e.
      let j = judge_all h s (received_in o.packet rs) in
      let m = tally n j.judgements in
      let R = run ed (at st j.held j.store (over (words rs) l)) cs in
      let c = counts cs j.held (judged_fine ed st h s l range g o.packet rs r) j.store (over (words rs) l) m in
      let a : (tally n (j.judgements ++ judged R.yields)).inserted ≡ (tally m (judged R.yields)).inserted = ap (λ (x : Counts). x.inserted) (tally_append n j.judgements (judged R.yields)) in
      omega (arith, a, c, judge_all_count h s n (received_in o.packet rs)))
  counts (draw area ∷ cs) h g s rows n =
      draw_cases ed st range h g s rows area (λ (d : Step). Even n (length h.entries) (d.yield ∷ (run ed d.state cs).yields) (run ed d.state cs).state)
      (λ e. counts cs h g s rows n)
      (λ e q. counts cs h g s rows n)
      (λ e room x es q. omega (arith, counts cs (drawn_first x es) (drawn_fine ed st range h g s rows x es q) s rows n, ap (λ (k : List Entry). length k) q))

pub count : (ed : Edition) → Count ed
count ed st store rows cs range = rw (begun_at ed st range store rows) (omega (arith, counts ed st range cs fresh (fresh_fine st) store rows no_counts))

-- an offer's answer counts its verdicts

module _ (ed : Edition) (b : Buffer) (packet l store : List ℕ) where
  -- of an outcome, with what the offer does to the model
  abbrev Tallies : Result Offered → OfferOutcome → Type 0
  Tallies x r = counts_of r.answer ≡ tally no_counts (cond (eqb r.answer.refusal 0) (judgements_of x) [])

  refused_tallies : (x : Result Offered) (q : Fault) → Tallies x (offer_refused q b l store)
  unfolding tally
  refused_tallies x q = rw (ne_eqb (number q.refusal) 0 (omega (arith, number_positive q.refusal)))

  done_tallies : (x : Result Offered) → Tallies x (offer_done b l store x)
  done_tallies (refused q) = refused_tallies (refused q) q
  done_tallies (done o) = refl

  answer_tallies : Counted (offered (offer_call ed b packet l store).answer (judged_by ed b packet l store))
  unfolding judged_by offer_call
  answer_tallies =
      let x = offer_to ed (model b) packet (length l) store in
      by-test (in_range ed b.settings)
      (λ r. by-test (well_formed b) (λ w. rw (r, w) (done_tallies x)) (λ w. rw (r, w) (refused_tallies x (fault Malformed))))
      (λ r. rw r (refused_tallies x (fault SettingsOutOfRange)))

pub counts_verdicts : (ed : Edition) → CountsVerdicts ed
unfolding step
counts_verdicts ed s (offer o) = answer_tallies ed s.buffer o.packet (lent s.rows o.area) s.store
counts_verdicts ed s (draw area) = tt
