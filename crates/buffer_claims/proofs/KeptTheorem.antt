-- Calls that change nothing: the proof of the claim.
use Prim.Native.Nat.{ℕ, ◌≤◌}
use mathlib.Core.Path.{◌≡◌, refl, sym, ap, ◌∙◌, subst}
use mathlib.Core.List.{List, [], ◌∷◌}
use mathlib.Core.Bool.{true}
use mathlib.Core.Option.{some}
use native.Mathlib.Omega.{arith}
use borrow.Author.Tests.{ltb-true, ltb-false}
use lib.ListN.{length}
use lib.Dec.{ltb}
use Rattle.rtp.specs.Editions.{Edition}
use Rattle.rtp.specs.Sizes.{row_area}
use Rattle.rtp.specs.Ranges.{in_range}
use Rattle.rtp.specs.Faults.{fault}
use Rattle.rtp.specs.declared.refusal.Refusal.{Refusal}
use Rattle.rtp.specs.declared.refusal.Fault.{Fault}
use Rattle.rtp.specs.declared.refusal.Refusal.TheVariants.{SettingsOutOfRange, Malformed, AreaTooShort}
use Rattle.rtp.proofs.TestLaws.{by-test}
use Rattle.rtp.proofs.RefusalLaws.{number_positive}
use Rattle.read_packet.specs.Readings.{Outcome, refused as unread, read_as, reading}
use Rattle.buffer_copies.specs.declared.verdict.Verdict.{Verdict}
use Rattle.buffer_copies.specs.declared.verdict.Verdict.TheVariants.{Late, Far, Repeated, Better, NoRoom, Inserted}
use Rattle.buffer_copies.specs.Sizes.{slot_size, store_size}
use Rattle.row_tags.specs.Tags.{redundant_mark, either_mark}
use Rattle.buffer_copies.specs.Copies.{Copy, Received}
use Rattle.buffer_copies.specs.Entries.{Entry, Held, remarked, placed}
use Rattle.buffer_copies.specs.Verdicts.{holding, Judged, judge, Counts, no_counts, counted, Judgement, tally, judge_all}
use Rattle.buffer_copies.proofs.SlotLaws.{put_alike}
use Rattle.buffer_copies.proofs.JudgeLaws.{find_pair, found_again, judge_cases}
use Rattle.buffer_layout.specs.declared.buffer.Buffer.{Buffer}
use Rattle.buffer_layout.specs.Arrays.{Machine}
use Rattle.buffer_layout.specs.Layout.{encode, entries_from, decode}
use Rattle.buffer_layout.specs.WellFormed.{well_formed}
use Rattle.buffer_offer.specs.Rows.{received_in}
use Rattle.buffer_offer.specs.Calls.{OfferOutcome, offer_refused, offer_call}
use Rattle.buffer_draw.specs.Calls.{DrawOutcome, draw_refused, draw_call}
use Rattle.buffer_offer.proofs.CallLaws.{offer_read, offer_out, offer_malformed, offer_rows, offer_store, offer_reads}
use Rattle.buffer_draw.proofs.CallLaws.{draw_first, draw_out, draw_malformed, draw_store, draw_area, draw_goes}
use Rattle.buffer_layout.proofs.WellFormedLaws.{encode_decode}
use Rattle.buffer_offer.proofs.StateLaws.{judge_all_good}
use Rattle.buffer_offer.proofs.BufferLaws.{buffer_good, good_back}
use Rattle.buffer_offer.proofs.CopyLaws.{read_fit}
use Rattle.buffer_claims.specs.WellFormedClaims.{unmarked, LeftByOffer, Empty, LeftByDraw, ChangesNothing}

-- Verdicts that keep what is held and stored

-- no verdict lessens a count
record Grown (n m : Counts) : Type 0 where
  better : n.better ≤ m.better
  inserted : n.inserted ≤ m.inserted
  repeated : n.repeated ≤ m.repeated

grows : (n : Counts) (v : Verdict) → Grown n (counted n v)
grows n Late = record { better = omega arith; inserted = omega arith; repeated = omega arith }
grows n Far = record { better = omega arith; inserted = omega arith; repeated = omega arith }
grows n Repeated = record { better = omega arith; inserted = omega arith; repeated = omega arith }
grows n Better = record { better = omega arith; inserted = omega arith; repeated = omega arith }
grows n NoRoom = record { better = omega arith; inserted = omega arith; repeated = omega arith }
grows n Inserted = record { better = omega arith; inserted = omega arith; repeated = omega arith }

tally_grows : (n : Counts) (js : List Judgement) → Grown n (tally n js)
unfolding tally
tally_grows n [] = record { better = omega arith; inserted = omega arith; repeated = omega arith }
tally_grows n (j ∷ js) =
    let a = grows n j.verdict in
    let r = tally_grows (counted n j.verdict) js in
    record { better = omega (arith, a.better, r.better); inserted = omega (arith, a.inserted, r.inserted); repeated = omega (arith, a.repeated, r.repeated) }

-- from h and s to k and t, and from the counts n to m
record Kept (n m : Counts) (h : Held) (s : List ℕ) (k : Held) (t : List ℕ) : Type 0 where
  same : unmarked k ≡ unmarked h
  stored : t ≡ s
  exact : m.repeated ≡ n.repeated → k ≡ h

-- a repeat marks at most
repeat_unmarked : (c : Copy) (h : Held) (e : Entry) (mark : ℕ) → find_pair c h.entries ≡ some e → unmarked (holding (remarked mark e) h) ≡ unmarked h
unfolding placed remarked
repeat_unmarked c h e mark w =
    ap (λ (es : List Entry). record { entries = es; drawn = h.drawn; last_time = h.last_time; last_channel = h.last_channel })
    (put_alike (remarked redundant_mark) (remarked mark e) e h.entries (found_again c mark h.entries e w) refl)

module _ (h : Held) (s : List ℕ) (c : Copy) (mark : ℕ) (n : Counts) where
  abbrev KeptBy : Judged → Type 0
  KeptBy j = (counted n j.verdict).better ≡ n.better → (counted n j.verdict).inserted ≡ n.inserted → Kept n (counted n j.verdict) h s j.held j.store

  judge_kept : KeptBy (judge h s c mark)
  judge_kept =
      judge_cases h s c mark KeptBy
      (λ u p q. record { same = refl; stored = refl; exact = λ x. refl })
      (λ u v p q. record { same = refl; stored = refl; exact = λ x. refl })
      (λ u v e w x p q. record { same = repeat_unmarked c h e (either_mark e.primary mark) w; stored = refl; exact = λ y. absurd (omega arith) })
      (λ u v e w x p q. absurd (omega arith))
      (λ u v w x p q. record { same = refl; stored = refl; exact = λ y. refl })
      (λ u v w x p q. absurd (omega arith))

judge_all_kept : (xs : List Received) (h : Held) (s : List ℕ) (n : Counts)
    → let g = judge_all h s xs in let m = tally n g.judgements in m.better ≡ n.better → m.inserted ≡ n.inserted → Kept n m h s g.held g.store
unfolding judge_all tally
judge_all_kept [] h s n p q = record { same = refl; stored = refl; exact = λ x. refl }
judge_all_kept (x ∷ xs) h s n p q =
    let j = judge h s x.copy x.primary in
    let g = judge_all j.held j.store xs in
    let a = grows n j.verdict in
    let r = tally_grows (counted n j.verdict) g.judgements in
    let k = judge_kept h s x.copy x.primary n (omega (arith, a.better, r.better)) (omega (arith, a.inserted, r.inserted)) in
    let i = judge_all_kept xs j.held j.store (counted n j.verdict) (omega (arith, a.better, r.better)) (omega (arith, a.inserted, r.inserted)) in
    record {
      same = i.same ∙ k.same;
      stored = i.stored ∙ k.stored;
      exact = λ z. i.exact (omega (arith, z, a.repeated, r.repeated)) ∙ k.exact (omega (arith, z, a.repeated, r.repeated));
    }

-- Offers

module _ (ed : Edition) (b : Buffer) (m : Machine b) (packet rows store : List ℕ) where
  abbrev Leaves : OfferOutcome → Type 0
  Leaves r = r.answer.better ≡ 0 → r.answer.inserted ≡ 0 → LeftByOffer b store r

  went : (r : OfferOutcome) → offer_call ed b packet rows store ≡ r → Leaves r → Leaves (offer_call ed b packet rows store)
  went r e p = subst Leaves (sym e) p

  refusing : (q : Fault) → Leaves (offer_refused q b rows store)
  refusing q x y = record { held = refl; settings = refl; store_left = refl; buffer = λ z. refl }

  read_leaves : in_range ed b.settings ≡ true → well_formed b ≡ true → store_size ≤ length store → (o : Outcome) → reading ed b.settings (length rows) packet ≡ o
      → Leaves (offer_read b packet rows store o)
  read_leaves range w room (unread q) e x y = record { held = refl; settings = refl; store_left = refl; buffer = λ z. refl }
  read_leaves range w room (read_as head rs request) e x y =
      let k = judge_all_kept (received_in packet rs) (decode b) store no_counts x y in
      let fit = read_fit ed b.settings range (length rows) packet (read_as head rs request) e in
      let good = judge_all_good b.settings (received_in packet rs) (decode b) store (buffer_good ed b m range w store room) fit in
      record {
        held = ap unmarked (good_back b.settings _ _ good) ∙ k.same;
        settings = refl;
        store_left = k.stored;
        buffer = λ z. ap (encode b.settings) (k.exact z) ∙ encode_decode b m w;
      }

  offer_leaves : Leaves (offer_call ed b packet rows store)
  offer_leaves =
      by-test (in_range ed b.settings)
      (λ r. by-test (well_formed b)
      (λ w. by-test (ltb (length rows) (row_area ed))
      (λ a. went (offer_refused (fault AreaTooShort) b rows store) (offer_rows ed b packet rows store r w (ltb-true _ _ a)) (refusing (fault AreaTooShort)))
      (λ a. by-test (ltb (length store) store_size)
      (λ s. went (offer_refused (fault AreaTooShort) b rows store) (offer_store ed b packet rows store r w (ltb-false _ _ a) (ltb-true _ _ s)) (refusing (fault AreaTooShort)))
      (λ s.
      went (offer_read b packet rows store (reading ed b.settings (length rows) packet)) (offer_reads ed b packet rows store r w (ltb-false _ _ a) (ltb-false _ _ s))
      (read_leaves r w (ltb-false _ _ s) (reading ed b.settings (length rows) packet) refl))))
      (λ w. went (offer_refused (fault Malformed) b rows store) (offer_malformed ed b packet rows store r w) (refusing (fault Malformed))))
      (λ r. went (offer_refused (fault SettingsOutOfRange) b rows store) (offer_out ed b packet rows store r) (refusing (fault SettingsOutOfRange)))

-- Draws

module _ (ed : Edition) (b : Buffer) (none : Empty b) (store area : List ℕ) where
  drew : (r : DrawOutcome) → draw_call ed b store area ≡ r → LeftByDraw b area r → LeftByDraw b area (draw_call ed b store area)
  drew r e p = subst (LeftByDraw b area) (sym e) p

  stopping : (q : Refusal) → LeftByDraw b area (draw_refused q b area)
  stopping q = (refl, refl, λ z. absurd (omega (arith, number_positive q)))

  no_entries : (decode b).entries ≡ []
  unfolding entries_from
  no_entries = ap (λ (n : ℕ). entries_from b n 0) none

  draw_leaves : LeftByDraw b area (draw_call ed b store area)
  draw_leaves =
      by-test (in_range ed b.settings)
      (λ r. by-test (well_formed b)
      (λ w. by-test (ltb (length store) store_size)
      (λ s. drew (draw_refused AreaTooShort b area) (draw_store ed b store area r w (ltb-true _ _ s)) (stopping AreaTooShort))
      (λ s. by-test (ltb (length area) slot_size)
      (λ a. drew (draw_refused AreaTooShort b area) (draw_area ed b store area r w (ltb-false _ _ s) (ltb-true _ _ a)) (stopping AreaTooShort))
      (λ a.
      drew (draw_first b store area []) (draw_goes ed b store area r w (ltb-false _ _ s) (ltb-false _ _ a) ∙ ap (draw_first b store area) no_entries) (refl, refl, λ z. refl))))
      (λ w. drew (draw_refused Malformed b area) (draw_malformed ed b store area r w) (stopping Malformed)))
      (λ r. drew (draw_refused SettingsOutOfRange b area) (draw_out ed b store area r) (stopping SettingsOutOfRange))

pub changes_nothing : (ed : Edition) → ChangesNothing ed
changes_nothing ed = record { offer_leaves = offer_leaves ed; draw_leaves = draw_leaves ed }
