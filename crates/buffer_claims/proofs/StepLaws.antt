-- Laws of one call from the buffer of a model: each way that it goes, and what it leaves.
use mathlib.Core.Path.{◌≡◌, refl, ap, sym, ◌∙◌, subst}
use mathlib.Core.List.Memᴰ.{not-nil as nowhere}
use mathlib.Core.List.{List, [], ◌∷◌}
use mathlib.Core.Bool.{true, cond, true≢false}
use Prim.Native.Nat.{ℕ, ◌≤◌}
use native.Mathlib.Omega.{arith}
use lib.ListN.{length, replicate, length-replicate, length-append, length-drop, drop}
use lib.Dec.{ltb, eqb}
use borrow.Author.Tests.{ltb-true, ltb-false, ne_eqb}
use Rattle.rtp.specs.Editions.{Edition}
use Rattle.rtp.specs.Sizes.{row_area}
use Rattle.rtp.specs.Ranges.{in_range}
use Rattle.rtp.specs.Refusals.{number}
use Rattle.rtp.specs.Areas.{over}
use Rattle.rtp.specs.declared.settings.Settings.{Settings}
use Rattle.read_headers.specs.declared.header.Header.{Header}
use Rattle.rtp.specs.Faults.{fault}
use Rattle.rtp.specs.declared.refusal.Fault.{Fault}
use Rattle.rtp.specs.declared.refusal.Refusal.TheVariants.{AreaTooShort}
use Rattle.rtp.proofs.TestLaws.{by-test}
use Rattle.rtp.proofs.RefusalLaws.{number_positive}
use Rattle.read_rows.specs.Rows.{Row, words}
use Rattle.read_rows.proofs.RowLaws.{length_words}
use Rattle.read_packet.specs.Readings.{Outcome, refused as unread, read_as, reading}
use Rattle.read_packet.proofs.RowFactLaws.{rows_fine}
use Rattle.buffer_copies.specs.Sizes.{slot_size, store_size}
use Rattle.buffer_copies.specs.Entries.{Entry, Held, frame_of}
use Rattle.buffer_copies.specs.Verdicts.{no_counts, tally, judge_all}
use Rattle.buffer_copies.proofs.HeldLaws.{fresh, drawn_first, judge_all_length}
use Rattle.buffer_layout.specs.declared.buffer.Buffer.{Buffer}
use Rattle.buffer_layout.specs.Layout.{encode, model}
use Rattle.buffer_offer.specs.Rows.{received_in}
use Rattle.buffer_offer.specs.ModelCalls.{Result, refused, Offered, judge_read, offer_to}
use Rattle.buffer_offer.specs.Calls.{NewOutcome, fault_numbers, count_numbers, OfferOutcome, offer_done, offer_call}
use Rattle.buffer_draw.specs.Calls.{DrawNumbers, no_frame, DrawOutcome, draw_refused, draw_call}
use Rattle.buffer_layout.proofs.LayoutLaws.{fresh_encode}
use Rattle.buffer_offer.proofs.CallLaws.{new_in}
use Rattle.buffer_draw.proofs.CallLaws.{draw_first, draw_store, draw_area, draw_goes}
use Rattle.buffer_offer.proofs.StateLaws.{Good, good_facts, judge_all_good, draw_good}
use Rattle.buffer_offer.proofs.BufferLaws.{good_fine, good_back}
use Rattle.buffer_offer.proofs.CopyLaws.{read_fit, fits_frames, fits_marks}
use Rattle.buffer_claims.specs.Runs.{State, lent, Offer, offer, draw, offered, drew, Step, judgements_of, judged_by, step, begun}
use Rattle.buffer_claims.specs.Claims.{read_refusal, offer_refusal, draw_refusal}

-- some store with room
pub spare : (s : List ℕ) × (store_size ≤ length s)
spare = (replicate store_size 0, subst (λ n. store_size ≤ n) (sym (length-replicate {A = ℕ} store_size 0)) (omega arith))

-- the model of a well-formed buffer, whatever its store
abbrev pub Fine : Settings → Held → Type 0
Fine st h = Good st h spare.0

pub with_room : (st : Settings) (h : Held) (t s : List ℕ) → Good st h t → store_size ≤ length s → Good st h s
with_room st h t s g l = record { facts = g.facts; words = g.words; last_word = g.last_word; last_octet = g.last_octet; room = l }

-- the state of a model
abbrev pub at : Settings → Held → List ℕ → List ℕ → State
at st h s rows = record { buffer = encode st h; store = s; rows = rows }

pub fresh_fine : (st : Settings) → Fine st fresh
fresh_fine st = record {
  facts = record {
    rising = tt;
    stretch = tt;
    each = λ e m. absurd (nowhere m);
    slot_facts = record { differ = tt; within = λ e m. absurd (nowhere m) };
    room = omega arith;
    after_last = λ d e m. absurd (nowhere m);
    last_channel_lem = λ d. absurd (true≢false (sym d));
    no_last = λ d. (refl, refl);
  };
  words = λ e m. absurd (nowhere m);
  last_word = omega arith;
  last_octet = omega arith;
  room = spare.1;
}

pub begun_at : (ed : Edition) (st : Settings) → in_range ed st ≡ true → (s rows : List ℕ) → begun ed st s rows ≡ at st fresh s rows
begun_at ed st range s rows =
    ap (λ (n : NewOutcome). record { buffer = n.buffer; store = s; rows = rows }) (new_in ed st range)
    ∙ ap (λ (b : Buffer). record { buffer = b; store = s; rows = rows }) (sym (fresh_encode st))

-- Offers

module _ (ed : Edition) (st : Settings) (h : Held) (s l : List ℕ) where
  -- refused, and judged
  abbrev pub refused_offer : Fault → Step
  refused_offer q = record { yield = offered (fault_numbers q) []; state = at st h s l }

  abbrev pub judged_offer : List ℕ → List Row → Step
  judged_offer packet rs =
      let g = judge_all h s (received_in packet rs) in
      record { yield = offered (count_numbers (tally no_counts g.judgements)) g.judgements; state = at st g.held g.store (over (words rs) l) }

  -- what an offer yields, by what it does to the model
  abbrev step_of : Result Offered → Step
  step_of x =
      let r = offer_done (encode st h) l s x in
      record {
        yield = offered r.answer (cond (eqb r.answer.refusal 0) (judgements_of x) []);
        state = record { buffer = r.buffer; store = r.store; rows = r.rows };
      }

  -- an offer's packet, read into areas that are long enough
  pub record IsRead (packet : List ℕ) (rs : List Row) : Type 0 where
    pub area : row_area ed ≤ length l
    pub room : store_size ≤ length s
    pub head : Header
    pub request : ℕ
    pub same : reading ed st (length l) packet ≡ read_as head rs request

  module _ (range : in_range ed st ≡ true) (g : Fine st h) where
    -- what a judged offer leaves: a well-formed buffer, and areas of their lengths
    module _ (packet : List ℕ) (rs : List Row) (r : IsRead packet rs) where
      good : Good st h s
      good = with_room st h spare.0 s g r.room

      pub judged_fine : Fine st (judge_all h s (received_in packet rs)).held
      judged_fine =
          with_room st _ _ spare.0
          (judge_all_good st (received_in packet rs) h s good (read_fit ed st range (length l) packet (read_as r.head rs r.request) r.same)) spare.1

      pub store_length : length (judge_all h s (received_in packet rs)).store ≡ length s
      store_length =
          judge_all_length h s (received_in packet rs) (good_facts st h s good)
          (fits_frames st (received_in packet rs) (read_fit ed st range (length l) packet (read_as r.head rs r.request) r.same))
          (fits_marks st (received_in packet rs) (read_fit ed st range (length l) packet (read_as r.head rs r.request) r.same))

      pub rows_length : length (over (words rs) l) ≡ length l
      unfolding over
      rows_length =
          let few = (rows_fine ed st (length l) packet r.head rs r.request r.same).1 in
          omega (arith, length-append (words rs) (drop (length (words rs)) l), length-drop (length (words rs)) l, length_words rs, few, r.area)

    -- a case for each way that an offer goes
    module _ (packet : List ℕ) (P : Step → Type 0)
        (refusing : (q : Fault) → offer_refusal ed st s l packet ≡ number q.refusal → P (refused_offer q))
        (judging : (rs : List Row) → IsRead packet rs → offer_refusal ed st s l packet ≡ 0 → P (judged_offer packet rs)) where
      read_cases : row_area ed ≤ length l → store_size ≤ length s → (x : Outcome) → reading ed st (length l) packet ≡ x
          → offer_refusal ed st s l packet ≡ read_refusal x → P (step_of (judge_read h packet s x))
      read_cases a room (unread q) e r = rw (ne_eqb (number q.refusal) 0 (omega (arith, number_positive q.refusal))) (refusing q r)
      read_cases a room (read_as x rs request) e r = judging rs (record { area = a; room = room; head = x; request = request; same = e }) r

      went : (x : Result Offered) → offer_to ed (record { settings = st; held = h }) packet (length l) s ≡ x → P (step_of x)
          → P (step_of (offer_to ed (record { settings = st; held = h }) packet (length l) s))
      went x e p = subst (λ (y : Result Offered). P (step_of y)) (sym e) p

      offer_ways : P (step_of (offer_to ed (record { settings = st; held = h }) packet (length l) s))
      unfolding offer_to offer_refusal
      offer_ways =
          by-test (ltb (length l) (row_area ed))
          (λ a. went (refused (fault AreaTooShort)) (rw a) (refusing (fault AreaTooShort) (rw a)))
          (λ a. by-test (ltb (length s) store_size)
          (λ b. went (refused (fault AreaTooShort)) (rw (a, b)) (refusing (fault AreaTooShort) (rw (a, b))))
          (λ b.
          went (judge_read h packet s (reading ed st (length l) packet)) (rw (a, b))
          (read_cases (ltb-false _ _ a) (ltb-false _ _ b) (reading ed st (length l) packet) refl (rw (a, b)))))

      -- a well-formed buffer in range: what the offer does to its model
      offer_goes : offer_call ed (encode st h) packet l s ≡ offer_done (encode st h) l s (offer_to ed (model (encode st h)) packet (length l) s)
      unfolding offer_call
      offer_goes = rw (range, good_fine st h spare.0 g)

      pub offer_step : P (record {
        yield = offered (offer_call ed (encode st h) packet l s).answer (judged_by ed (encode st h) packet l s);
        state = record { buffer = (offer_call ed (encode st h) packet l s).buffer; store = (offer_call ed (encode st h) packet l s).store; rows = (offer_call ed (encode st h) packet l s).rows };
      })
      unfolding judged_by
      offer_step =
          subst (λ (r : OfferOutcome). P (record {
            yield = offered r.answer (cond (eqb r.answer.refusal 0) (judgements_of (offer_to ed (model (encode st h)) packet (length l) s)) []);
            state = record { buffer = r.buffer; store = r.store; rows = r.rows };
          })) (sym offer_goes)
          (subst (λ (k : Held). P (step_of (offer_to ed (record { settings = st; held = k }) packet (length l) s))) (sym (good_back st h spare.0 g)) offer_ways)

module _ (ed : Edition) (st : Settings) (range : in_range ed st ≡ true) (h : Held) (g : Fine st h) (s rows : List ℕ) where
  pub offer_cases : (o : Offer) (P : Step → Type 0) → let l = lent rows o.area in
      ((q : Fault) → offer_refusal ed st s l o.packet ≡ number q.refusal → P (refused_offer ed st h s l q))
      → ((rs : List Row) → IsRead ed st h s l o.packet rs → offer_refusal ed st s l o.packet ≡ 0 → P (judged_offer ed st h s l o.packet rs))
      → P (step ed (at st h s rows) (offer o))
  unfolding step
  offer_cases o P refusing judging = offer_step ed st h s (lent rows o.area) range g o.packet P refusing judging

  -- Draws

  abbrev frame_numbers : Entry → DrawNumbers
  frame_numbers e = record { refusal = 0; empty = 0; time = e.time; channel = e.channel; class = e.class; length = e.length; primary = e.primary }

  abbrev draw_of : DrawOutcome → Step
  draw_of r = record { yield = drew r.answer r.area; state = record { buffer = r.buffer; store = s; rows = rows } }

  -- a case for each way that a draw goes
  pub draw_cases : (area : List ℕ) (P : Step → Type 0)
      → (draw_refusal s area ≡ number AreaTooShort → P (record { yield = drew (no_frame (number AreaTooShort) 0) area; state = at st h s rows }))
      → (draw_refusal s area ≡ 0 → h.entries ≡ [] → P (record { yield = drew (no_frame 0 1) area; state = at st h s rows }))
      → (draw_refusal s area ≡ 0 → store_size ≤ length s → (e : Entry) (es : List Entry) → h.entries ≡ e ∷ es
      → P (record { yield = drew (frame_numbers e) (over (frame_of s e) area); state = at st (drawn_first e es) s rows }))
      → P (step ed (at st h s rows) (draw area))
  unfolding step draw_refusal
  draw_cases area P refusing empty frame =
      let w = good_fine st h spare.0 g in
      by-test (ltb (length s) store_size)
      (λ a. went (draw_refused AreaTooShort (encode st h) area) (draw_store ed (encode st h) s area range w (ltb-true _ _ a)) (refusing (rw a)))
      (λ a. by-test (ltb (length area) slot_size)
      (λ b. went (draw_refused AreaTooShort (encode st h) area) (draw_area ed (encode st h) s area range w (ltb-false _ _ a) (ltb-true _ _ b)) (refusing (rw (a, b))))
      (λ b.
      went (draw_first (encode st h) s area h.entries)
      (draw_goes ed (encode st h) s area range w (ltb-false _ _ a) (ltb-false _ _ b)
      ∙ ap (λ (k : Held). draw_first (encode st h) s area k.entries) (good_back st h spare.0 g))
      (first (rw (a, b)) (ltb-false _ _ a) h.entries refl)))
    where
      went : (r : DrawOutcome) → draw_call ed (encode st h) s area ≡ r → P (draw_of r) → P (draw_of (draw_call ed (encode st h) s area))
      went r e p = subst (λ (x : DrawOutcome). P (draw_of x)) (sym e) p

      first : draw_refusal s area ≡ 0 → store_size ≤ length s → (es : List Entry) → h.entries ≡ es → P (draw_of (draw_first (encode st h) s area es))
      first z room [] q = empty z q
      first z room (e ∷ es) q = frame z room e es q

  pub drawn_fine : (e : Entry) (es : List Entry) → h.entries ≡ e ∷ es → Fine st (drawn_first e es)
  drawn_fine e es q = draw_good st h spare.0 e es q g
