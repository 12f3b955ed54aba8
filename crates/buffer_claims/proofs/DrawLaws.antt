-- Laws of draws one after another, and of draws after offers: what they hand out.
use mathlib.Core.Path.{◌≡◌, refl, ap, ap₂, sym, ◌∙◌, subst}
use mathlib.Core.List.Memᴰ.{head as here}
use mathlib.Core.List.{List, [], ◌∷◌, ◌++◌, map, Memᴰ}
use mathlib.Core.Bool.{true}
use Prim.Native.Nat.{ℕ, suc, ◌≤◌}
use native.Mathlib.Omega.{arith}
use lib.ListN.{length, take, drop}
use lib.Seq.{take_at}
use borrow.Author.Tests.{ne_eqb}
use Rattle.rtp.specs.Editions.{Edition}
use Rattle.rtp.specs.Ranges.{in_range}
use Rattle.rtp.specs.Refusals.{number}
use Rattle.rtp.specs.Areas.{over}
use Rattle.rtp.specs.declared.settings.Settings.{Settings}
use Rattle.rtp.proofs.RefusalLaws.{number_positive}
use Rattle.read_rows.specs.Rows.{words}
use Rattle.buffer_copies.specs.Sizes.{store_size}
use Rattle.buffer_copies.specs.Copies.{Received}
use Rattle.buffer_copies.specs.Entries.{Entry, Held, frame_of, view}
use Rattle.buffer_copies.specs.Verdicts.{Gathered, judge_all}
use Rattle.buffer_copies.proofs.HeldLaws.{drawn_first, frame_length}
use Rattle.buffer_copies.proofs.MarkLaws.{marked_view, marked_views}
use Rattle.buffer_offer.specs.Rows.{received_in}
use Rattle.buffer_offer.proofs.StateLaws.{good_facts}
use Rattle.buffer_claims.specs.Runs.{lent, Offer, offer, draw, Step, run, Served, served}
use Rattle.buffer_claims.specs.Claims.{accepted, received_from, handed, nothing, in_turn}
use Rattle.buffer_claims.proofs.StepLaws.{spare, Fine, with_room, at, offer_cases, judged_fine, store_length, rows_length, draw_cases, drawn_fine}
use Rattle.buffer_claims.proofs.AcceptedLaws.{accepted_length, judge_more}

-- answers that hand out a list in turn, and then nothing
abbrev pub InTurn : List Served → List Received → Type 0
InTurn xs l = xs ≡ in_turn (length xs) l

module _ (ed : Edition) (st : Settings) (range : in_range ed st ≡ true) where
  -- an entry handed out
  abbrev entry_served : List ℕ → List ℕ → Entry → Served
  entry_served s area e = record {
    answer = record { refusal = 0; empty = 0; time = e.time; channel = e.channel; class = e.class; length = e.length; primary = e.primary };
    bytes = take e.length (over (frame_of s e) area);
  }

  entry_handed : (h : Held) (g : Fine st h) (s area : List ℕ) → store_size ≤ length s → (e : Entry) (es : List Entry) → h.entries ≡ e ∷ es → entry_served s area e ≡ handed (marked_view s e)
  unfolding view over
  entry_handed h g s area room e es q =
      let m : Memᴰ e h.entries = subst (λ (l : List Entry). Memᴰ e l) (sym q) (here refl) in
      let n : length (frame_of s e) ≡ e.length = frame_length s room e ((good_facts st h s (with_room st h spare.0 s g room)).each e m) in
      let b : take e.length (frame_of s e ++ drop (length (frame_of s e)) area) ≡ frame_of s e = take_at (frame_of s e) (drop (length (frame_of s e)) area) e.length n in
      λ i. record {
        answer = record { refusal = 0; empty = 0; time = e.time; channel = e.channel; class = e.class; length = sym n i; primary = e.primary };
        bytes = b i;
      }

  pub draws_turn : (areas : List (List ℕ)) (h : Held) → Fine st h → (s rows : List ℕ) → InTurn (served (run ed (at st h s rows) (map draw areas)).yields) (marked_views s h.entries)
  unfolding run served in_turn
  draws_turn [] h g s rows = refl
  draws_turn (area ∷ areas) h g s rows =
      draw_cases ed st range h g s rows area (λ (d : Step). InTurn (served (d.yield ∷ (run ed d.state (map draw areas)).yields)) (marked_views s h.entries))
      (λ e. draws_turn areas h g s rows)
      (λ e q.
      let r = draws_turn areas h g s rows in
      let xs = served (run ed (at st h s rows) (map draw areas)).yields in
      subst (λ (es : List Entry). nothing ∷ xs ≡ in_turn (suc (length xs)) (marked_views s es)) (sym q)
      (ap (λ (l : List Served). nothing ∷ l) (r ∙ ap (λ (es : List Entry). in_turn (length xs) (marked_views s es)) q)))
      (λ e room x es q.
      let xs = served (run ed (at st (drawn_first x es) s rows) (map draw areas)).yields in
      subst (λ (l : List Entry). entry_served s area x ∷ xs ≡ in_turn (suc (length xs)) (marked_views s l)) (sym q)
      (ap₂ ◌∷◌ (entry_handed h g s area room x es q) (draws_turn areas (drawn_first x es) (drawn_fine ed st range h g s rows x es q) s rows)))

  -- the copies held after offers that accept packets
  abbrev after : Held → List ℕ → List (List ℕ) → List Received
  after h s ps = let k = judge_all h s (received_from ed st ps) in marked_views k.store k.held.entries

  pub offers_turn : (areas : List (List ℕ)) (os : List Offer) (h : Held) → Fine st h → (s rows : List ℕ)
      → InTurn (served (run ed (at st h s rows) (map offer os ++ map draw areas)).yields) (after h s (accepted ed st s rows os))
  unfolding run served accepted received_from judge_all
  offers_turn areas [] h g s rows = draws_turn areas h g s rows
  offers_turn areas (o ∷ os) h g s rows =
      let l = lent rows o.area in
      offer_cases ed st range h g s rows o
      (λ (d : Step). InTurn (served (d.yield ∷ (run ed d.state (map offer os ++ map draw areas)).yields)) (after h s (accepted ed st s rows (o ∷ os))))
      (λ q e. rw (e, ne_eqb (number q.refusal) 0 (omega (arith, number_positive q.refusal))) (offers_turn areas os h g s l))
      (λ rs r e.
      let j = judge_all h s (received_in o.packet rs) in
      let k = offers_turn areas os j.held (judged_fine ed st h s l range g o.packet rs r) j.store (over (words rs) l) in
      let same : accepted ed st j.store (over (words rs) l) os ≡ accepted ed st s l os =
      accepted_length ed st j.store s (store_length ed st h s l range g o.packet rs r) os (over (words rs) l) l (rows_length ed st h s l range g o.packet rs r) in
      rw e (k ∙ ap (λ (ps : List Received). in_turn (length (served (run ed (at st j.held j.store (over (words rs) l)) (map offer os ++ map draw areas)).yields)) ps)
      (ap (after j.held j.store) same
      ∙ sym (ap (λ (x : Gathered). marked_views x.store x.held.entries) (judge_more ed st h s l o.packet rs r (accepted ed st s l os))))))
