-- A draw takes the earliest frame and frees its slot: the proof of the claim.
use Prim.Native.Nat.{ℕ, zero, suc, ◌+◌, ◌≤◌}
use mathlib.Core.Path.{◌≡◌, refl, sym, ap, ◌∙◌, subst}
use mathlib.Core.List.{List, ◌∷◌}
use mathlib.Core.Bool.{true}
use native.Mathlib.Omega.{arith}
use borrow.Author.Tests.{eqb-true, eqb-false}
use lib.ListN.{length}
use lib.Dec.{eqb}
use Rattle.rtp.specs.Editions.{Edition}
use Rattle.rtp.specs.Ranges.{in_range}
use Rattle.rtp.proofs.TestLaws.{by-test}
use Rattle.buffer_copies.specs.Sizes.{slots, slot_size, store_size}
use Rattle.buffer_copies.specs.Entries.{Entry, Held}
use Rattle.buffer_copies.proofs.HeldLaws.{drawn_first}
use Rattle.buffer_layout.specs.declared.buffer.Buffer.{Buffer}
use Rattle.buffer_slots.specs.Bits.{mark_of, words_of, lowest_from}
use Rattle.buffer_layout.specs.Arrays.{Machine}
use Rattle.buffer_layout.specs.Layout.{decode}
use Rattle.buffer_layout.specs.WellFormed.{well_formed}
use Rattle.buffer_draw.specs.Calls.{draw_call}
use Rattle.buffer_slots.proofs.WordLaws.{slots_of, Distinct, count_here, count_else, distinct_tail, mark_count, own_distinct}
use Rattle.buffer_draw.proofs.CallLaws.{draw_first, draw_goes}
use Rattle.buffer_offer.proofs.StateLaws.{Good, draw_good}
use Rattle.buffer_layout.proofs.WellFormedLaws.{words_held}
use Rattle.buffer_offer.proofs.BufferLaws.{buffer_good, good_back}
use Rattle.buffer_claims.specs.DrawClaims.{DrawsEarliest, Draws}

-- no free slot is lower than the lowest
lowest_least : (ws : List ℕ) (s : ℕ) → mark_of ws s ≡ 0 → (k i : ℕ) → i ≤ s → lowest_from ws k i ≤ s
unfolding lowest_from
lowest_least ws s z zero i l = l
lowest_least ws s z (suc k) i l =
    by-test (eqb (mark_of ws i) 0)
    (λ a. rw a l)
    (λ a. rw a (lowest_least ws s z k (i + 1) (past (eqb-false (mark_of ws i) 0 a))))
  where
    past : (mark_of ws i ≡ 0 → ⊥) → i + 1 ≤ s
    past n = by-test (eqb i s) (λ e. absurd (n (ap (mark_of ws) (eqb-true i s e) ∙ z))) (λ e. let d = eqb-false i s e in omega arith)

module _ (ed : Edition) (b : Buffer) (m : Machine b) (range : in_range ed b.settings ≡ true) (w : well_formed b ≡ true) (store area : List ℕ) (room : store_size ≤ length store)
    (size : slot_size ≤ length area) (e : Entry) (es : List Entry) (q : (decode b).entries ≡ e ∷ es) where
  good : Good b.settings (decode b) store
  good = buffer_good ed b m range w store room

  -- the marks before: those of all slots, each once
  before : words_of (e.slot ∷ slots_of es) ≡ b.occupied
  before = ap (λ (l : List Entry). words_of (slots_of l)) (sym q) ∙ words_held b m w

  slots_once : Distinct (e.slot ∷ slots_of es)
  slots_once = subst (λ (l : List Entry). Distinct (slots_of l)) q (own_distinct (decode b).entries good.facts.slot_facts)

  after_once : Distinct (slots_of es)
  after_once = distinct_tail e.slot (slots_of es) slots_once

  free : mark_of (words_of (slots_of es)) e.slot ≡ 0
  free = omega (arith, mark_count (slots_of es) after_once e.slot, slots_once.once e.slot, count_here e.slot (slots_of es))

  draws_first : DrawsEarliest b store area e es (draw_first b store area (e ∷ es))
  draws_first = record {
    answers = refl;
    frame = refl;
    rest = ap (λ (h : Held). h.entries) (good_back b.settings (drawn_first e es) store (draw_good b.settings (decode b) store e es q good));
    freed = free;
    again = lowest_least (words_of (slots_of es)) e.slot free slots 0 (omega arith);
    others = λ s d.
        mark_count (slots_of es) after_once s ∙ sym (count_else s e.slot (slots_of es) d) ∙ sym (mark_count (e.slot ∷ slots_of es) slots_once s)
        ∙ ap (λ (ws : List ℕ). mark_of ws s) before;
    last = (refl, refl, refl);
    settings = refl;
  }

  draws_earliest : DrawsEarliest b store area e es (draw_call ed b store area)
  draws_earliest = subst (DrawsEarliest b store area e es) (sym (draw_goes ed b store area range w room size ∙ ap (draw_first b store area) q)) draws_first

pub draws : (ed : Edition) → Draws ed
draws ed = draws_earliest ed
