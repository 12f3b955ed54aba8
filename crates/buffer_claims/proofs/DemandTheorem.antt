-- Demand 3: the proof of the claim.
use mathlib.Core.Path.{◌≡◌, ap, sym, ◌∙◌, subst}
use mathlib.Core.List.Memᴰ.{not-nil as nowhere}
use mathlib.Core.List.{List, [], ◌++◌, map, Memᴰ}
use mathlib.Core.Bool.{true}
use Prim.Native.Nat.{ℕ}
use lib.ListN.{length}
use lib.Dec.{ltb}
use borrow.Author.Tests.{ltb-true, ltb-false}
use Rattle.rtp.specs.Editions.{Edition}
use Rattle.rtp.specs.Ranges.{in_range}
use Rattle.rtp.specs.declared.settings.Settings.{Settings}
use Rattle.rtp.proofs.TestLaws.{by-test}
use Rattle.buffer_copies.specs.Sizes.{slots, store_size}
use Rattle.buffer_copies.specs.Copies.{Copy, Received}
use Rattle.buffer_copies.specs.Verdicts.{judge_all}
use Rattle.buffer_copies.specs.Lists.{WithinStretch, AtMost, MarkedPlayout}
use Rattle.buffer_copies.proofs.HeldLaws.{fresh}
use Rattle.buffer_copies.proofs.PlayoutLaws.{gathered}
use Rattle.buffer_copies.proofs.MarkLaws.{marked_views, copies_in_lem, marked_playout_of, marked_unique}
use Rattle.buffer_claims.specs.Runs.{State, Offer, offer, draw, run, refusal_of, served}
use Rattle.buffer_claims.specs.Claims.{accepted, received_from, copies_in, SamePackets, in_turn, delivery, Demand, OnePlayout}
use Rattle.buffer_claims.proofs.StepLaws.{spare, at, fresh_fine, begun_at}
use Rattle.buffer_claims.proofs.RunLaws.{run_refusals}
use Rattle.buffer_claims.proofs.AcceptedLaws.{accepted_none, copies_frames, copies_marks, copies_among}
use Rattle.buffer_claims.proofs.DrawLaws.{InTurn, offers_turn}

-- the premises speak of the copies alone
within_among : (a b : List Copy) → ((x : Copy) → Memᴰ x b → Memᴰ x a) → WithinStretch a → WithinStretch b
within_among a b f W = record { base = W.base; word = W.word; within = λ x m. W.within x (f x m) }

few_among : (n : ℕ) (a b : List Copy) → ((x : Copy) → Memᴰ x b → Memᴰ x a) → AtMost n a → AtMost n b
few_among n a b f few ds own d = few ds (λ x m. f x (own x m)) d

none_played : MarkedPlayout [] []
none_played = record {
  playout = record { once = tt; ascending = tt; copies = λ d m. m; all = λ x m. absurd (nowhere m); best = λ d x m n. absurd (nowhere m) };
  set = λ d m. absurd (nowhere m);
  unset = λ d m. absurd (nowhere m);
}

module _ (ed : Edition) (st : Settings) (range : in_range ed st ≡ true) where
  -- the copies held after packets, with their marks and with a store
  abbrev left : List ℕ → List (List ℕ) → List Received
  left s ps = let g = gathered s (received_from ed st ps) in marked_views g.store g.held.entries

  module _ (packets : List (List ℕ)) (W : WithinStretch (copies_in ed st packets)) (few : AtMost slots (copies_in ed st packets)) where
    list_is : MarkedPlayout (received_from ed st packets) (left spare.0 packets)
    list_is = marked_playout_of spare.0 (received_from ed st packets) spare.1 (copies_frames ed st range packets) (copies_marks ed st range packets) W few

    module _ (s rows : List ℕ) (os : List Offer) (same : SamePackets packets (accepted ed st s rows os)) where
      abbrev theirs : List (List ℕ)
      theirs = accepted ed st s rows os

      to : (x : Received) → Memᴰ x (received_from ed st packets) → Memᴰ x (received_from ed st theirs)
      to = copies_among ed st packets theirs (λ p. (same p).0)

      back : (x : Received) → Memᴰ x (received_from ed st theirs) → Memᴰ x (received_from ed st packets)
      back = copies_among ed st theirs packets (λ p. (same p).1)

      back_copy : (c : Copy) → Memᴰ c (copies_in ed st theirs) → Memᴰ c (copies_in ed st packets)
      back_copy = copies_in_lem (received_from ed st theirs) (received_from ed st packets) back

      -- what is held is their playout list; with a store under its size nothing is accepted, and nothing is held
      held_is : MarkedPlayout (received_from ed st theirs) (left s theirs)
      unfolding received_from judge_all
      held_is =
          by-test (ltb (length s) store_size)
          (λ a. subst (λ (ps : List (List ℕ)). MarkedPlayout (received_from ed st ps) (left s ps)) (sym (accepted_none ed st s (ltb-true _ _ a) os rows)) none_played)
          (λ a.
          marked_playout_of s (received_from ed st theirs) (ltb-false _ _ a) (copies_frames ed st range theirs) (copies_marks ed st range theirs)
          (within_among (copies_in ed st packets) (copies_in ed st theirs) back_copy W) (few_among slots (copies_in ed st packets) (copies_in ed st theirs) back_copy few))

      one_list : left s theirs ≡ left spare.0 packets
      one_list =
          sym (marked_unique (received_from ed st packets) (received_from ed st theirs) to back (left spare.0 packets) (left s theirs)
          (copies_frames ed st range packets) W list_is held_is)

      turns : (areas : List (List ℕ)) → InTurn (served (delivery ed st s rows os areas).yields) (left spare.0 packets)
      turns areas =
          subst (λ (x : State). InTurn (served (run ed x (map offer os ++ map draw areas)).yields) (left spare.0 packets)) (sym (begun_at ed st range s rows))
          (offers_turn ed st range areas os fresh (fresh_fine st) s rows
          ∙ ap (λ (l : List Received). in_turn (length (served (run ed (at st fresh s rows) (map offer os ++ map draw areas)).yields)) l) one_list)

pub one_playout : (ed : Edition) → OnePlayout ed
one_playout ed st range packets W l m p q =
    marked_unique (received_from ed st packets) (received_from ed st packets) (λ x i. i) (λ x i. i) l m (copies_frames ed st range packets) W p q

pub demand : (ed : Edition) → Demand ed
demand ed st range = record {
  refused_exactly = λ store rows cs.
      ap (λ (s : State). map refusal_of (run ed s cs).yields) (begun_at ed st range store rows) ∙ run_refusals ed st range cs fresh (fresh_fine st) store rows;
  in_turn_lem = λ packets W few. (left ed st range spare.0 packets, list_is ed st range packets W few, turns ed st range packets W few);
}
