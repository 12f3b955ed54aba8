-- The place of a fault in a packet is a word: it is at most 2,048.
use mathlib.Core.Path.{◌≡◌, refl, sym, subst}
use mathlib.Core.List.{List}
use Prim.Native.Nat.{ℕ, ◌≤◌}
use native.Mathlib.Omega.{arith}
use Rattle.rtp.specs.Editions.{current}
use Rattle.rtp.specs.Sizes.{max_packet}
use Rattle.rtp.specs.declared.settings.Settings.{Settings}
use Rattle.read_packet.specs.Readings.{Outcome, refused, read_as, reading, Numbers, outcome_numbers}
use Rattle.read_packet.proofs.PlaceLaws.{place_small}
use Rattle.buffer_layout.specs.declared.buffer.Buffer.{Buffer}
use Rattle.buffer_offer.specs.Calls.{OfferNumbers, OfferOutcome, offer_call}
use Rattle.buffer_offer.proofs.CallLaws.{offer_place}
use Rattle.heolstorpit.proofs.OutcomeLaws.{Offers}

outcome_place : (st : Settings) (area : ℕ) (s : List ℕ) (o : Outcome) → reading current st area s ≡ o → (outcome_numbers o).offset ≤ max_packet
unfolding outcome_numbers
outcome_place st area s (refused f) e = place_small current st area s f e
outcome_place st area s (read_as h rs request) e = omega arith

pub reading_place_fits : (st : Settings) (area : ℕ) (s : List ℕ) (n : Numbers) → n ≡ outcome_numbers (reading current st area s) → n.offset ≤ max_packet
reading_place_fits st area s n e = subst (λ (k : Numbers). k.offset ≤ max_packet) (sym e) (outcome_place st area s (reading current st area s) refl)

pub offer_place_fits : (b : Buffer) (packet rows store : List ℕ) (n : OfferNumbers) (b' : Buffer) (rows' store' : List ℕ)
    → Offers n b' rows' store' (offer_call current b packet rows store) → n.offset ≤ max_packet
offer_place_fits b packet rows store n b' rows' store' e = subst (λ (o : OfferOutcome). o.answer.offset ≤ max_packet) (sym e) (offer_place current b packet rows store)
