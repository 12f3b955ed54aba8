-- Laws of new and offer, one for each way that a call goes.
use mathlib.Core.Path.{◌≡◌, refl, ap, ◌∙◌}
use Rattle.std.specs.Prelude.{Err, Result}
use mathlib.Core.List.{List}
use mathlib.Core.Bool.{true, false}
use Prim.Native.Nat.{ℕ, ◌≤◌, ◌<◌}
use native.Mathlib.Omega.{arith}
use lib.ListN.{length}
use lib.Dec.{ltb}
use borrow.Author.Tests.{lt-ltb, le-ltb}
use Rattle.rtp.specs.Editions.{Edition}
use Rattle.rtp.specs.Sizes.{row_area, max_packet}
use Rattle.rtp.specs.Ranges.{in_range}
use Rattle.rtp.specs.Refusals.{number}
use Rattle.rtp.specs.Faults.{fault}
use Rattle.rtp.specs.declared.settings.Settings.{Settings}
use Rattle.rtp.specs.declared.refusal.Fault.{Fault}
use Rattle.rtp.specs.declared.refusal.Refusal.TheVariants.{SettingsOutOfRange, Malformed, AreaTooShort}
use Rattle.rtp.proofs.TestLaws.{by-test}
use Rattle.read_packet.specs.Readings.{Outcome, refused, read_as, reading}
use Rattle.read_packet.proofs.PlaceLaws.{place_small}
use Rattle.buffer_copies.specs.Sizes.{store_size}
use Rattle.buffer_layout.specs.declared.buffer.Buffer.{Buffer}
use Rattle.buffer_layout.specs.declared.buffer.Answered.{Answered}
use Rattle.buffer_insert.specs.declared.tally.Tally.{Tally}
use Rattle.buffer_layout.specs.Layout.{decode, fresh}
use Rattle.buffer_layout.specs.WellFormed.{well_formed}
use Rattle.buffer_offer.specs.ModelCalls.{judge_read, offer_to}
use Rattle.buffer_offer.specs.Calls.{no_settings, new_call, OfferOutcome, offer_numbers, offer_refused, offer_done, offer_call}

-- what the code answers, with the areas that it leaves
abbrev pub outcome : List ℕ → List ℕ → Answered (Result Tally Fault) → OfferOutcome
outcome rows store r = record { answer = offer_numbers r.answer; buffer = r.buffer; rows = rows; store = store }

pub outcome_refused : (rows store : List ℕ) (b : Buffer) (r : Answered (Result Tally Fault)) (f g : Fault) → r ≡ record { answer = Err f; buffer = b } → f ≡ g
    → outcome rows store r ≡ offer_refused g b rows store
outcome_refused rows store b r f g e p = ap (outcome rows store) e ∙ ap (λ (x : Fault). offer_refused x b rows store) p

-- an offer whose packet was read, or not
abbrev pub offer_read : Buffer → List ℕ → List ℕ → List ℕ → Outcome → OfferOutcome
offer_read b packet rows store o = offer_done b rows store (judge_read (decode b) packet store o)

pub new_in : (ed : Edition) (st : Settings) → in_range ed st ≡ true → new_call ed st ≡ record { refusal = 0; buffer = fresh st }
unfolding new_call
new_in ed st h = rw h

pub new_out : (ed : Edition) (st : Settings) → in_range ed st ≡ false → new_call ed st ≡ record { refusal = number SettingsOutOfRange; buffer = fresh no_settings }
unfolding new_call
new_out ed st h = rw h

module _ (ed : Edition) (b : Buffer) (packet rows store : List ℕ) where
  pub offer_out : in_range ed b.settings ≡ false → offer_call ed b packet rows store ≡ offer_refused (fault SettingsOutOfRange) b rows store
  unfolding offer_call
  offer_out h = rw h

  module _ (h : in_range ed b.settings ≡ true) where
    pub offer_malformed : well_formed b ≡ false → offer_call ed b packet rows store ≡ offer_refused (fault Malformed) b rows store
    unfolding offer_call
    offer_malformed w = rw (h, w)

    module _ (w : well_formed b ≡ true) where
      pub offer_rows : length rows < row_area ed → offer_call ed b packet rows store ≡ offer_refused (fault AreaTooShort) b rows store
      unfolding offer_call offer_to
      offer_rows a = rw (h, w, lt-ltb (length rows) (row_area ed) a)

      pub offer_store : row_area ed ≤ length rows → length store < store_size → offer_call ed b packet rows store ≡ offer_refused (fault AreaTooShort) b rows store
      unfolding offer_call offer_to
      offer_store a s = rw (h, w, le-ltb (length rows) (row_area ed) a, lt-ltb (length store) store_size s)

      pub offer_reads : row_area ed ≤ length rows → store_size ≤ length store
          → offer_call ed b packet rows store ≡ offer_read b packet rows store (reading ed b.settings (length rows) packet)
      unfolding offer_call offer_to
      offer_reads a s = rw (h, w, le-ltb (length rows) (row_area ed) a, le-ltb (length store) store_size s)

  read_place : (o : Outcome) → reading ed b.settings (length rows) packet ≡ o → (offer_read b packet rows store o).answer.offset ≤ max_packet
  read_place (refused f) e = place_small ed b.settings (length rows) packet f e
  read_place (read_as h rs request) e = omega arith

  -- the place in an offer's answer fits in any number that a packet's length fits in
  pub offer_place : (offer_call ed b packet rows store).answer.offset ≤ max_packet
  unfolding offer_call offer_to
  offer_place =
      by-test (in_range ed b.settings)
      (λ r. by-test (well_formed b)
      (λ w. by-test (ltb (length rows) (row_area ed))
      (λ a. rw (r, w, a) (omega arith))
      (λ a. by-test (ltb (length store) store_size) (λ s. rw (r, w, a, s) (omega arith)) (λ s. rw (r, w, a, s) (read_place (reading ed b.settings (length rows) packet) refl))))
      (λ w. rw (r, w) (omega arith)))
      (λ r. rw r (omega arith))
