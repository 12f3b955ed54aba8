-- Document 01, "The take": what an offer does to a model and its store. Refusals 11 and 15 come before: they are about the record handed over.
use Rattle.std.specs.Prelude.{ℕ, List, [], cond, length, ltb}
use Rattle.rtp.specs.Editions.{Edition}
use Rattle.rtp.specs.Sizes.{row_area}
use Rattle.rtp.specs.Faults.{fault}
use Rattle.rtp.specs.declared.refusal.Fault.{Fault}
use Rattle.rtp.specs.declared.refusal.Refusal.TheVariants.{AreaTooShort}
use Rattle.read_rows.specs.Rows.{Row}
use Rattle.read_packet.specs.Readings.{Outcome, refused as unread, read_as, reading}
use Rattle.buffer_copies.specs.Sizes.{store_size}
use Rattle.buffer_copies.specs.Copies.{Received}
use Rattle.buffer_copies.specs.Entries.{Held}
use Rattle.buffer_copies.specs.Verdicts.{Gathered, judge_all}
use Rattle.buffer_layout.specs.Model.{Model}
use Rattle.buffer_offer.specs.Rows.{received_in}

-- a call refused, with the place of a packet's fault, or what it comes to
pub data Result (A : Type 0) : Type 0 where
  refused : Fault → Result A
  done : A → Result A

-- Offer

-- the copies of a packet that is read
abbrev pub read_received : List ℕ → Outcome → List Received
read_received packet (unread f) = []
read_received packet (read_as h rs request) = received_in packet rs

-- the rows read, and what judging them in order leaves
pub record Offered : Type 0 where
  pub rows : List Row
  pub gathered : Gathered

-- a packet that was read, or not
abbrev pub judge_read : Held → List ℕ → List ℕ → Outcome → Result Offered
judge_read h packet store (unread f) = refused f
judge_read h packet store (read_as x rs request) = done (record { rows = rs; gathered = judge_all h store (received_in packet rs) })

-- a packet offered with a row area of so many words: 12, then reading's own refusals
unfoldable pub offer_to : Edition → Model → List ℕ → ℕ → List ℕ → Result Offered
offer_to ed m packet area store =
    cond (ltb area (row_area ed)) (refused (fault AreaTooShort))
    (cond (ltb (length store) store_size) (refused (fault AreaTooShort))
    (judge_read m.held packet store (reading ed m.settings area packet)))
