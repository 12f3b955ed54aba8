-- What judging the rows of a packet that was read makes of an offer.
use Rattle.std.specs.Prelude.{ℕ, ◌≡◌, List, Result}
use Rattle.buffer_insert.specs.declared.tally.Tally.{Tally}
use Rattle.rtp.specs.declared.refusal.Fault.{Fault}
use Rattle.read_rows.specs.Rows.{Row}
use Rattle.buffer_copies.specs.Verdicts.{no_counts, tally, judge_all}
use Rattle.buffer_layout.specs.declared.buffer.Buffer.{Buffer}
use Rattle.buffer_layout.specs.Layout.{encode, decode}
use Rattle.buffer_offer.specs.Rows.{received_in}
use Rattle.buffer_offer.specs.Calls.{count_numbers, offer_numbers}

-- the answer of an offer in numbers, and what is left
pub record OfferJudged (b b' : Buffer) (packet : List ℕ) (rs : List Row) (a : Result Tally Fault) (store store' : List ℕ) : Type 0 where
  pub answer : offer_numbers a ≡ count_numbers (tally no_counts (judge_all (decode b) store (received_in packet rs)).judgements)
  pub buffer : b' ≡ encode b.settings (judge_all (decode b) store (received_in packet rs)).held
  pub store_left : store' ≡ (judge_all (decode b) store (received_in packet rs)).store
