-- Document 01, "The take": the calls new and offer, between a buffer and its model. Each definition is the whole meaning of a call, refusals included: answer, buffer and every lent area.
use Rattle.std.specs.Prelude.{ℕ, List, cond, length, Err, Ok, Result as Answer}
use Rattle.buffer_insert.specs.declared.tally.Tally.{Tally}
use Rattle.rtp.specs.Editions.{Edition}
use Rattle.rtp.specs.Ranges.{in_range}
use Rattle.rtp.specs.Refusals.{number}
use Rattle.rtp.specs.Faults.{fault}
use Rattle.rtp.specs.Areas.{over}
use Rattle.rtp.specs.declared.settings.Settings.{Settings}
use Rattle.rtp.specs.declared.refusal.Refusal.{Refusal}
use Rattle.rtp.specs.declared.refusal.Fault.{Fault}
use Rattle.rtp.specs.declared.refusal.Refusal.TheVariants.{SettingsOutOfRange, Malformed}
use Rattle.read_rows.specs.Rows.{words}
use Rattle.buffer_copies.specs.Verdicts.{Counts, no_counts, tally}
use Rattle.buffer_layout.specs.declared.buffer.Buffer.{Buffer}
use Rattle.buffer_layout.specs.Layout.{encode, model, fresh}
use Rattle.buffer_layout.specs.WellFormed.{well_formed}
use Rattle.buffer_offer.specs.ModelCalls.{Result, refused, done, Offered, offer_to}

-- New

-- the settings of the buffer that is all zero
abbrev pub no_settings : Settings
no_settings = record { format = 0; channels = 0; payload_type = 0; redundancy_type = 0 }

-- the refusal number or 0
abbrev pub new_number : Answer Unit Refusal → ℕ
new_number (Ok tt) = 0
new_number (Err r) = number r

-- a fresh buffer; settings out of range are refused, and the buffer is all zero
pub record NewOutcome : Type 0 where
  pub refusal : ℕ
  pub buffer : Buffer

unfoldable pub new_call : Edition → Settings → NewOutcome
new_call ed st = cond (in_range ed st) (record { refusal = 0; buffer = fresh st }) (record { refusal = number SettingsOutOfRange; buffer = fresh no_settings })

-- Offer

-- the answer in numbers: the refusal number or 0, the place of the fault in the packet, and how often each verdict was given, zeros on refusal
pub record OfferNumbers : Type 0 where
  pub refusal : ℕ
  pub offset : ℕ
  pub late : ℕ
  pub far : ℕ
  pub repeated : ℕ
  pub better : ℕ
  pub no_room : ℕ
  pub inserted : ℕ

abbrev pub fault_numbers : Fault → OfferNumbers
fault_numbers f = record { refusal = number f.refusal; offset = f.offset; late = 0; far = 0; repeated = 0; better = 0; no_room = 0; inserted = 0 }

abbrev pub count_numbers : Counts → OfferNumbers
count_numbers n = record { refusal = 0; offset = 0; late = n.late; far = n.far; repeated = n.repeated; better = n.better; no_room = n.no_room; inserted = n.inserted }

-- of the code's answer, case by case
abbrev pub offer_numbers : Answer Tally Fault → OfferNumbers
offer_numbers (Err f) = fault_numbers f
offer_numbers (Ok t) = record {
  refusal = 0;
  offset = 0;
  late = t.late;
  far = t.far;
  repeated = t.repeated;
  better = t.better;
  no_room = t.no_room;
  inserted = t.inserted;
}

-- what a call answers and leaves
pub record OfferOutcome : Type 0 where
  pub answer : OfferNumbers
  pub buffer : Buffer
  pub rows : List ℕ
  pub store : List ℕ

abbrev pub offer_refused : Fault → Buffer → List ℕ → List ℕ → OfferOutcome
offer_refused f b rows store = record { answer = fault_numbers f; buffer = b; rows = rows; store = store }

-- what an offer does to the model, as buffer and areas
abbrev pub offer_done : Buffer → List ℕ → List ℕ → Result Offered → OfferOutcome
offer_done b rows store (refused f) = offer_refused f b rows store
offer_done b rows store (done o) = record {
  answer = count_numbers (tally no_counts o.gathered.judgements);
  buffer = encode b.settings o.gathered.held;
  rows = over (words o.rows) rows;
  store = o.gathered.store;
}

-- an offer of a packet: 11, 15, then what it does to the model
unfoldable pub offer_call : Edition → Buffer → List ℕ → List ℕ → List ℕ → OfferOutcome
offer_call ed b packet rows store =
    cond (in_range ed b.settings)
    (cond (well_formed b) (offer_done b rows store (offer_to ed (model b) packet (length rows) store))
    (offer_refused (fault Malformed) b rows store))
    (offer_refused (fault SettingsOutOfRange) b rows store)
