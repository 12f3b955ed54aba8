-- The claims about runs: demand 3, well-formedness, and the counts.
use Rattle.std.specs.Prelude.{ℕ, zero, suc, ◌+◌, ◌≡◌, ◌↔◌, true, cond, length, ltb, eqb}
use mathlib.Core.List.{List, [], ◌∷◌, ◌++◌, map, Memᴰ}
use Rattle.rtp.specs.Editions.{Edition}
use Rattle.rtp.specs.Sizes.{row_area}
use Rattle.rtp.specs.Ranges.{in_range}
use Rattle.rtp.specs.Refusals.{number}
use Rattle.rtp.specs.declared.settings.Settings.{Settings}
use Rattle.rtp.specs.declared.refusal.Refusal.TheVariants.{AreaTooShort}
use Rattle.read_packet.specs.Readings.{Outcome, refused, read_as, reading}
use Rattle.buffer_copies.specs.Sizes.{slots, slot_size, store_size}
use Rattle.buffer_copies.specs.Copies.{Copy, Received}
use Rattle.buffer_copies.specs.Verdicts.{Counts, no_counts, tally}
use Rattle.buffer_copies.specs.Lists.{WithinStretch, AtMost, copies_of, MarkedPlayout}
use Rattle.buffer_layout.specs.declared.buffer.Buffer.{Buffer}
use Rattle.buffer_layout.specs.Arrays.{Machine}
use Rattle.buffer_layout.specs.Layout.{decode}
use Rattle.buffer_layout.specs.WellFormed.{well_formed}
use Rattle.buffer_offer.specs.ModelCalls.{read_received}
use Rattle.buffer_offer.specs.Calls.{new_call, OfferNumbers}
use Rattle.buffer_draw.specs.Calls.{no_frame}
use Rattle.buffer_claims.specs.Runs.{State, lent, Offer, Call, offer, draw, Yield, offered, drew, step, Run, run, begun, refusal_of, judged, Served, served, frames}

-- What is refused

abbrev pub read_refusal : Outcome → ℕ
read_refusal (refused f) = number f.refusal
read_refusal (read_as h rs request) = 0

-- the refusal that an offer gets: an area lent to it is under its size, or reading refuses its packet; else 0
unfoldable pub offer_refusal : Edition → Settings → List ℕ → List ℕ → List ℕ → ℕ
offer_refusal ed st store rows packet =
    cond (ltb (length rows) (row_area ed)) (number AreaTooShort)
    (cond (ltb (length store) store_size) (number AreaTooShort) (read_refusal (reading ed st (length rows) packet)))

-- the refusal that a draw gets: an area is under its size
unfoldable pub draw_refusal : List ℕ → List ℕ → ℕ
draw_refusal store area = cond (ltb (length store) store_size) (number AreaTooShort) (cond (ltb (length area) slot_size) (number AreaTooShort) 0)

-- of each call in turn, from a store and a row area on: areas keep their lengths
unfoldable pub refusals : Edition → Settings → List ℕ → List ℕ → List Call → List ℕ
refusals ed st store rows [] = []
refusals ed st store rows (offer o ∷ cs) = offer_refusal ed st store (lent rows o.area) o.packet ∷ refusals ed st store (lent rows o.area) cs
refusals ed st store rows (draw area ∷ cs) = draw_refusal store area ∷ refusals ed st store rows cs

-- What is accepted (document 01: heard)

-- the packets of the offers that are not refused
unfoldable pub accepted : Edition → Settings → List ℕ → List ℕ → List Offer → List (List ℕ)
accepted ed st store rows [] = []
accepted ed st store rows (o ∷ os) =
    let rest = accepted ed st store (lent rows o.area) os in
    cond (eqb (offer_refusal ed st store (lent rows o.area) o.packet) 0) (o.packet ∷ rest) rest

-- what packets bring: the copies of their rows of a class other than no data, with their marks
unfoldable pub received_from : Edition → Settings → List (List ℕ) → List Received
received_from ed st [] = []
received_from ed st (p ∷ ps) = read_received p (reading ed st (row_area ed) p) ++ received_from ed st ps

abbrev pub copies_in : Edition → Settings → List (List ℕ) → List Copy
copies_in ed st ps = copies_of (received_from ed st ps)

-- the same packets, in whatever order and however often
abbrev pub SamePackets : List (List ℕ) → List (List ℕ) → Type 0
SamePackets ps qs = (p : List ℕ) → Memᴰ p ps ↔ Memᴰ p qs

-- What is drawn

-- a copy handed out with a mark: its time, channel, class and length, the mark, and its bytes
abbrev pub handed : Received → Served
handed x =
    let c = x.copy in
    record {
      answer = record { refusal = 0; empty = 0; time = c.time; channel = c.channel; class = c.class; length = length c.bytes; primary = x.primary };
      bytes = c.bytes;
    }

abbrev pub nothing : Served
nothing = record { answer = no_frame 0 1; bytes = [] }

-- n draws that hand out a list in turn, from its start, and after its end answer that the buffer is empty
unfoldable pub in_turn : ℕ → List Received → List Served
in_turn zero l = []
in_turn (suc n) [] = nothing ∷ in_turn n []
in_turn (suc n) (c ∷ cs) = handed c ∷ in_turn n cs

-- Demand 3, one claim over its whole list of calls

-- offers to a fresh buffer, and draws after them, each lent its area
abbrev pub delivery : Edition → Settings → List ℕ → List ℕ → List Offer → List (List ℕ) → Run
delivery ed st store rows os areas = run ed (begun ed st store rows) (map offer os ++ map draw areas)

pub record Demand3 (ed : Edition) (st : Settings) : Type 0 where
  -- a call is refused exactly if an area lent to it is under its size or reading refuses its packet: in every run from a fresh buffer
  pub refused_exactly : (store rows : List ℕ) (cs : List Call) → map refusal_of (run ed (begun ed st store rows) cs).yields ≡ refusals ed st store rows cs
  -- packets whose copies lie within a stretch and have at most 192 pairs have a playout list, each item marked if any copy of its pair was heard first-hand; and if just these packets are accepted, in whatever order and however often
  -- and whatever the areas held, then the draws not refused hand it out in turn, and after its end answer empty
  pub in_turn_lem : (packets : List (List ℕ)) → WithinStretch (copies_in ed st packets) → AtMost slots (copies_in ed st packets)
      → (l : List Received) × MarkedPlayout (received_from ed st packets) l
      × ((store rows : List ℕ) (os : List Offer) → SamePackets packets (accepted ed st store rows os)
      → (areas : List (List ℕ)) → let answers = served (delivery ed st store rows os areas).yields in answers ≡ in_turn (length answers) l)

abbrev pub Demand : Edition → Type 0
Demand ed = (st : Settings) → in_range ed st ≡ true → Demand3 ed st

-- copies within a stretch have one playout list at most
abbrev pub OnePlayout : Edition → Type 0
OnePlayout ed = (st : Settings) → in_range ed st ≡ true → (packets : List (List ℕ)) → WithinStretch (copies_in ed st packets)
    → (l m : List Received) → MarkedPlayout (received_from ed st packets) l → MarkedPlayout (received_from ed st packets) m → l ≡ m

-- its premises hold exactly if no copy accepted is far or finds no room
abbrev pub PremisesExact : Edition → Type 0
PremisesExact ed = (st : Settings) (store rows : List ℕ) (os : List Offer) → in_range ed st ≡ true
    → let copies = copies_in ed st (accepted ed st store rows os) in let counts = tally no_counts (judged (run ed (begun ed st store rows) (map offer os)).yields) in
    (WithinStretch copies × AtMost slots copies) ↔ ((counts.far ≡ 0) × (counts.no_room ≡ 0))

-- Well-formedness

-- a fresh buffer is well-formed, every run keeps a buffer so, and so every run from a fresh buffer leaves a well-formed one
pub record KeepsWellFormed (ed : Edition) : Type 0 where
  pub new : (st : Settings) → in_range ed st ≡ true → well_formed (new_call ed st).buffer ≡ true
  pub kept : (s : State) (cs : List Call) → Machine s.buffer → well_formed s.buffer ≡ true → well_formed (run ed s cs).state.buffer ≡ true
  pub from_fresh : (st : Settings) → in_range ed st ≡ true → (store rows : List ℕ) (cs : List Call) → well_formed (run ed (begun ed st store rows) cs).state.buffer ≡ true

-- The counts

-- those in an offer's answer
abbrev pub counts_of : OfferNumbers → Counts
counts_of n = record { late = n.late; far = n.far; repeated = n.repeated; better = n.better; no_room = n.no_room; inserted = n.inserted }

-- an offer's answer gives how often each verdict was given on its copies, whatever the state
abbrev pub Counted : Yield → Type 0
Counted (offered n js) = counts_of n ≡ tally no_counts js
Counted (drew n area) = Unit {0}

abbrev pub CountsVerdicts : Edition → Type 0
CountsVerdicts ed = (s : State) (c : Call) → Counted (step ed s c).yield

-- the frames that a buffer holds
abbrev pub frames_held : Buffer → ℕ
frames_held b = length (decode b).entries

-- from a fresh buffer, all inserted verdicts = frames drawn + frames held
abbrev pub Count : Edition → Type 0
Count ed = (st : Settings) (store rows : List ℕ) (cs : List Call) → in_range ed st ≡ true
    → let r = run ed (begun ed st store rows) cs in (tally no_counts (judged r.yields)).inserted ≡ length (frames (served r.yields)) + frames_held r.state.buffer
