-- One run: a list of calls, offers and draws mixed, each with its areas, from a state. It yields each call's answer, each copy's verdict, and the state after all.
-- It speaks of the definitions that the contracts of the calls cite.
use Rattle.std.specs.Prelude.{ℕ, List, [], ◌∷◌, ◌++◌, cond, length, take, eqb}
use Rattle.rtp.specs.Editions.{Edition}
use Rattle.rtp.specs.declared.settings.Settings.{Settings}
use Rattle.buffer_copies.specs.Verdicts.{Judgement}
use Rattle.buffer_layout.specs.declared.buffer.Buffer.{Buffer}
use Rattle.buffer_layout.specs.Layout.{model}
use Rattle.buffer_offer.specs.ModelCalls.{Result, refused, done, Offered, offer_to}
use Rattle.buffer_offer.specs.Calls.{new_call, OfferNumbers, offer_call}
use Rattle.buffer_draw.specs.Calls.{DrawNumbers, draw_call}

-- The calls

-- what is carried from call to call: the buffer that the last one returned, and the store and the row area as it left them
pub record State : Type 0 where
  pub buffer : Buffer
  pub store : List ℕ
  pub rows : List ℕ

-- the row area lent to an offer: the one carried on, or another
pub data RowsLent : Type 0 where
  again : RowsLent
  anew : List ℕ → RowsLent

abbrev pub lent : List ℕ → RowsLent → List ℕ
lent rows again = rows
lent rows (anew l) = l

pub record Offer : Type 0 where
  pub packet : List ℕ
  pub area : RowsLent

-- an offer, or a draw into an area
pub data Call : Type 0 where
  offer : Offer → Call
  draw : List ℕ → Call

-- What a call yields

-- of an offer its answer, and the copies judged, each with its verdict; of a draw its answer, and the area as it left it
pub data Yield : Type 0 where
  offered : OfferNumbers → List Judgement → Yield
  drew : DrawNumbers → List ℕ → Yield

pub record Step : Type 0 where
  pub yield : Yield
  pub state : State

-- the copies that an offer judges: those of its packet, in order; none if it is refused
abbrev pub judgements_of : Result Offered → List Judgement
judgements_of (refused f) = []
judgements_of (done o) = o.gathered.judgements

unfoldable pub judged_by : Edition → Buffer → List ℕ → List ℕ → List ℕ → List Judgement
judged_by ed b packet rows store =
    cond (eqb (offer_call ed b packet rows store).answer.refusal 0) (judgements_of (offer_to ed (model b) packet (length rows) store)) []

unfoldable pub step : Edition → State → Call → Step
step ed s (offer o) =
    let rows = lent s.rows o.area in
    let r = offer_call ed s.buffer o.packet rows s.store in
    record {
      yield = offered r.answer (judged_by ed s.buffer o.packet rows s.store);
      state = record { buffer = r.buffer; store = r.store; rows = r.rows };
    }
step ed s (draw area) =
    let r = draw_call ed s.buffer s.store area in
    record { yield = drew r.answer r.area; state = record { buffer = r.buffer; store = s.store; rows = s.rows } }

pub record Run : Type 0 where
  pub yields : List Yield
  pub state : State

unfoldable pub run : Edition → State → List Call → Run
run ed s [] = record { yields = []; state = s }
run ed s (c ∷ cs) =
    let r = run ed (step ed s c).state cs in
    record { yields = (step ed s c).yield ∷ r.yields; state = r.state }

-- the fresh buffer of settings, whatever the store and the row area hold
abbrev pub begun : Edition → Settings → List ℕ → List ℕ → State
begun ed st store rows = record { buffer = (new_call ed st).buffer; store = store; rows = rows }

-- Read off a run

abbrev pub refusal_of : Yield → ℕ
refusal_of (offered n js) = n.refusal
refusal_of (drew n area) = n.refusal

-- all copies judged, each with its verdict
unfoldable pub judged : List Yield → List Judgement
judged [] = []
judged (offered n js ∷ ys) = js ++ judged ys
judged (drew n area ∷ ys) = judged ys

-- a draw that is not refused: its answer, and the frame's bytes at the front of the draw area
pub record Served : Type 0 where
  pub answer : DrawNumbers
  pub bytes : List ℕ

unfoldable pub served : List Yield → List Served
served [] = []
served (offered n js ∷ ys) = served ys
served (drew n area ∷ ys) = cond (eqb n.refusal 0) (record { answer = n; bytes = take n.length area } ∷ served ys) (served ys)

-- the frames drawn: of the draws that did not find the buffer empty
unfoldable pub frames : List Served → List Served
frames [] = []
frames (x ∷ xs) = cond (eqb x.answer.empty 0) (x ∷ frames xs) (frames xs)
