-- What a call answers and leaves, with C's fields in the place of the library's answer: they have the same numbers.
use mathlib.Core.Path.{◌≡◌, ap, ◌∙◌}
use mathlib.Core.List.{List}
use Prim.Native.Nat.{ℕ}
use lib.IntN.{ℤ}
use Rattle.buffer_layout.specs.declared.buffer.Buffer.{Buffer}
use Rattle.buffer_offer.specs.Calls.{NewOutcome, OfferNumbers, OfferOutcome}
use Rattle.buffer_draw.specs.Calls.{DrawNumbers, DrawOutcome}
use Rattle.report.specs.declared.record.Reception.{Reception}
use Rattle.report.specs.Calls.{PacketNumbers, PacketOutcome, ReportNumbers, ReportOutcome}

-- new
abbrev pub News : ℕ → Buffer → NewOutcome → Type 0
News n b o = record { refusal = n; buffer = b } ≡ o

pub news_same : (n k : ℕ) (b : Buffer) (o : NewOutcome) → k ≡ n → News n b o → News k b o
news_same n k b o h e = ap (λ (m : ℕ). record { refusal = m; buffer = b }) h ∙ e

-- offer
abbrev pub Offers : OfferNumbers → Buffer → List ℕ → List ℕ → OfferOutcome → Type 0
Offers n b rows store o = record { answer = n; buffer = b; rows = rows; store = store } ≡ o

pub offers_same : (n k : OfferNumbers) (b : Buffer) (rows store : List ℕ) (o : OfferOutcome) → k ≡ n → Offers n b rows store o → Offers k b rows store o
offers_same n k b rows store o h e = ap (λ (m : OfferNumbers). record { answer = m; buffer = b; rows = rows; store = store }) h ∙ e

-- draw
abbrev pub Draws : DrawNumbers → Buffer → List ℕ → DrawOutcome → Type 0
Draws n b area o = record { answer = n; buffer = b; area = area } ≡ o

pub draws_same : (n k : DrawNumbers) (b : Buffer) (area : List ℕ) (o : DrawOutcome) → k ≡ n → Draws n b area o → Draws k b area o
draws_same n k b area o h e = ap (λ (m : DrawNumbers). record { answer = m; buffer = b; area = area }) h ∙ e

-- a packet's call of reception
abbrev pub Receives : PacketNumbers → Reception → PacketOutcome → Type 0
Receives n r o = record { answer = n; reception = r } ≡ o

pub receives_same : (n k : PacketNumbers) (r : Reception) (o : PacketOutcome) → k ≡ n → Receives n r o → Receives k r o
receives_same n k r o h e = ap (λ (m : PacketNumbers). record { answer = m; reception = r }) h ∙ e

-- a report's call; the losses as the machine reads them back
abbrev pub Reports : ReportNumbers → Reception → ReportOutcome → Type 0
Reports n r o = record { answer = n; reception = r } ≡ o

pub reports_same : (n k : ReportNumbers) (lost : ℤ) (r : Reception) (o : ReportOutcome) → k ≡ n → lost ≡ k.cumulative_lost → Reports n r o
    → Reports (record { refusal = k.refusal; fraction_lost = k.fraction_lost; cumulative_lost = lost; highest_sequence = k.highest_sequence; jitter = k.jitter }) r o
reports_same n k lost r o h l e =
    ap (λ (z : ℤ). record { answer = record { refusal = k.refusal; fraction_lost = k.fraction_lost; cumulative_lost = z; highest_sequence = k.highest_sequence; jitter = k.jitter }; reception = r }) l
    ∙ ap (λ (m : ReportNumbers). record { answer = m; reception = r }) h ∙ e
