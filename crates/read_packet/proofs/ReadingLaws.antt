-- Laws of a packet's payload by its type, and of what reading a packet comes to.
use mathlib.Core.Path.{◌≡◌, ap, sym, ◌∙◌}
use Rattle.std.specs.Prelude.{Err, Ok, Result}
use Rattle.read_packet.specs.declared.reading.Packet.{Packet}
use mathlib.Core.List.{List}
use mathlib.Core.Bool.{true, false}
use Prim.Native.Nat.{ℕ, ◌+◌, ◌≤◌, ◌<◌}
use native.Mathlib.Omega.{arith}
use lib.ListN.{length, length-take, length-drop}
use borrow.Author.Tests.{eq-eqb, ne_eqb, lt-ltb, le-ltb}
use Rattle.rtp.specs.Editions.{Edition}
use Rattle.rtp.specs.Areas.{over}
use Rattle.rtp.specs.Sizes.{max_packet, row_area}
use Rattle.rtp.specs.Ranges.{in_range}
use Rattle.row_tags.specs.Tags.{primary_mark}
use Rattle.read_headers.specs.Header.{header}
use Rattle.rtp.specs.Faults.{fault}
use Rattle.rtp.specs.declared.refusal.Fault.{Fault}
use Rattle.rtp.specs.declared.settings.Settings.{Settings}
use Rattle.read_headers.specs.declared.header.Header.{Header}
use Rattle.rtp.specs.declared.refusal.Refusal.{Refusal}
use Rattle.rtp.specs.declared.refusal.Refusal.TheVariants.{UnknownPayloadType, SettingsOutOfRange, AreaTooShort}
use Rattle.rtp.proofs.AreaLaws.{over_none}
use Rattle.read_headers.proofs.HeaderLaws.{within}
use Rattle.read_payload.specs.Payloads.{Rows, no_rows, rows_of, rows_answer, rows_words, asked_rows}
use Rattle.read_payload.proofs.PayloadLaws.{asked_in}
use Rattle.read_redundancy.specs.Blocks.{asked_redundant}
use Rattle.read_mode_request.specs.Requests.{typed_request}
use Rattle.read_packet.specs.Readings.{payload_in, typed_rows, Outcome, refused, outcome_of, reading, reading_numbers, outcome_numbers, outcome_words}
use Rattle.read_redundancy.proofs.AnswerLaws.{Gives}
use Rattle.read_redundancy.proofs.AskedLaws.{redundant_in}

-- the payload lies inside the longest packet
pub payload_fits : (s : List ℕ) (h : Header) → header s ≡ Ok h → h.start + length (payload_in s h) ≤ max_packet
payload_fits s h q = let w = within s h q in simp (length-take, length-drop) (omega arith)

module _ (ed : Edition) (st : Settings) (h : Header) (s : List ℕ) where
  pub typed_plain : in_range ed st ≡ true → (area : ℕ) → row_area ed ≤ area → header s ≡ Ok h → h.payload_type ≡ st.payload_type
      → asked_rows ed primary_mark st 0 area h.timestamp h.start (payload_in s h) ≡ typed_rows ed st h (payload_in s h)
  unfolding typed_rows
  typed_plain i area f q e = asked_in ed primary_mark st 0 area h.timestamp h.start (payload_in s h) i (omega arith) (payload_fits s h q) ∙ rw (eq-eqb _ _ e)

  module _ (n : h.payload_type ≡ st.payload_type → ⊥) where
    pub typed_redundant : in_range ed st ≡ true → (area : ℕ) → row_area ed ≤ area → header s ≡ Ok h → h.payload_type ≡ st.redundancy_type
        → asked_redundant ed st area h.timestamp h.start (payload_in s h) ≡ typed_rows ed st h (payload_in s h)
    unfolding typed_rows
    typed_redundant i area f q e = redundant_in ed st area h.timestamp h.start (payload_in s h) i f (payload_fits s h q) ∙ rw (ne_eqb _ _ n, eq-eqb _ _ e)

    pub typed_other : (h.payload_type ≡ st.redundancy_type → ⊥) → typed_rows ed st h (payload_in s h) ≡ no_rows (fault UnknownPayloadType)
    unfolding typed_rows
    typed_other e = rw (ne_eqb _ _ n, ne_eqb _ _ e)

-- Reading a packet

pub reading_out : (ed : Edition) (st : Settings) (area : ℕ) (s : List ℕ) → in_range ed st ≡ false → reading ed st area s ≡ refused (fault SettingsOutOfRange)
unfolding reading
reading_out ed st area s i = rw i

module _ (ed : Edition) (st : Settings) (area : ℕ) (s : List ℕ) (i : in_range ed st ≡ true) where
  pub reading_short : area < row_area ed → reading ed st area s ≡ refused (fault AreaTooShort)
  unfolding reading
  reading_short f = rw (i, lt-ltb _ _ f)

  module _ (f : row_area ed ≤ area) where
    pub reading_refused : (r : Refusal) → header s ≡ Err r → reading ed st area s ≡ refused (fault r)
    unfolding reading
    reading_refused r q = rw (i, le-ltb area (row_area ed) f, q)

    pub reading_headed : (h : Header) → header s ≡ Ok h → reading ed st area s ≡ outcome_of h (typed_request st h.payload_type (payload_in s h)) (typed_rows ed st h (payload_in s h))
    unfolding reading
    reading_headed h q = rw (i, le-ltb area (row_area ed) f, q)

-- The answer r, with the area l left as m, is what reading came to

abbrev pub Comes : Result Packet Fault → List ℕ → List ℕ → Outcome → Type 0
Comes r l m x = (reading_numbers r ≡ outcome_numbers x) × (m ≡ over (outcome_words x) l)

pub comes_refused : (r : Fault) (l : List ℕ) (x : Outcome) → x ≡ refused r → Comes (Err r) l l x
unfolding outcome_numbers outcome_words
comes_refused r l x h = (rw h, rw h (sym (over_none l)))

-- the answer under this header and with this mode request, from the payload's
abbrev pub answer_as : Header → ℕ → Result ℕ Fault → Result Packet Fault
answer_as h request (Err r) = Err r
answer_as h request (Ok n) =
    Ok (record { rows = n; marker = h.marker; sequence = h.sequence; timestamp = h.timestamp; source = h.source; mode_request = request })

typed_comes : (h : Header) (request : ℕ) (p : Result ℕ Fault) (l m : List ℕ) (x : Rows) → Gives p l m x → Comes (answer_as h request p) l m (outcome_of h request x)
unfolding rows_answer rows_words outcome_numbers outcome_words
typed_comes h request p l m (no_rows r) g = (ap (λ (q : Result ℕ Fault). reading_numbers (answer_as h request q)) g.0, g.1)
typed_comes h request p l m (rows_of rs) g = (ap (λ (q : Result ℕ Fault). reading_numbers (answer_as h request q)) g.0, g.1)

pub comes_typed : (h : Header) (request : ℕ) (p q : Result ℕ Fault) (l m : List ℕ) (x : Rows) (y : Outcome) → y ≡ outcome_of h request x → Gives p l m x → p ≡ q
    → Comes (answer_as h request q) l m y
comes_typed h request p q l m x y e g k = rw e (typed_comes h request q l m x (sym k ∙ g.0, g.1))
