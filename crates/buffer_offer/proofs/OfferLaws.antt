-- Laws of an offer whose packet was read, or not.
use mathlib.Core.Path.{◌≡◌, refl, ap, ap₂, sym, ◌∙◌, subst}
use Rattle.std.specs.Prelude.{Ok, Result}
use mathlib.Core.List.{List, [], ◌∷◌}
use mathlib.Core.Bool.{true}
use Prim.Native.Nat.{ℕ, ◌*◌, ◌≤◌}
use native.Mathlib.Omega.{arith}
use lib.ListN.{length, take, drop}
use lib.Seq.{take-append_seam}
use Rattle.rtp.specs.Editions.{Edition}
use Rattle.rtp.specs.Sizes.{row_width, row_area, max_rows}
use Rattle.rtp.specs.Ranges.{in_range}
use Rattle.rtp.specs.Refusals.{number}
use Rattle.rtp.specs.Areas.{over}
use Rattle.rtp.specs.declared.refusal.Fault.{Fault}
use Rattle.read_headers.specs.declared.header.Header.{Header}
use Rattle.rtp.proofs.RefusalLaws.{number_positive}
use Rattle.rtp.proofs.RangeLaws.{few_channels}
use Rattle.frame_codes.proofs.CodeLaws.{code_small}
use Rattle.read_rows.specs.Rows.{Row, words, rows_in}
use Rattle.read_rows.proofs.RowLaws.{length_words, TagsFit, rows_words}
use Rattle.read_payload.proofs.RowFactLaws.{RowFine, AllRows}
use Rattle.read_packet.specs.declared.reading.Packet.{Packet}
use Rattle.read_packet.specs.Readings.{Outcome, refused, read_as, reading, Numbers, refused_numbers, reading_numbers, outcome_numbers, outcome_words}
use Rattle.read_packet.proofs.RowFactLaws.{rows_fine}
use Rattle.buffer_copies.specs.Sizes.{store_size}
use Rattle.buffer_copies.specs.Verdicts.{no_counts, tally, Gathered, judge_all}
use Rattle.buffer_layout.specs.declared.buffer.Buffer.{Buffer}
use Rattle.buffer_insert.specs.declared.tally.Tally.{Tally}
use Rattle.buffer_layout.specs.Layout.{encode, decode}
use Rattle.buffer_layout.specs.WellFormed.{well_formed}
use Rattle.buffer_offer.specs.Rows.{received_in}
use Rattle.buffer_layout.specs.Arrays.{Machine}
use Rattle.buffer_insert.specs.Tallies.{no_tally}
use Rattle.buffer_offer.specs.Judging.{RowsJudgeable, RowsJudged}
use Rattle.buffer_offer.specs.Offers.{OfferJudged}
use Rattle.buffer_offer.specs.Calls.{OfferNumbers, count_numbers, offer_numbers, offer_refused, offer_call}
use Rattle.buffer_offer.proofs.CallLaws.{offer_read, offer_reads}
use Rattle.buffer_offer.proofs.CopyLaws.{rows_allowed}

-- an outcome whose numbers are those of a refusal is that refusal
pub refused_words : (o : Outcome) (f : Fault) → refused_numbers f ≡ outcome_numbers o → outcome_words o ≡ []
unfolding outcome_numbers outcome_words
refused_words (refused q) f e = refl
refused_words (read_as h rs request) f e = let z : number f.refusal ≡ 0 = ap (λ (n : Numbers). n.refusal) e in absurd (omega (arith, number_positive f.refusal))

-- its numbers as those of an offer
abbrev refused_as : Numbers → OfferNumbers
refused_as n = record { refusal = n.refusal; offset = n.offset; late = 0; far = 0; repeated = 0; better = 0; no_room = 0; inserted = 0 }

pub refused_offer_lem : (b : Buffer) (packet rows store : List ℕ) (o : Outcome) (f : Fault) → refused_numbers f ≡ outcome_numbers o
    → offer_refused f b rows store ≡ offer_read b packet rows store o
unfolding outcome_numbers
refused_offer_lem b packet rows store (refused q) f e = ap (λ (n : Numbers). record { answer = refused_as n; buffer = b; rows = rows; store = store }) e
refused_offer_lem b packet rows store (read_as h rs request) f e =
    let z : number f.refusal ≡ 0 = ap (λ (n : Numbers). n.refusal) e in absurd (omega (arith, number_positive f.refusal))

-- an outcome whose numbers are those of rows is rows
pub record IsRead (o : Outcome) (n : ℕ) : Type 0 where
  pub head : Header
  pub rows : List Row
  pub request : ℕ
  pub same : o ≡ read_as head rows request
  pub count : n ≡ length rows

pub is_read : (o : Outcome) (p : Packet) → reading_numbers (Ok p) ≡ outcome_numbers o → IsRead o p.rows
unfolding outcome_numbers
is_read (refused q) p e = let z : 0 ≡ number q.refusal = ap (λ (n : Numbers). n.refusal) e in absurd (omega (arith, number_positive q.refusal))
is_read (read_as h rs request) p e = record { head = h; rows = rs; request = request; same = refl; count = ap (λ (n : Numbers). n.rows) e }

-- the rows of an offer judged, from none judged
pub rows_offer : (b b' : Buffer) (packet : List ℕ) (rs : List Row) (t : Tally) (store store' : List ℕ) → RowsJudged b b' packet rs no_tally t store store'
    → OfferJudged b b' packet rs (Ok t) store store'
rows_offer b b' packet rs t store store' j = record { answer = ap count_numbers j.counts; buffer = j.buffer; store_left = j.store_left }

-- the tags of rows that were read hold all of their parts
tags_fit : (format ch n : ℕ) (rs : List Row) → ch ≤ 255 → AllRows (RowFine format ch n) rs → TagsFit rs
tags_fit format ch n [] few f = tt
tags_fit format ch n (r ∷ rs) few f = (
  record {
    mark = f.0.mark;
    class = omega (arith, (code_small format r.class r.length f.0.coded).classes);
    channel = omega (arith, f.0.channel);
  },
  tags_fit format ch n rs few f.1,
)

module _ (ed : Edition) (b : Buffer) (packet rows store : List ℕ) (h : in_range ed b.settings ≡ true) (w : well_formed b ≡ true) (area : row_area ed ≤ length rows) (room : store_size ≤ length store)
    (p : Packet) (e : reading_numbers (Ok p) ≡ outcome_numbers (reading ed b.settings (length rows) packet))
    (rows' : List ℕ) (q : rows' ≡ over (outcome_words (reading ed b.settings (length rows) packet)) rows) where
  abbrev is : IsRead (reading ed b.settings (length rows) packet) p.rows
  is = is_read (reading ed b.settings (length rows) packet) p e

  abbrev rs : List Row
  rs = is.rows

  fine : AllRows (RowFine b.settings.format b.settings.channels (length packet)) rs × (length rs ≤ max_rows ed)
  fine = rows_fine ed b.settings (length rows) packet is.head rs is.request is.same

  pub words_fit : row_width * p.rows ≤ length rows
  words_fit = omega (arith, fine.1, is.count)

  rows_are : rows' ≡ over (words rs) rows
  unfolding outcome_words
  rows_are = q ∙ ap (λ (o : Outcome). over (outcome_words o) rows) is.same

  pub rows_back : rows_in (take (row_width * p.rows) rows') ≡ rs
  unfolding over
  rows_back =
      let n : row_width * p.rows ≡ length (words rs) = omega (arith, is.count, length_words rs) in
      ap₂ (λ (k : ℕ) (x : List ℕ). rows_in (take k x)) n rows_are
      ∙ ap rows_in (take-append_seam (words rs) (drop (length (words rs)) rows))
      ∙ rows_words rs (tags_fit b.settings.format b.settings.channels (length packet) rs (few_channels ed b.settings h) fine.0)

  pub offer_asks : Machine b → RowsJudgeable ed b packet (rows_in (take (row_width * p.rows) rows')) no_tally store
  offer_asks m =
      subst (λ (l : List Row). RowsJudgeable ed b packet l no_tally store) (sym rows_back) (record {
        machine = m;
        settings = h;
        fine = w;
        rows = rows_allowed b.settings (few_channels ed b.settings h) packet rs fine.0;
        small = omega (arith, fine.1);
        room = room;
      })

  pub offer_gives : (a : Result Tally Fault) (b' : Buffer) (store' : List ℕ) → OfferJudged b b' packet (rows_in (take (row_width * p.rows) rows')) a store store'
      → record { answer = offer_numbers a; buffer = b'; rows = rows'; store = store' } ≡ offer_call ed b packet rows store
  offer_gives a b' store' j =
      let g : judge_all (decode b) store (received_in packet (rows_in (take (row_width * p.rows) rows'))) ≡ judge_all (decode b) store (received_in packet rs) =
      ap (λ (l : List Row). judge_all (decode b) store (received_in packet l)) rows_back in
      let c : offer_numbers a ≡ count_numbers (tally no_counts (judge_all (decode b) store (received_in packet rs)).judgements) =
      j.answer ∙ ap (λ (x : Gathered). count_numbers (tally no_counts x.judgements)) g in
      let u : b' ≡ encode b.settings (judge_all (decode b) store (received_in packet rs)).held = j.buffer ∙ ap (λ (x : Gathered). encode b.settings x.held) g in
      let s : store' ≡ (judge_all (decode b) store (received_in packet rs)).store = j.store_left ∙ ap (λ (x : Gathered). x.store) g in
      let z : record { answer = offer_numbers a; buffer = b'; rows = rows'; store = store' } ≡ offer_read b packet rows store (read_as is.head rs is.request) =
      λ i. record { answer = c i; buffer = u i; rows = rows_are i; store = s i } in
      z ∙ sym (offer_reads ed b packet rows store h w area room ∙ ap (offer_read b packet rows store) is.same)
