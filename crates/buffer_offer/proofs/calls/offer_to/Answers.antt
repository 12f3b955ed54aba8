use Rattle.rtp.specs.Editions.{current}
use Rattle.rtp.specs.Ranges.{in_range}
use Rattle.std.specs.Prelude.{Err, Ok}
use mathlib.Core.Path.{◌≡◌, sym, ◌∙◌, ap}
use mathlib.Core.List.{List}
use mathlib.Core.Bool.{true}
use Prim.Native.Nat.{ℕ, ◌*◌, ◌≤◌}
use native.Mathlib.Omega.{arith}
use lib.ListN.{length}
use lib.Seq.{length-take-le}
use Rattle.rtp.specs.Sizes.{row_width}
use Rattle.rtp.specs.Areas.{over}
use Rattle.rtp.specs.declared.refusal.Fault.{Fault}
use Rattle.rtp.proofs.AreaLaws.{over_none}
use Rattle.read_packet.specs.Readings.{reading, reading_numbers, outcome_numbers}
use Rattle.buffer_layout.specs.WellFormed.{well_formed}
use Rattle.buffer_offer.specs.Calls.{offer_refused}
use Rattle.buffer_offer.proofs.CallLaws.{offer_out, offer_malformed, offer_rows, offer_store, offer_reads}
use Rattle.buffer_offer.proofs.OfferLaws.{refused_words, refused_offer_lem, words_fit, offer_asks, offer_gives, rows_offer}
use Rattle.buffer_offer.proofs.calls.offer_to.Goals.{Else-not-in_range, Else-not-is_well_formed, In-Ok, then-rows-lt-ROW_AREA-via-then-rows-lt-ROW_AREA, then-rows-lt-ROW_AREA-via-else-rows-lt-ROW_AREA+then-store-lt-STORE_SIZE}
use Rattle.buffer_offer.proofs.calls.offer_to.Goals as goal

range_at : (c : Else-not-in_range) → in_range current c.args.buffer.now.settings ≡ true
range_at c =
    sym c.in_range.ensures ∙ c.if-not-in_range.false

fine_at : (c : Else-not-is_well_formed) → well_formed c.args.buffer.now ≡ true
fine_at c =
    sym c.is_well_formed.ensures ∙ c.if-not-is_well_formed.false

-- what was read
read_at : (c : In-Ok) → reading_numbers (Ok c.in-Ok.head) ≡ outcome_numbers (reading current c.args.buffer.now.settings (length c.args.rows.now) c.args.packet.now)
read_at c =
    ap reading_numbers (sym c.in-Ok.is) ∙ c.read.ensures.0

fit_at : (c : In-Ok) → row_width * c.in-Ok.head.rows ≤ length c.args.rows.now
fit_at c =
    let range_at : in_range current c.args.buffer.now.settings ≡ true = sym c.in_range.ensures ∙ c.if-not-in_range.false in
    let fine_at : well_formed c.args.buffer.now ≡ true = sym c.is_well_formed.ensures ∙ c.if-not-is_well_formed.false in
    let read_at : reading_numbers (Ok c.in-Ok.head) ≡ outcome_numbers (reading current c.args.buffer.now.settings (length c.args.rows.now) c.args.packet.now) = ap reading_numbers (sym c.in-Ok.is) ∙ c.read.ensures.0 in
    let a = c.args in
    words_fit current a.buffer.now a.packet.now a.rows.now a.store.now range_at fine_at c.if-rows-lt-ROW_AREA.false c.if-store-lt-STORE_SIZE.false
    c.in-Ok.head read_at _ c.read.ensures.1

pub returns-then-not-in_range : goal.returns-then-not-in_range
returns-then-not-in_range c =
    let a = c.args in
    ap (λ (f : Fault). offer_refused f a.buffer.now a.rows.now a.store.now) c.from.ensures
    ∙ sym (offer_out current a.buffer.now a.packet.now a.rows.now a.store.now (sym c.in_range.ensures ∙ c.if-not-in_range.true))

pub returns-then-not-is_well_formed : goal.returns-then-not-is_well_formed
returns-then-not-is_well_formed c =
    let a = c.args in
    ap (λ (f : Fault). offer_refused f a.buffer.now a.rows.now a.store.now) c.from-then-not-is_well_formed.ensures
    ∙ sym (offer_malformed current a.buffer.now a.packet.now a.rows.now a.store.now (range_at (goal.at.returns-then-not-is_well_formed c).Else-not-in_range) (sym c.is_well_formed.ensures ∙ c.if-not-is_well_formed.true))

pub returns-then-rows-lt-ROW_AREA : goal.returns-then-rows-lt-ROW_AREA
returns-then-rows-lt-ROW_AREA c =
    let a = c.args in
    let range = range_at (goal.at.returns-then-rows-lt-ROW_AREA c).Else-not-in_range in
    let fine = fine_at (goal.at.returns-then-rows-lt-ROW_AREA c).Else-not-is_well_formed in
    ap (λ (f : Fault). offer_refused f a.buffer.now a.rows.now a.store.now) c.from-then-rows-lt-ROW_AREA.ensures
    ∙ elim c.then-rows-lt-ROW_AREA.branch [
      | then-rows-lt-ROW_AREA-via-then-rows-lt-ROW_AREA w ↦ sym (offer_rows current a.buffer.now a.packet.now a.rows.now a.store.now range fine w.if-rows-lt-ROW_AREA.true)
      | then-rows-lt-ROW_AREA-via-else-rows-lt-ROW_AREA+then-store-lt-STORE_SIZE w ↦
          sym (offer_store current a.buffer.now a.packet.now a.rows.now a.store.now range fine w.if-rows-lt-ROW_AREA.false w.if-store-lt-STORE_SIZE.true)
    ]

pub slice_bounds-judge_rows-end : goal.slice_bounds-judge_rows-end
slice_bounds-judge_rows-end c =
    omega (arith, fit_at (goal.at.slice_bounds-judge_rows-end c).In-Ok)

pub slice_bounds-judge_rows-end-in-Ok : goal.slice_bounds-judge_rows-end-in-Ok
slice_bounds-judge_rows-end-in-Ok c =
    sym (length-take-le (row_width * c.in-Ok.head.rows) c.read.new.rows (omega (arith, fit_at (goal.at.slice_bounds-judge_rows-end-in-Ok c).In-Ok, c.read.auto.rows)))

pub returns-in-Err : goal.returns-in-Err
returns-in-Err c =
    let a = c.args in
    let o = reading current a.buffer.now.settings (length a.rows.now) a.packet.now in
    let e : reading_numbers (Err c.in-Err.fault) ≡ outcome_numbers o = ap reading_numbers (sym c.in-Err.is) ∙ c.read.ensures.0 in
    let z : a.rows.now ≡ c.read.new.rows = sym (c.read.ensures.1 ∙ ap (λ (x : List ℕ). over x a.rows.now) (refused_words o c.in-Err.fault e) ∙ over_none a.rows.now) in
    sym (ap (λ (x : List ℕ). offer_refused c.in-Err.fault a.buffer.now x a.store.now) z)
    ∙ refused_offer_lem a.buffer.now a.packet.now a.rows.now a.store.now o c.in-Err.fault e
    ∙ sym (offer_reads current a.buffer.now a.packet.now a.rows.now a.store.now (range_at (goal.at.returns-in-Err c).Else-not-in_range) (fine_at (goal.at.returns-in-Err c).Else-not-is_well_formed) c.if-rows-lt-ROW_AREA.false c.if-store-lt-STORE_SIZE.false)

pub returns-in-Ok : goal.returns-in-Ok
returns-in-Ok c =
    let a = c.args in
    let range = range_at (goal.at.returns-in-Ok c).Else-not-in_range in
    let fine = fine_at (goal.at.returns-in-Ok c).Else-not-is_well_formed in
    let read = read_at (goal.at.returns-in-Ok c).In-Ok in
    offer_gives current a.buffer.now a.packet.now a.rows.now a.store.now range fine c.if-rows-lt-ROW_AREA.false c.if-store-lt-STORE_SIZE.false
    c.in-Ok.head read _ c.read.ensures.1 _ _ _
    (rows_offer _ _ _ _ _ _ _ (c.judge_rows.ensures (offer_asks current a.buffer.now a.packet.now a.rows.now a.store.now range fine c.if-rows-lt-ROW_AREA.false c.if-store-lt-STORE_SIZE.false
    c.in-Ok.head read _ c.read.ensures.1 c.requires)))
