use Rattle.rtp.specs.Editions.{current}
use Rattle.std.specs.Prelude.{Err, Ok, Result}
use Rattle.read_contents.specs.declared.entries.Sizes.{Sizes}
use Rattle.rtp.proofs.ErrorLaws.{err_is, told_ok, told_err}
use Rattle.rtp.proofs.AreaLaws.{part_to_end}
use lib.ListN.{length, take, drop, length-drop}
use mathlib.Core.Path.{◌≡◌, sym, ◌∙◌, ap, subst}
use mathlib.Core.List.{List}
use native.Mathlib.Omega.{arith}
use Prim.Native.Nat.{ℕ, ◌+◌, ◌-◌, ◌<◌, ◌≤◌, ◌^◌}
use Rattle.rtp.specs.Areas.{over}
use Rattle.rtp.specs.declared.refusal.Fault.{Fault}
use Rattle.formats.specs.Formats.{format_of}
use Rattle.formats.specs.declared.facts.Format.{Format}
use Rattle.read_contents.specs.Contents.{contents, pass_first, sizes_answer}
use Rattle.read_contents.proofs.ContentsLaws.{Within}
use Rattle.read_contents.proofs.NumberLaws.{contents_is}
use Rattle.read_rows.specs.Tables.{exact, fitting, fitting_words}
use Rattle.read_rows.proofs.FittingLaws.{fitting_in}
use Rattle.read_payload.specs.Payloads.{body, Rows, no_rows, payload_rows, rows_answer, payload_numbers, rows_numbers, rows_words, asked_rows}
use Rattle.read_payload.proofs.PayloadLaws.{pay_headless, put_words, put_within, put_refused, put_rows, asked_out, asked_short, asked_long, asked_in, answer_none, words_none}
use Rattle.read_payload.proofs.NumberLaws.{rows_has}
use Rattle.read_payload.proofs.reading.read_payload.Goals.{After-put_table, Else-at-s-gt-MAX_PACKET, Else-s-header}
use Rattle.read_payload.proofs.reading.read_payload.Goals as goal

both_none : (x : Rows) (r : Fault) (l : List ℕ) → x ≡ no_rows r → (payload_numbers (Err r) ≡ rows_numbers x) × (l ≡ over (rows_words x) l)
both_none x r l h = (rows_has _ x (answer_none x r h), words_none x r l h)

-- the settings are in range, there is room, and the payload lies in a packet
asked-at : (c : Else-at-s-gt-MAX_PACKET) → let a = c.args in asked_rows current a.mark a.asked a.done (length a.area.now) a.time a.at a.s.now ≡ payload_rows current a.mark a.asked.format a.asked.channels a.done a.time a.at a.s.now
asked-at c =
    let a = c.args in asked_in current a.mark a.asked a.done (length a.area.now) a.time a.at a.s.now (sym c.in_range.ensures ∙ c.if-not-in_range.false) (omega (arith, c.if-done-area-lt-ROW_AREA.false)) (omega (arith, c.if-at-s-gt-MAX_PACKET.false))

length_at : (c : Else-s-header) → let a = c.args in c.format_of-header.result.header + length (body a.asked.format a.s.now) ≡ length a.s.now
length_at c =
    let a = c.args in rw (length-drop, sym c.format_of-header.ensures) (omega (arith, c.if-s-header.false))

header_at : (c : Else-s-header) → c.format_of-header.result.header ≡ (format_of c.args.asked.format).header
header_at c =
    ap (λ (f : Format). f.header) c.format_of-header.ensures

there-at : (c : Else-s-header) → let a = c.args in (format_of a.asked.format).header ≤ length a.s.now
there-at c =
    let header_at : c.format_of-header.result.header ≡ (format_of c.args.asked.format).header = ap (λ (f : Format). f.header) c.format_of-header.ensures in
    omega (arith, header_at, c.if-s-header.false)

-- the table and the frames, and whether they fit
body_at : (c : After-put_table) → let a = c.args in let n = c.format_of-header.result.header in take (length a.s.now - n) (drop n a.s.now) ≡ body a.asked.format a.s.now
body_at c =
    let a = c.args in part_to_end c.format_of-header.result.header a.s.now ∙ ap (λ (f : Format). drop f.header a.s.now) c.format_of-header.ensures

fits-at : (c : After-put_table) → c.format_of-header.result.header + length (body c.args.asked.format c.args.s.now) ≡ length c.args.s.now → let a = c.args in let n = c.format_of-header.result.header in
    fitting current a.asked.format a.asked.channels a.done (length a.area.now) (a.at + n) (take (length a.s.now - n) (drop n a.s.now))
    ≡ exact a.asked.format a.asked.channels (length (body a.asked.format a.s.now)) (pass_first (contents current a.asked.format a.asked.channels a.done (body a.asked.format a.s.now)))
fits-at c l =
    let a = c.args in
    let n = c.format_of-header.result.header in
    ap (fitting current a.asked.format a.asked.channels a.done (length a.area.now) (a.at + n)) (body_at c)
    ∙ fitting_in current a.asked.format a.asked.channels a.done (length a.area.now) (a.at + n) (body a.asked.format a.s.now) (omega (arith, c.if-done-area-lt-ROW_AREA.false)) (omega (arith, l, c.if-at-s-gt-MAX_PACKET.false))

-- what putting them answered
answer_at : (c : After-put_table) → c.format_of-header.result.header + length (body c.args.asked.format c.args.s.now) ≡ length c.args.s.now → let a = c.args in
    c.put_table.result ≡ sizes_answer a.asked.format a.asked.channels (exact a.asked.format a.asked.channels (length (body a.asked.format a.s.now)) (pass_first (contents current a.asked.format a.asked.channels a.done (body a.asked.format a.s.now))))
answer_at c l =
    let a = c.args in contents_is _ _ _ _ c.put_table.ensures.0 ∙ ap (sizes_answer a.asked.format a.asked.channels) (fits-at c l)

words-at : (c : After-put_table) → c.format_of-header.result.header + length (body c.args.asked.format c.args.s.now) ≡ length c.args.s.now → let a = c.args in
    asked_rows current a.mark a.asked a.done (length a.area.now) a.time a.at a.s.now ≡ payload_rows current a.mark a.asked.format a.asked.channels a.done a.time a.at a.s.now
    → c.put_table.new.area ≡ over (rows_words (asked_rows current a.mark a.asked a.done (length a.area.now) a.time a.at a.s.now)) a.area.now
words-at c l asked =
    let a = c.args in
    let n = c.format_of-header.result.header in
    c.put_table.ensures.1 ∙ ap (λ (w : List ℕ). over w a.area.now)
    (ap (fitting_words a.mark a.asked.format a.asked.channels a.time (a.at + n)) (fits-at c l)
    ∙ ap (λ (k : Format). fitting_words a.mark a.asked.format a.asked.channels a.time (a.at + k.header) (exact a.asked.format a.asked.channels (length (body a.asked.format a.s.now)) (pass_first (contents current a.asked.format a.asked.channels a.done (body a.asked.format a.s.now))))) c.format_of-header.ensures
    ∙ put_words current a.mark a.asked.format a.asked.channels a.done a.time a.at a.s.now
    ∙ sym (ap rows_words asked))

-- a fault lies in what follows the header, and the rows are few
within-at : (c : After-put_table) → c.format_of-header.result.header + length (body c.args.asked.format c.args.s.now) ≡ length c.args.s.now → (r : Result Sizes Fault) → c.put_table.result ≡ r → let a = c.args in Within current a.done (length (body a.asked.format a.s.now)) r
within-at c l r h =
    let a = c.args in
    subst (λ (r : Result Sizes Fault). Within current a.done (length (body a.asked.format a.s.now)) r) (sym (answer_at c l) ∙ h)
    (put_within current a.mark a.asked.format a.asked.channels a.done a.time a.at a.s.now)

near_at : (c : After-put_table) → c.format_of-header.result.header + length (body c.args.asked.format c.args.s.now) ≡ length c.args.s.now → (f : Fault) → c.put_table.result ≡ Err f → c.args.at + c.format_of-header.result.header + f.offset < 2 ^ 64
near_at c l f h =
    omega (arith, within-at c l (Err f) h, l, c.if-at-s-gt-MAX_PACKET.false)

pub returns-then-not-in_range : goal.returns-then-not-in_range
returns-then-not-in_range c =
    let a = c.args in rw c.from.ensures (both_none _ _ a.area.now (asked_out current a.mark a.asked a.done (length a.area.now) a.time a.at a.s.now (sym c.in_range.ensures ∙ c.if-not-in_range.true)))

pub returns-then-done-area-lt-ROW_AREA : goal.returns-then-done-area-lt-ROW_AREA
returns-then-done-area-lt-ROW_AREA c =
    let a = c.args in rw c.from-then-done-area-lt-ROW_AREA.ensures (both_none _ _ a.area.now (asked_short current a.mark a.asked a.done (length a.area.now) a.time a.at a.s.now (sym c.in_range.ensures ∙ c.if-not-in_range.false) (omega (arith, c.if-done-area-lt-ROW_AREA.true))))

pub returns-then-at-s-gt-MAX_PACKET : goal.returns-then-at-s-gt-MAX_PACKET
returns-then-at-s-gt-MAX_PACKET c =
    let a = c.args in rw c.from-then-at-s-gt-MAX_PACKET.ensures (both_none _ _ a.area.now (asked_long current a.mark a.asked a.done (length a.area.now) a.time a.at a.s.now (sym c.in_range.ensures ∙ c.if-not-in_range.false) (omega (arith, c.if-done-area-lt-ROW_AREA.false)) (omega (arith, c.if-at-s-gt-MAX_PACKET.true))))

pub returns-then-s-header : goal.returns-then-s-header
returns-then-s-header c =
    let a = c.args in both_none _ _ a.area.now (asked-at (goal.at.returns-then-s-header c).Else-at-s-gt-MAX_PACKET ∙ pay_headless current a.mark a.asked.format a.asked.channels a.done a.time a.at a.s.now (rw (sym c.format_of-header.ensures) c.if-s-header.true))

pub overflow_cast-result-2 : goal.overflow_cast-result-2
overflow_cast-result-2 c =
    let p = goal.at.overflow_cast-result-2 c in
    let l = length_at p.Else-s-header in
    omega (arith, (within-at p.After-put_table l (Ok c.in_ok-sizes.sizes) (told_ok _ _ _ _ c.shifted.ensures (near_at p.After-put_table l) c.in_ok-sizes.was)).few)

pub returns-in_err-sizes : goal.returns-in_err-sizes
returns-in_err-sizes c =
    let a = c.args in
    let p = goal.at.returns-in_err-sizes c in
    let l = length_at p.Else-s-header in
    let asked = asked-at p.Else-at-s-gt-MAX_PACKET in
    let m = told_err _ _ _ _ c.shifted.ensures (near_at p.After-put_table l) c.in_err-sizes.was in
    rw (err_is _ _ c.from_residual.ensures.1 ∙ ap Err m.2)
    (rows_has _ _ (answer_none _ _ (asked ∙ put_refused current a.mark a.asked.format a.asked.channels a.done a.time a.at a.s.now _ _ (there-at p.Else-s-header) (omega (arith, header_at p.Else-s-header)) (sym (answer_at p.After-put_table l) ∙ m.1))), words-at p.After-put_table l asked)

pub returns : goal.returns
returns c =
    let a = c.args in
    let p = goal.at.returns c in
    let l = length_at p.Else-s-header in
    let asked = asked-at p.Else-at-s-gt-MAX_PACKET in
    let t = told_ok _ _ _ _ c.shifted.ensures (near_at p.After-put_table l) c.in_ok-sizes.was in
    (rows_has _ _ (sym (ap rows_answer asked ∙ put_rows current a.mark a.asked.format a.asked.channels a.done a.time a.at a.s.now _ (sym (answer_at p.After-put_table l) ∙ t))), words-at p.After-put_table l asked)
