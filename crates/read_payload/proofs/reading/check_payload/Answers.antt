use Rattle.rtp.specs.Editions.{current}
use Rattle.std.specs.Prelude.{Err, Ok}
use Rattle.rtp.proofs.ErrorLaws.{err_is, told_ok, told_err}
use Rattle.read_contents.specs.declared.entries.Sizes.{Sizes}
use Rattle.rtp.specs.declared.refusal.Fault.{Fault}
use Rattle.rtp.proofs.AreaLaws.{part_to_end}
use lib.ListN.{length, take, drop, length-drop}
use mathlib.Core.Path.{◌≡◌, sym, ◌∙◌, ap}
use Prim.Native.Nat.{◌+◌, ◌-◌, ◌<◌, ◌≤◌, ◌^◌}
use native.Mathlib.Omega.{arith}
use Rattle.rtp.specs.Sizes.{row_area}
use Rattle.row_tags.specs.Tags.{redundant_mark}
use Rattle.formats.specs.Formats.{format_of}
use Rattle.formats.specs.declared.facts.Format.{Format}
use Rattle.read_payload.specs.Payloads.{body, payload_rows, rows_answer, asked_rows}
use Rattle.read_contents.specs.Contents.{contents, sizes_answer}
use Rattle.read_contents.proofs.ContentsLaws.{Small}
use Rattle.read_payload.proofs.PayloadLaws.{pay_refused, pay_headless, pay_part, pay_rows, pay_place, pay_small, asked_out, asked_long, asked_in, answer_none}
use Rattle.read_contents.proofs.NumberLaws.{contents_is}
use Rattle.read_payload.proofs.NumberLaws.{rows_has}
use Rattle.read_payload.proofs.reading.check_payload.Goals.{After-shifted, Else-s-gt-MAX_PACKET, Else-s-header}
use Rattle.read_payload.proofs.reading.check_payload.Goals as goal

-- the settings are in range, and the payload is no longer than a packet
asked-at : (c : Else-s-gt-MAX_PACKET) → let a = c.args in asked_rows current redundant_mark a.asked a.done (row_area current) 0 0 a.s.now ≡ payload_rows current redundant_mark a.asked.format a.asked.channels a.done 0 0 a.s.now
asked-at c =
    let a = c.args in asked_in current redundant_mark a.asked a.done (row_area current) 0 0 a.s.now (sym c.in_range.ensures ∙ c.if-not-in_range.false) (omega arith) (omega (arith, c.if-s-gt-MAX_PACKET.false))

length_at : (c : Else-s-header) → let a = c.args in c.format_of-header.result.header + length (body a.asked.format a.s.now) ≡ length a.s.now
length_at c =
    let a = c.args in rw (length-drop, sym c.format_of-header.ensures) (omega (arith, c.if-s-header.false))

header_at : (c : Else-s-header) → c.format_of-header.result.header ≡ (format_of c.args.asked.format).header
header_at c =
    ap (λ (f : Format). f.header) c.format_of-header.ensures

there-at : (c : Else-s-header) → let a = c.args in (format_of a.asked.format).header ≤ length a.s.now
there-at c =
    let header_at : c.format_of-header.result.header ≡ (format_of c.args.asked.format).header = ap (λ (f : Format). f.header) c.format_of-header.ensures in
    omega (arith, header_at, c.if-s-header.false)

-- what reading the table answered
answer_at : (c : After-shifted) → let a = c.args in c.read_contents.result ≡ sizes_answer a.asked.format a.asked.channels (contents current a.asked.format a.asked.channels a.done (body a.asked.format a.s.now))
answer_at c =
    let a = c.args in
    let n = c.format_of-header.result.header in
    let b : take (length a.s.now - n) (drop n a.s.now) ≡ body a.asked.format a.s.now = part_to_end n a.s.now ∙ ap (λ (f : Format). drop f.header a.s.now) c.format_of-header.ensures in
    contents_is _ _ _ _ (rw b at c.read_contents.ensures)

near_at : (c : After-shifted) → c.format_of-header.result.header + length (body c.args.asked.format c.args.s.now) ≡ length c.args.s.now → (f : Fault) → c.read_contents.result ≡ Err f → c.format_of-header.result.header + f.offset < 2 ^ 64
near_at c l f h =
    let a = c.args in
    omega (arith, pay_place current redundant_mark a.asked.format a.asked.channels a.done 0 0 a.s.now _ (sym (answer_at c) ∙ h), l, c.well_formed)

table_at : (c : After-shifted) → c.format_of-header.result.header + length (body c.args.asked.format c.args.s.now) ≡ length c.args.s.now → (r : Sizes) → c.shifted.result ≡ Ok r → let a = c.args in sizes_answer a.asked.format a.asked.channels (contents current a.asked.format a.asked.channels a.done (body a.asked.format a.s.now)) ≡ Ok r
table_at c l r h =
    sym (answer_at c) ∙ told_ok _ _ _ _ c.shifted.ensures (near_at c l) h

small_at : (c : After-shifted) → c.format_of-header.result.header + length (body c.args.asked.format c.args.s.now) ≡ length c.args.s.now → (r : Sizes) → c.shifted.result ≡ Ok r → let a = c.args in Small current a.done (length (body a.asked.format a.s.now)) r
small_at c l r h =
    let a = c.args in pay_small current redundant_mark a.asked.format a.asked.channels a.done 0 0 a.s.now r (table_at c l r h)

pub returns-then-not-in_range : goal.returns-then-not-in_range
returns-then-not-in_range c =
    let a = c.args in rw c.from.ensures (rows_has _ _ (answer_none _ _ (asked_out current redundant_mark a.asked a.done (row_area current) 0 0 a.s.now (sym c.in_range.ensures ∙ c.if-not-in_range.true))))

pub returns-then-s-gt-MAX_PACKET : goal.returns-then-s-gt-MAX_PACKET
returns-then-s-gt-MAX_PACKET c =
    let a = c.args in rw c.from-then-s-gt-MAX_PACKET.ensures (rows_has _ _ (answer_none _ _ (asked_long current redundant_mark a.asked a.done (row_area current) 0 0 a.s.now (sym c.in_range.ensures ∙ c.if-not-in_range.false) (omega arith) (omega (arith, c.if-s-gt-MAX_PACKET.true)))))

pub returns-then-s-header : goal.returns-then-s-header
returns-then-s-header c =
    let a = c.args in rw c.from-then-s-header.ensures (rows_has _ _ (answer_none _ _ (asked-at (goal.at.returns-then-s-header c).Else-s-gt-MAX_PACKET ∙ pay_headless current redundant_mark a.asked.format a.asked.channels a.done 0 0 a.s.now (rw (sym c.format_of-header.ensures) c.if-s-header.true))))

pub overflow_add-header : goal.overflow_add-header
overflow_add-header c =
    let p = goal.at.overflow_add-header c in
    let l = length_at p.Else-s-header in
    omega (arith, small_at p.After-shifted l _ c.in_ok-sizes.was, l, c.well_formed)

pub overflow_add-header-2 : goal.overflow_add-header-2
overflow_add-header-2 c =
    let p = goal.at.overflow_add-header-2 c in
    let l = length_at p.Else-s-header in
    omega (arith, small_at p.After-shifted l _ c.in_ok-sizes.was, l, c.well_formed)

pub overflow_add-result : goal.overflow_add-result
overflow_add-result c =
    let p = goal.at.overflow_add-result c in
    let l = length_at p.Else-s-header in
    omega (arith, small_at p.After-shifted l _ c.in_ok-sizes.was, l, c.well_formed)

pub overflow_cast-result : goal.overflow_cast-result
overflow_cast-result c =
    let p = goal.at.overflow_cast-result c in
    omega (arith, (small_at p.After-shifted (length_at p.Else-s-header) _ c.in_ok-sizes.was).few)

pub returns-in_err-sizes : goal.returns-in_err-sizes
returns-in_err-sizes c =
    let a = c.args in
    let p = goal.at.returns-in_err-sizes c in
    let m = told_err _ _ _ _ c.shifted.ensures (near_at p.After-shifted (length_at p.Else-s-header)) c.in_err-sizes.was in
    rw (err_is _ _ c.from_residual.ensures.1 ∙ ap Err m.2)
    (rows_has _ _ (answer_none _ _ (asked-at p.Else-s-gt-MAX_PACKET ∙ pay_refused current redundant_mark a.asked.format a.asked.channels a.done 0 0 a.s.now _ _ (there-at p.Else-s-header) (omega (arith, header_at p.Else-s-header)) (sym (answer_at p.After-shifted) ∙ m.1))))

pub returns-then-header-sizes : goal.returns-then-header-sizes
returns-then-header-sizes c =
    let a = c.args in
    let p = goal.at.returns-then-header-sizes c in
    let l = length_at p.Else-s-header in
    rows_has _ _ (answer_none _ _ (asked-at p.Else-s-gt-MAX_PACKET ∙ pay_part current redundant_mark a.asked.format a.asked.channels a.done 0 0 a.s.now _ (table_at p.After-shifted l _ c.in_ok-sizes.was) _ (there-at p.Else-s-header) (omega (arith, header_at p.Else-s-header)) (λ e. c.if-header-sizes.true (omega (arith, l, e)))))

pub returns : goal.returns
returns c =
    let a = c.args in
    let p = goal.at.returns c in
    let l = length_at p.Else-s-header in
    rows_has _ _ (sym (ap rows_answer (asked-at p.Else-s-gt-MAX_PACKET) ∙ pay_rows current redundant_mark a.asked.format a.asked.channels a.done 0 0 a.s.now _ (table_at p.After-shifted l _ c.in_ok-sizes.was) (omega (arith, l, c.if-header-sizes.false))))
