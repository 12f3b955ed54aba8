use lib.ListN.{length}
use Rattle.std.specs.Prelude.{Ok}
use mathlib.Core.Bool.{true}
use mathlib.Core.Path.{◌≡◌, ap, sym, ◌∙◌}
use Prim.Native.Nat.{ℕ}
use native.Mathlib.Omega.{arith}
use Rattle.rtp.specs.Editions.{current}
use Rattle.rtp.proofs.ErrorLaws.{err_is}
use Rattle.read_headers.proofs.HeaderLaws.{within}
use Rattle.rtp.specs.Ranges.{in_range}
use Rattle.read_headers.specs.Header.{header}
use Rattle.read_mode_request.specs.Requests.{typed_request}
use Rattle.read_packet.specs.Readings.{payload_in, typed_rows, outcome_of, reading}
use Rattle.read_packet.proofs.ReadingLaws.{reading_out, reading_short, reading_refused, reading_headed, comes_refused, comes_typed}
use Rattle.read_headers.proofs.NumberLaws.{same_header}
use Rattle.read_packet.proofs.reading.read.Goals.{In_ok-head, Else-not-in_range}
use Rattle.read_packet.proofs.reading.read.Goals as goal

range_at : (c : Else-not-in_range) → in_range current c.args.settings ≡ true
range_at c =
    sym c.in_range.ensures ∙ c.if-not-in_range.false

-- the header that was read
head_at : (c : In_ok-head) → header c.args.packet.now ≡ Ok c.in_ok-head.head
head_at c =
    sym (same_header _ _ c.read_header.ensures) ∙ c.in_ok-head.was

whole-at : (c : In_ok-head) → let a = c.args in let h = c.in_ok-head.head in
    reading current a.settings (length a.rows.now) a.packet.now ≡ outcome_of h (typed_request a.settings h.payload_type (payload_in a.packet.now h)) (typed_rows current a.settings h (payload_in a.packet.now h))
whole-at c =
    let a = c.args in reading_headed current a.settings (length a.rows.now) a.packet.now (sym c.in_range.ensures ∙ c.if-not-in_range.false) c.if-rows-lt-ROW_AREA.false _ (head_at c)

pub returns-then-not-in_range : goal.returns-then-not-in_range
returns-then-not-in_range c =
    let a = c.args in rw c.from.ensures (comes_refused _ a.rows.now _ (reading_out current a.settings (length a.rows.now) a.packet.now (sym c.in_range.ensures ∙ c.if-not-in_range.true)))

pub returns-then-rows-lt-ROW_AREA : goal.returns-then-rows-lt-ROW_AREA
returns-then-rows-lt-ROW_AREA c =
    let a = c.args in rw c.from-then-rows-lt-ROW_AREA.ensures (comes_refused _ a.rows.now _ (reading_short current a.settings (length a.rows.now) a.packet.now (range_at (goal.at.returns-then-rows-lt-ROW_AREA c).Else-not-in_range) c.if-rows-lt-ROW_AREA.true))

pub read_typed-requires : goal.read_typed-requires
read_typed-requires c =
    let p = goal.at.read_typed-requires c in (range_at p.Else-not-in_range, c.if-rows-lt-ROW_AREA.false, head_at p.In_ok-head)

pub slice_bounds-mode_request-count : goal.slice_bounds-mode_request-count
slice_bounds-mode_request-count c =
    omega (arith, within _ _ (head_at (goal.at.slice_bounds-mode_request-count c).In_ok-head))

pub slice_bounds-mode_request-start : goal.slice_bounds-mode_request-start
slice_bounds-mode_request-start c =
    omega (arith, within _ _ (head_at (goal.at.slice_bounds-mode_request-start c).In_ok-head))

pub slice_bounds-mode_request-end : goal.slice_bounds-mode_request-end
slice_bounds-mode_request-end c =
    omega (arith, within _ _ (head_at (goal.at.slice_bounds-mode_request-end c).In_ok-head))

pub returns-in_err-head : goal.returns-in_err-head
returns-in_err-head c =
    let a = c.args in rw (err_is _ _ c.from_residual.ensures.1) (comes_refused _ a.rows.now _ (reading_refused current a.settings (length a.rows.now) a.packet.now (range_at (goal.at.returns-in_err-head c).Else-not-in_range) c.if-rows-lt-ROW_AREA.false _ (sym (same_header _ _ c.read_header.ensures) ∙ c.in_err-head.was)))

pub returns-in_err-count : goal.returns-in_err-count
returns-in_err-count c =
    let a = c.args in rw (err_is _ _ c.from_residual-in_err-count.ensures.1) (comes_typed _ _ _ _ a.rows.now _ _ _ (whole-at (goal.at.returns-in_err-count c).In_ok-head) c.read_typed.ensures c.in_err-count.was)

pub returns : goal.returns
returns c =
    let a = c.args in
    let h = c.in_ok-head.head in
    comes_typed h c.mode_request.result _ _ a.rows.now _ _ _
    (whole-at (goal.at.returns c).In_ok-head ∙ ap (λ (request : ℕ). outcome_of h request (typed_rows current a.settings h (payload_in a.packet.now h))) (sym c.mode_request.ensures))
    c.read_typed.ensures c.in_ok-count.was
