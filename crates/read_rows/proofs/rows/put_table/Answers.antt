use Rattle.std.proofs.Common.{◌≡◌, ◌+◌, ◌*◌, ◌≤◌, length, sym, ◌∙◌, arith}
use Rattle.std.specs.Prelude.{Err, Ok}
use Rattle.rtp.specs.Editions.{current}
use Rattle.rtp.specs.Sizes.{max_packet, row_width, row_area}
use Rattle.rtp.proofs.ErrorLaws.{err_is}
use Rattle.read_contents.specs.Contents.{contents, sizes_answer}
use Rattle.read_contents.proofs.ContentsLaws.{Small}
use Rattle.read_contents.proofs.NumberLaws.{contents_is}
use Rattle.read_rows.proofs.FittingLaws.{gives_none, fitting_short, fitting_long, fitting_refused, fitting_part, fitting_small, fitting_room, gives_rows}
use Rattle.read_rows.proofs.rows.put_table.Goals.{Else-at-s-gt-MAX_PACKET, In_ok-sizes}
use Rattle.read_rows.proofs.rows.put_table.Goals as goal

-- the area has room, and the bytes lie in a packet
area_at : (c : Else-at-s-gt-MAX_PACKET) → let a = c.args in row_area current ≤ row_width * a.done + length a.area.now
area_at c =
    omega (arith, c.if-done-area-lt-ROW_AREA.false)

inside-at : (c : Else-at-s-gt-MAX_PACKET) → let a = c.args in a.at + length a.s.now ≤ max_packet
inside-at c =
    omega (arith, c.if-at-s-gt-MAX_PACKET.false)

-- what reading the table answered
table_at : (c : In_ok-sizes) → let a = c.args in sizes_answer a.format a.channels (contents current a.format a.channels a.done a.s.now) ≡ Ok c.in_ok-sizes.sizes
table_at c =
    sym (contents_is _ _ _ _ c.read_contents.ensures) ∙ c.in_ok-sizes.was

small_at : (c : In_ok-sizes) → let a = c.args in Small current a.done (length a.s.now) c.in_ok-sizes.sizes
small_at c =
    let a = c.args in fitting_small current a.format a.channels a.done (length a.area.now) a.at a.s.now (omega (arith, c.if-done-area-lt-ROW_AREA.false)) (omega (arith, c.if-at-s-gt-MAX_PACKET.false)) _ (table_at c)

pub returns-then-done-area-lt-ROW_AREA : goal.returns-then-done-area-lt-ROW_AREA
returns-then-done-area-lt-ROW_AREA c =
    let a = c.args in rw c.from.ensures (gives_none _ _ _ _ _ _ a.area.now _ (fitting_short current a.format a.channels a.done (length a.area.now) a.at a.s.now (omega (arith, c.if-done-area-lt-ROW_AREA.true))))

pub returns-then-at-s-gt-MAX_PACKET : goal.returns-then-at-s-gt-MAX_PACKET
returns-then-at-s-gt-MAX_PACKET c =
    let a = c.args in rw c.from-then-at-s-gt-MAX_PACKET.ensures (gives_none _ _ _ _ _ _ a.area.now _ (fitting_long current a.format a.channels a.done (length a.area.now) a.at a.s.now (omega (arith, c.if-done-area-lt-ROW_AREA.false)) (omega (arith, c.if-at-s-gt-MAX_PACKET.true))))

pub overflow_add-sizes : goal.overflow_add-sizes
overflow_add-sizes c =
    omega (arith, small_at (goal.at.overflow_add-sizes c).In_ok-sizes, c.well_formed)

pub put_contents-requires : goal.put_contents-requires
put_contents-requires c =
    let a = c.args in fitting_room current a.format a.channels a.done (length a.area.now) a.at a.s.now (area_at (goal.at.put_contents-requires c).Else-at-s-gt-MAX_PACKET) (inside-at (goal.at.put_contents-requires c).Else-at-s-gt-MAX_PACKET) _ (table_at (goal.at.put_contents-requires c).In_ok-sizes) (omega (arith, c.if-sizes-s.false)) (omega (arith, c.ranges.channels))

pub returns : goal.returns
returns c =
    let a = c.args in gives_rows current a.format a.channels a.done (length a.area.now) a.at a.s.now (area_at (goal.at.returns c).Else-at-s-gt-MAX_PACKET) (inside-at (goal.at.returns c).Else-at-s-gt-MAX_PACKET) _ (table_at (goal.at.returns c).In_ok-sizes) (omega (arith, c.if-sizes-s.false)) a.mark a.time _ a.area.now _ c.ranges.time.fits c.origin.ensures c.put_contents.ensures

pub returns-in_err-sizes : goal.returns-in_err-sizes
returns-in_err-sizes c =
    let a = c.args in
    let e : sizes_answer a.format a.channels (contents current a.format a.channels a.done a.s.now) ≡ Err c.in_err-sizes.field-0.0 =
    sym (contents_is _ _ _ _ c.read_contents.ensures) ∙ c.in_err-sizes.was in
    let p = goal.at.returns-in_err-sizes c in
    rw (err_is _ _ c.from_residual.ensures.1)
    (gives_none _ _ _ _ _ _ a.area.now _ (fitting_refused current a.format a.channels a.done (length a.area.now) a.at a.s.now (area_at p.Else-at-s-gt-MAX_PACKET) (inside-at p.Else-at-s-gt-MAX_PACKET) _ e))

pub returns-then-sizes-s : goal.returns-then-sizes-s
returns-then-sizes-s c =
    let a = c.args in gives_none _ _ _ _ _ _ a.area.now _ (fitting_part current a.format a.channels a.done (length a.area.now) a.at a.s.now (area_at (goal.at.returns-then-sizes-s c).Else-at-s-gt-MAX_PACKET) (inside-at (goal.at.returns-then-sizes-s c).Else-at-s-gt-MAX_PACKET) _ (table_at (goal.at.returns-then-sizes-s c).In_ok-sizes) (λ e. c.if-sizes-s.true (omega (arith, e))))
