use lib.ListN.{length}
use mathlib.Core.Path.{sym, ◌∙◌}
use native.Mathlib.Omega.{arith}
use Rattle.rtp.specs.Editions.{current}
use Rattle.read_redundancy.proofs.AnswerLaws.{gives_numbers, gives_none, gives_same}
use Rattle.read_redundancy.proofs.AskedLaws.{redundant_out, redundant_short, redundant_long, redundant_in}
use Rattle.read_redundancy.proofs.blocks.read_redundant.Goals as goal

pub returns-then-rows-lt-ROW_AREA : goal.returns-then-rows-lt-ROW_AREA
returns-then-rows-lt-ROW_AREA c =
    let a = c.args in rw c.from-then-rows-lt-ROW_AREA.ensures (gives_numbers _ a.rows.now _ _ (gives_none _ a.rows.now _ (redundant_short current a.settings (length a.rows.now) a.timestamp a.at a.s.now (sym c.in_range.ensures ∙ c.if-not-in_range.false) (omega (arith, c.if-rows-lt-ROW_AREA.true)))))

pub returns-then-at-s-gt-MAX_PACKET : goal.returns-then-at-s-gt-MAX_PACKET
returns-then-at-s-gt-MAX_PACKET c =
    let a = c.args in rw c.from-then-at-s-gt-MAX_PACKET.ensures (gives_numbers _ a.rows.now _ _ (gives_none _ a.rows.now _ (redundant_long current a.settings (length a.rows.now) a.timestamp a.at a.s.now (sym c.in_range.ensures ∙ c.if-not-in_range.false) (omega (arith, c.if-rows-lt-ROW_AREA.false)) (omega (arith, c.if-at-s-gt-MAX_PACKET.true)))))

pub read_blocks-requires : goal.read_blocks-requires
read_blocks-requires c =
    (sym c.in_range.ensures ∙ c.if-not-in_range.false, omega (arith, c.if-rows-lt-ROW_AREA.false), omega (arith, c.if-at-s-gt-MAX_PACKET.false))

pub returns : goal.returns
returns c =
    let a = c.args in
    gives_numbers _ a.rows.now _ _ (gives_same _ a.rows.now _ _ _ (sym (redundant_in current a.settings (length a.rows.now) a.timestamp a.at a.s.now (sym c.in_range.ensures ∙ c.if-not-in_range.false) (omega (arith, c.if-rows-lt-ROW_AREA.false)) (omega (arith, c.if-at-s-gt-MAX_PACKET.false)))) c.read_blocks.ensures)

pub returns-then-not-in_range : goal.returns-then-not-in_range
returns-then-not-in_range c =
    let a = c.args in rw c.from.ensures (gives_numbers _ a.rows.now _ _ (gives_none _ a.rows.now _ (redundant_out current a.settings (length a.rows.now) a.timestamp a.at a.s.now (sym c.in_range.ensures ∙ c.if-not-in_range.true))))
