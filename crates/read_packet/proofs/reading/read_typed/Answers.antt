use lib.ListN.{length}
use native.Mathlib.Omega.{arith}
use Rattle.rtp.specs.Editions.{current}
use Rattle.read_headers.proofs.HeaderLaws.{within}
use Rattle.read_redundancy.proofs.AnswerLaws.{gives_read, gives_none, gives_same}
use Rattle.read_packet.proofs.ReadingLaws.{typed_plain, typed_redundant, typed_other}
use Rattle.read_packet.proofs.reading.read_typed.Goals as goal

pub overflow_cast-place : goal.overflow_cast-place
overflow_cast-place c =
    omega (arith, within _ _ c.requires.2)

pub slice_bounds-read_payload-count : goal.slice_bounds-read_payload-count
slice_bounds-read_payload-count c =
    omega (arith, within _ _ c.requires.2)

pub slice_bounds-read_payload-start : goal.slice_bounds-read_payload-start
slice_bounds-read_payload-start c =
    omega (arith, within _ _ c.requires.2)

pub slice_bounds-read_payload-end : goal.slice_bounds-read_payload-end
slice_bounds-read_payload-end c =
    omega (arith, within _ _ c.requires.2)

pub returns-then-head-settings : goal.returns-then-head-settings
returns-then-head-settings c =
    let a = c.args in
    gives_same _ a.rows.now _ _ _ (typed_plain current a.settings a.head a.packet.now c.requires.0 (length a.rows.now) c.requires.1 c.requires.2 c.if-head-settings.true) (gives_read _ _ _ _ c.read_payload.ensures)

pub slice_bounds-read_redundant-count : goal.slice_bounds-read_redundant-count
slice_bounds-read_redundant-count c =
    omega (arith, within _ _ c.requires.2)

pub slice_bounds-read_redundant-start : goal.slice_bounds-read_redundant-start
slice_bounds-read_redundant-start c =
    omega (arith, within _ _ c.requires.2)

pub slice_bounds-read_redundant-end : goal.slice_bounds-read_redundant-end
slice_bounds-read_redundant-end c =
    omega (arith, within _ _ c.requires.2)

pub returns-then-head-settings-2 : goal.returns-then-head-settings-2
returns-then-head-settings-2 c =
    let a = c.args in
    gives_same _ a.rows.now _ _ _ (typed_redundant current a.settings a.head a.packet.now c.if-head-settings.false c.requires.0 (length a.rows.now) c.requires.1 c.requires.2 c.if-head-settings-2.true) (gives_read _ _ _ _ c.read_redundant.ensures)

pub returns : goal.returns
returns c =
    let a = c.args in rw c.from.ensures (gives_none _ a.rows.now _ (typed_other current a.settings a.head a.packet.now c.if-head-settings.false c.if-head-settings-2.false))
