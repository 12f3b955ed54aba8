use mathlib.Core.Path.{◌≡◌, ap, sym, ◌∙◌}
use Prim.Native.Nat.{ℕ}
use lib.ListN.{length}
use Rattle.rtp.specs.Editions.{current}
use Rattle.read_payload.specs.Payloads.{asked_rows}
use Rattle.read_redundancy.specs.Room.{asked_block}
use Rattle.read_redundancy.proofs.AnswerLaws.{gives_read, gives_empty, gives_same}
use Rattle.read_redundancy.proofs.BlockLaws.{asked_other, asked_empty, asked_some}
use Rattle.read_redundancy.proofs.blocks.put_block.Goals.{After-read_payload}
use Rattle.read_redundancy.proofs.blocks.put_block.Goals as goal

-- the rows of the call
rows_at : (c : After-read_payload) → let a = c.args in
    asked_rows current a.header.mark a.settings a.place.done (length a.rows.now) c.difference.result a.place.at a.s.now
    ≡ asked_block current a.header.mark a.settings a.place.done (length a.rows.now) a.place.time a.header.payload_type a.header.offset a.place.at a.s.now
rows_at c =
    let a = c.args in
    ap (λ (t : ℕ). asked_rows current a.header.mark a.settings a.place.done (length a.rows.now) t a.place.at a.s.now) c.difference.ensures
    ∙ sym (asked_some current a.header.mark a.settings a.place.done (length a.rows.now) a.place.time a.header.payload_type a.header.offset a.place.at a.s.now c.if-header-settings.true c.if-s-eq0.false)

pub returns-then-s-eq0 : goal.returns-then-s-eq0
returns-then-s-eq0 c =
    let a = c.args in gives_empty a.rows.now _ (asked_empty current a.header.mark a.settings a.place.done (length a.rows.now) a.place.time a.header.payload_type a.header.offset a.place.at a.s.now c.if-header-settings.true c.if-s-eq0.true)

pub returns-then-header-settings : goal.returns-then-header-settings
returns-then-header-settings c =
    gives_same _ c.args.rows.now _ _ _ (rows_at (goal.at.returns-then-header-settings c).After-read_payload) (gives_read _ _ _ _ c.read_payload.ensures)

pub returns : goal.returns
returns c =
    let a = c.args in gives_empty a.rows.now _ (asked_other current a.header.mark a.settings a.place.done (length a.rows.now) a.place.time a.header.payload_type a.header.offset a.place.at a.s.now c.if-header-settings.false)
