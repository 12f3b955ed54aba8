use Rattle.rtp.specs.Editions.{current}
use Rattle.row_tags.specs.Tags.{redundant_mark}
use mathlib.Core.Path.{ap, sym, ◌∙◌}
use Rattle.rtp.specs.Sizes.{row_area}
use Rattle.read_payload.specs.Payloads.{rows_answer}
use Rattle.read_redundancy.proofs.AnswerLaws.{gives_empty}
use Rattle.read_redundancy.proofs.BlockLaws.{asked_other, asked_empty, asked_some}
use Rattle.read_payload.proofs.NumberLaws.{rows_is}
use Rattle.read_redundancy.proofs.blocks.check_block.Goals as goal

pub returns-then-s-eq0 : goal.returns-then-s-eq0
returns-then-s-eq0 c =
    let a = c.args in (gives_empty a.s.now _ (asked_empty current redundant_mark a.settings a.done (row_area current) 0 a.block_type 0 0 a.s.now c.if-block_type-settings.true c.if-s-eq0.true)).0

pub returns-then-block_type-settings : goal.returns-then-block_type-settings
returns-then-block_type-settings c =
    let a = c.args in rows_is _ _ c.check_payload.ensures ∙ sym (ap rows_answer (asked_some current redundant_mark a.settings a.done (row_area current) 0 a.block_type 0 0 a.s.now c.if-block_type-settings.true c.if-s-eq0.false))

pub returns : goal.returns
returns c =
    let a = c.args in (gives_empty a.s.now _ (asked_other current redundant_mark a.settings a.done (row_area current) 0 a.block_type 0 0 a.s.now c.if-block_type-settings.false)).0
