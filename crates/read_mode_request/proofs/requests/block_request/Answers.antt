use mathlib.Core.Path.{sym, ◌∙◌}
use Rattle.read_mode_request.proofs.RequestLaws.{request_other, request_empty, request_block}
use Rattle.read_mode_request.proofs.requests.block_request.Goals as goal

pub returns-then-s-eq0 : goal.returns-then-s-eq0
returns-then-s-eq0 c =
    let a = c.args in sym (request_empty a.settings a.found a.block_type a.s.now c.if-block_type-settings.true c.if-s-eq0.true)

pub returns-then-block_type-settings : goal.returns-then-block_type-settings
returns-then-block_type-settings c =
    let a = c.args in c.mode_request.ensures ∙ sym (request_block a.settings a.found a.block_type a.s.now c.if-block_type-settings.true c.if-s-eq0.false)

pub returns : goal.returns
returns c =
    let a = c.args in sym (request_other a.settings a.found a.block_type a.s.now c.if-block_type-settings.false)
