use mathlib.Core.Path.{sym, ◌∙◌, ap}
use Rattle.formats.specs.declared.facts.Format.{Format}
use Rattle.read_mode_request.proofs.RequestLaws.{request_plain, request_redundant, request_unknown, request_headless}
use Rattle.read_mode_request.proofs.requests.mode_request.Goals as goal

pub returns-then-format_of-eq0 : goal.returns-then-format_of-eq0
returns-then-format_of-eq0 c =
    let a = c.args in
    sym (request_headless a.settings (ap (λ (f : Format). f.header) (sym c.format_of.ensures) ∙ c.if-format_of-eq0.true) a.packet_type a.s.now)

pub returns-then-packet_type-settings : goal.returns-then-packet_type-settings
returns-then-packet_type-settings c =
    let a = c.args in c.mode_request.ensures ∙ sym (request_plain a.settings a.packet_type a.s.now c.if-packet_type-settings.true)

pub returns-then-packet_type-settings-2 : goal.returns-then-packet_type-settings-2
returns-then-packet_type-settings-2 c =
    let a = c.args in c.redundant_request.ensures ∙ sym (request_redundant a.settings a.packet_type a.s.now c.if-packet_type-settings.false c.if-packet_type-settings-2.true)

pub returns : goal.returns
returns c =
    let a = c.args in sym (request_unknown a.settings a.packet_type a.s.now c.if-packet_type-settings.false c.if-packet_type-settings-2.false)
