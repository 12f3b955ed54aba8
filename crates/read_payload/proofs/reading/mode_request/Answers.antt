use Prim.Native.Nat.{ℕ, ◌/◌}
use mathlib.Core.Path.{sym, ◌∙◌, ap}
use Rattle.formats.specs.declared.facts.Format.{Format}
use Rattle.read_payload.proofs.PayloadLaws.{request_none, request_some, no_byte}
use Rattle.read_payload.proofs.reading.mode_request.Goals as goal

pub returns-then-format_of-eq0 : goal.returns-then-format_of-eq0
returns-then-format_of-eq0 c =
    let a = c.args in
    sym (request_none a.format a.s.now (ap (λ (f : Format). f.header) (sym c.format_of.ensures) ∙ c.if-format_of-eq0.true))

pub returns-then-s-eq0 : goal.returns-then-s-eq0
returns-then-s-eq0 c =
    let a = c.args in
    sym (request_some a.format a.s.now (λ e. c.if-format_of-eq0.false (ap (λ (f : Format). f.header) c.format_of.ensures ∙ e))
    ∙ ap (λ (b : ℕ). b / 16) (no_byte a.s.now c.if-s-eq0.true))

pub returns : goal.returns
returns c =
    let a = c.args in
    sym (request_some a.format a.s.now (λ e. c.if-format_of-eq0.false (ap (λ (f : Format). f.header) c.format_of.ensures ∙ e)))
