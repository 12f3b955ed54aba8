use Rattle.std.proofs.Common.{ℕ, suc, Option, drop, refl, ap, sym, ◌∙◌, add-one, arith}
use Rattle.console_text.specs.Numbers.{with_digits, number_of, parsed}
use Rattle.console_text.proofs.NumberLaws.{with_next, with_none}
use Rattle.console_text.proofs.numbers.parse.Goals as goal

pub returns-then-is_empty : goal.returns-then-is_empty
unfolding number_of
returns-then-is_empty c = rw (sym c.if-is_empty.ensures) refl

pub loop-digit-init : goal.loop-digit-init
unfolding number_of
loop-digit-init c = rw (sym c.if-is_empty.ensures) refl

pub loop-digit-preserved : goal.loop-digit-preserved
loop-digit-preserved c =
    let s = c.args.text.now in
    let v = c.loop-digit.value in
    let i = c.loop-digit.digit-index in
    c.loop-digit.invariant
    ∙ with_next v s i (omega arith)
    ∙ ap (λ (n : Option ℕ). with_digits n (drop (suc i) s)) (sym c.with_digit-value.ensures)
    ∙ ap (λ (k : ℕ). with_digits c.with_digit-value.result (drop k s)) (sym (add-one i))

pub returns : goal.returns
returns c =
    let v = c.loop-digit in
    ap parsed (sym (v.invariant ∙ with_none v.value c.args.text.now v.digit-index (omega arith)))
