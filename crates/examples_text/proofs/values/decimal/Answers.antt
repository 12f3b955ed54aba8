use mathlib.Core.Path.{◌≡◌, sym, ap, ◌∙◌}
use Prim.Native.Nat.{ℕ, ◌+◌, ◌*◌, ◌<◌}
use native.Mathlib.Omega.{arith}
use Rattle.std.specs.Char.{digit_value}
use lib.ListN.{get_or, drop}
use Rattle.examples_text.specs.Values.{with_digits}
use Rattle.examples_text.proofs.ValueLaws.{with_end, with_stop, with_other, with_long, with_long_ten, with_next}
use Rattle.examples_text.proofs.values.decimal.Goals as goal

pub returns-then-byte-le-SPACE : goal.returns-then-byte-le-SPACE
returns-then-byte-le-SPACE c =
    sym (with_stop 0 c.args.word.now 0 (omega (arith, c.byte.ensures, c.if-byte-le-SPACE.true)))

pub returns-then-byte-le-SPACE-2 : goal.returns-then-byte-le-SPACE-2
returns-then-byte-le-SPACE-2 c =
    let l = c.loop-byte in
    sym (l.invariant ∙ with_stop l.value c.args.word.now l.byte-index (omega arith))

pub returns-in_err-checked_mul : goal.returns-in_err-checked_mul
returns-in_err-checked_mul c =
    let l = c.loop-byte in
    rw c.from_residual.ensures (sym (l.invariant ∙ with_long l.value c.args.word.now l.byte-index (omega arith) (omega arith) (omega (arith, c.in_err-checked_mul.ensures))))

pub returns-in_err-to_digit : goal.returns-in_err-to_digit
returns-in_err-to_digit c =
    let l = c.loop-byte in
    let s = c.args.word.now in
    let none : digit_value (get_or s l.byte-index 0) < 10 → ⊥ = rw c.from.ensures at c.in_err-to_digit.ensures.value in
    rw c.from_residual-in_err-to_digit.ensures (sym (l.invariant ∙ with_other l.value s l.byte-index (omega arith) (omega arith) none))

pub returns-in_err-value : goal.returns-in_err-value
returns-in_err-value c =
    let l = c.loop-byte in
    let s = c.args.word.now in
    let d = c.in_ok-to_digit.field-0 in
    let is = rw c.from.ensures at c.in_ok-to_digit.ensures.value in
    rw c.from_residual-in_err-value.ensures
    (sym (l.invariant ∙ with_long_ten l.value s l.byte-index d (omega arith) (omega arith) is.0 is.1 (omega (arith, c.in_err-value.ensures, c.in_ok-checked_mul.ensures))))

pub loop-byte-preserved : goal.loop-byte-preserved
loop-byte-preserved c =
    let l = c.loop-byte in
    let s = c.args.word.now in
    let d = c.in_ok-to_digit.field-0 in
    let is = rw c.from.ensures at c.in_ok-to_digit.ensures.value in
    let sum : c.in_ok-value.value ≡ 10 * l.value + d = omega (arith, c.in_ok-value.ensures, c.in_ok-checked_mul.ensures) in
    l.invariant
    ∙ with_next l.value s l.byte-index d (omega arith) (omega arith) is.0 is.1 (omega (arith, c.in_ok-value.ensures, c.in_ok-checked_mul.ensures))
    ∙ ap (λ (v : ℕ). with_digits v (drop (l.byte-index + 1) s)) (sym sum)

pub returns : goal.returns
returns c =
    let l = c.loop-byte in
    sym (l.invariant ∙ with_end l.value c.args.word.now l.byte-index (omega arith))
