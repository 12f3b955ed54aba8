use Rattle.std.proofs.Common.{◌≡◌, drop}
use Rattle.console_text.specs.Numbers.{with_digits, number_of}
use Rattle.console_text.proofs.numbers.parse.Given as goal

abbrev pub invariant-loop-digit : goal.invariant-loop-digit
invariant-loop-digit l = number_of l.text ≡ with_digits l.value (drop l.digit-index l.text)
