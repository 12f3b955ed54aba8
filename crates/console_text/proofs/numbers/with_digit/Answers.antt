use borrow.Author.Tests.{lt-ltb, le-ltb}
use Rattle.console_text.specs.Numbers.{with_digit}
use Rattle.console_text.proofs.numbers.with_digit.Goals as goal

pub returns-in_err-value : goal.returns-in_err-value
unfolding with_digit
returns-in_err-value c =
    simp (c.in_err-value.was, c.from_residual.ensures)

pub returns-then-digit-lt48 : goal.returns-then-digit-lt48
unfolding with_digit
returns-then-digit-lt48 c =
    simp (c.in_ok-value.was, lt-ltb _ _ c.if-digit-lt48.true)

pub returns-then-digit-gt57 : goal.returns-then-digit-gt57
unfolding with_digit
returns-then-digit-gt57 c =
    simp (c.in_ok-value.was, le-ltb _ _ c.if-digit-lt48.false, lt-ltb _ _ c.if-digit-gt57.true)

pub returns-then-longer-gt-GREATEST : goal.returns-then-longer-gt-GREATEST
unfolding with_digit
returns-then-longer-gt-GREATEST c =
    simp (c.in_ok-value.was, le-ltb _ _ c.if-digit-lt48.false, le-ltb _ _ c.if-digit-gt57.false, lt-ltb _ _ c.if-longer-gt-GREATEST.true)

pub returns : goal.returns
unfolding with_digit
returns c =
    simp (c.in_ok-value.was, le-ltb _ _ c.if-digit-lt48.false, le-ltb _ _ c.if-digit-gt57.false, le-ltb _ _ c.if-longer-gt-GREATEST.false)
