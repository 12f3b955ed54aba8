use mathlib.Core.Path.{◌∙◌}
use borrow.Author.Tests.{le-leb, lt-leb}
use Rattle.frame_codes.proofs.CodeLaws.{is_length, length_is}
use Rattle.frame_codes.proofs.coding.is_length.Goals as goal

pub returns-then-n-ge80 : goal.returns-then-n-ge80
unfolding is_length
returns-then-n-ge80 c =
    (simp (le-leb _ _ c.if-n-le220.true, le-leb _ _ c.if-n-ge80.true)) ∙ length_is _

pub returns-else-n-ge80 : goal.returns-else-n-ge80
unfolding is_length
returns-else-n-ge80 c =
    (simp (le-leb _ _ c.if-n-le220.true, lt-leb _ _ c.if-n-ge80.false)) ∙ length_is _

pub returns-then-n-le-LONGEST : goal.returns-then-n-le-LONGEST
unfolding is_length
returns-then-n-le-LONGEST c =
    (simp (lt-leb _ _ c.if-n-le220.false, le-leb _ _ c.if-n-le-LONGEST.true)) ∙ length_is _

pub returns-else-n-le-LONGEST : goal.returns-else-n-le-LONGEST
unfolding is_length
returns-else-n-le-LONGEST c =
    (simp (lt-leb _ _ c.if-n-le220.false, lt-leb _ _ c.if-n-le-LONGEST.false)) ∙ length_is _
