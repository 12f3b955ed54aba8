use mathlib.Core.Path.{◌∙◌}
use borrow.Author.Tests.{lt-ltb, le-ltb, lt-leb}
use Rattle.write_sizes.specs.Asking.{max_request, askable}
use Rattle.write_sizes.proofs.asking.in_range.Goals as goal

pub returns-then-mode_request-le-MAX_REQUEST : goal.returns-then-mode_request-le-MAX_REQUEST
unfolding askable
returns-then-mode_request-le-MAX_REQUEST c =
    c.in_range.ensures ∙ rw (le-ltb max_request c.args.mode_request c.if-mode_request-le-MAX_REQUEST.true)

pub returns-else-mode_request-le-MAX_REQUEST : goal.returns-else-mode_request-le-MAX_REQUEST
unfolding askable
returns-else-mode_request-le-MAX_REQUEST c =
    rw (lt-ltb max_request c.args.mode_request c.if-mode_request-le-MAX_REQUEST.false, lt-leb c.args.mode_request max_request c.if-mode_request-le-MAX_REQUEST.false)
