use mathlib.Core.Path.{ap, ◌∙◌}
use Rattle.read_headers.specs.Redundancy.{headers, redundancy_headers, headers_read_numbers, headers_numbers}
use Rattle.read_headers.proofs.NumberLaws.{answer_numbers}
use borrow.Author.Tests.{le-ltb, lt-ltb}
use Rattle.read_headers.proofs.redundancy.read_headers.Goals as goal

pub returns-then-s-gt-MAX_PACKET : goal.returns-then-s-gt-MAX_PACKET
unfolding redundancy_headers headers_numbers
returns-then-s-gt-MAX_PACKET c =
    rw c.from.ensures (simp (lt-ltb _ _ c.if-s-gt-MAX_PACKET.true))

pub returns : goal.returns
unfolding redundancy_headers
returns c =
    rw (le-ltb _ _ c.if-s-gt-MAX_PACKET.false) (ap headers_read_numbers c.headers_from.ensures ∙ answer_numbers (headers _))
