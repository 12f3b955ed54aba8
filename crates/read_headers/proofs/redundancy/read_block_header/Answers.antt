use Rattle.read_headers.specs.Redundancy.{block_header}
use borrow.Author.Tests.{le-ltb, lt-ltb, eq-eqb, ne_eqb}
use Rattle.read_headers.proofs.redundancy.read_block_header.Goals as goal

pub returns-then-s-eq0 : goal.returns-then-s-eq0
unfolding block_header
returns-then-s-eq0 c =
    simp (eq-eqb _ _ c.if-s-eq0.true)

pub returns-then-first-lt128 : goal.returns-then-first-lt128
unfolding block_header
returns-then-first-lt128 c =
    simp (ne_eqb _ _ c.if-s-eq0.false, lt-ltb _ _ c.if-first-lt128.true)

pub returns-then-s-lt4 : goal.returns-then-s-lt4
unfolding block_header
returns-then-s-lt4 c =
    simp (ne_eqb _ _ c.if-s-eq0.false, le-ltb _ _ c.if-first-lt128.false, lt-ltb _ _ c.if-s-lt4.true)

pub returns : goal.returns
unfolding block_header
returns c =
    rw (ne_eqb _ _ c.if-s-eq0.false, le-ltb _ _ c.if-first-lt128.false, le-ltb _ _ c.if-s-lt4.false, ← c.wide-second.ensures.0, ← c.wide-third.ensures.0, ← c.wide-fourth.ensures.0)
