use Rattle.read_headers.specs.Header.{payload_end}
use borrow.Author.Tests.{le-ltb, lt-ltb, eq-eqb, ne_eqb}
use Rattle.read_headers.proofs.header.payload_end.Goals as goal

pub returns-then-first-eq0 : goal.returns-then-first-eq0
unfolding payload_end
returns-then-first-eq0 c =
    simp (← c.wide-first.ensures.0, eq-eqb _ _ c.if-first-eq0.true)

pub returns-then-count-eq0 : goal.returns-then-count-eq0
unfolding payload_end
returns-then-count-eq0 c =
    simp (← c.wide-first.ensures.0, ne_eqb _ _ c.if-first-eq0.false, ← c.wide-count.ensures.0, eq-eqb _ _ c.if-count-eq0.true)

pub returns-then-length-start : goal.returns-then-length-start
unfolding payload_end
returns-then-length-start c =
    simp (← c.wide-first.ensures.0, ne_eqb _ _ c.if-first-eq0.false, ← c.wide-count.ensures.0, ne_eqb _ _ c.if-count-eq0.false, lt-ltb _ _ c.if-length-start.true)

pub returns : goal.returns
unfolding payload_end
returns c =
    simp (← c.wide-first.ensures.0, ne_eqb _ _ c.if-first-eq0.false, ← c.wide-count.ensures.0, ne_eqb _ _ c.if-count-eq0.false, le-ltb _ _ c.if-length-start.false)
