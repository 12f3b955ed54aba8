use borrow.Author.Tests.{lt-ltb, le-ltb, eq-eqb, ne_eqb, lt-leb, le-leb, ltb-true, ltb-false}
use lib.Dec.{ltb}
use Rattle.rtp.specs.Editions.{current}
use Rattle.rtp.specs.Sizes.{max_rows}
use Rattle.rtp.proofs.TestLaws.{by-test}
use Rattle.write_parts.proofs.sizes.counts_fit.Goals as goal

pub returns-then-counts-eq0 : goal.returns-then-counts-eq0
returns-then-counts-eq0 c =
    rw (eq-eqb _ _ c.if-counts-eq0.true)

pub returns-then-counts : goal.returns-then-counts
returns-then-counts c =
    rw (ne_eqb _ _ c.if-counts-eq0.false, lt-ltb _ _ c.if-counts.true)

pub returns-then-rows-total : goal.returns-then-rows-total
returns-then-rows-total c =
    simp (← c.total_of-total.ensures.0, ne_eqb _ _ c.if-counts-eq0.false, le-ltb _ _ c.if-counts.false, eq-eqb _ _ c.if-rows-total.true)
    (by-test (ltb (max_rows current) c.total_of-total.result)
    (λ a. rw (a, lt-leb _ _ (ltb-true (max_rows current) c.total_of-total.result a)))
    (λ a. rw (a, le-leb _ _ (ltb-false (max_rows current) c.total_of-total.result a))))

pub returns-else-rows-total : goal.returns-else-rows-total
returns-else-rows-total c =
    simp (← c.total_of-total.ensures.0, ne_eqb _ _ c.if-counts-eq0.false, le-ltb _ _ c.if-counts.false, ne_eqb _ _ c.if-rows-total.false)
