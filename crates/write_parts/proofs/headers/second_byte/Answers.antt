use native.Mathlib.Omega.{arith}
use borrow.Author.Tests.{eq-eqb, ne_eqb}
use Rattle.write_parts.proofs.headers.second_byte.Goals as goal

pub returns-then-marker-eq0 : goal.returns-then-marker-eq0
returns-then-marker-eq0 c =
    simp (eq-eqb _ _ c.if-marker-eq0.true) (omega arith)

pub returns-else-marker-eq0 : goal.returns-else-marker-eq0
returns-else-marker-eq0 c =
    simp (ne_eqb _ _ c.if-marker-eq0.false)
