use mathlib.Core.Path.{◌≡◌}
use Prim.Native.Nat.{ℕ, ◌+◌, ◌-◌}
use native.Mathlib.Omega.{arith}
use borrow.Author.Tests.{lt-ltb, le-ltb}
use Rattle.log_reader.proofs.readers.part_at.Goals as goal

cancels : (a b : ℕ) → a + b - a ≡ b
cancels a b = omega arith

pub returns-then-s-start : goal.returns-then-s-start
returns-then-s-start c =
    simp (lt-ltb _ _ c.if-s-start.true)

pub returns-then-s-start-2 : goal.returns-then-s-start-2
returns-then-s-start-2 c =
    simp (le-ltb _ _ c.if-s-start.false, lt-ltb _ _ c.if-s-start-2.true)

pub returns : goal.returns
returns c =
    simp (cancels, le-ltb _ _ c.if-s-start.false, le-ltb _ _ c.if-s-start-2.false)
