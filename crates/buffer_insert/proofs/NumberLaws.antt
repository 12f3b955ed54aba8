-- Verdicts with the same number are the same.
use mathlib.Core.Path.{◌≡◌, refl, ap, sym, ◌∙◌}
use mathlib.Core.Bool.{cond}
use Prim.Native.Nat.{ℕ}
use lib.Dec.{eqb}
use Rattle.buffer_copies.specs.declared.verdict.Verdict.{Verdict}
use Rattle.buffer_copies.specs.declared.verdict.Verdict.TheVariants.{Late, Far, Repeated, Better, NoRoom, Inserted}
use Rattle.buffer_insert.specs.Laying.{verdict_number}

abbrev verdict_of : ℕ → Verdict
verdict_of n = cond (eqb n 1) Late (cond (eqb n 2) Far (cond (eqb n 3) Repeated (cond (eqb n 4) Better (cond (eqb n 5) NoRoom Inserted))))

pub same_verdict : (a b : Verdict) → verdict_number a ≡ verdict_number b → a ≡ b
same_verdict a b e = back a ∙ ap verdict_of e ∙ sym (back b)
  where
    back : (v : Verdict) → v ≡ verdict_of (verdict_number v)
    back Late = refl
    back Far = refl
    back Repeated = refl
    back Better = refl
    back NoRoom = refl
    back Inserted = refl
