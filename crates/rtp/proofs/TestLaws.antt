-- Laws of tests.
use Rattle.std.proofs.Common.{◌≡◌, Bool, true, false, cond, refl, ap, ◌∙◌}

-- both ways of a test
pub by-test {ℓ} : {P : Type ℓ} (b : Bool) → (b ≡ true → P) → (b ≡ false → P) → P
by-test true f g = f refl
by-test false f g = g refl

-- a test has one outcome
pub not-both {ℓ} : {P : Type ℓ} (b : Bool) → b ≡ true → b ≡ false → P
not-both b p q = let z : ◌≡◌ {A = Bool} true false = cc in absurd (false_is_not_true z)
  where
    Is : Bool → Type 0
    Is true = Unit {0}
    Is false = ⊥

    false_is_not_true : ◌≡◌ {A = Bool} true false → ⊥
    false_is_not_true z = mathlib.Core.Path.subst Is z tt

-- a test and then another
pub both : (a b : Bool) → cond a b false ≡ true → (a ≡ true) × (b ≡ true)
both true b h = (refl, h)
both false b h = not-both false h refl

pub and_then : (a b : Bool) → a ≡ true → b ≡ true → cond a b false ≡ true
and_then a b p q = ap (λ (x : Bool). cond x b false) p ∙ q

-- a test that must fail, and then another
pub either : (a b : Bool) → cond a false b ≡ true → (a ≡ false) × (b ≡ true)
either true b h = not-both false h refl
either false b h = (refl, h)

pub neither : (t b : Bool) → cond t true b ≡ false → (t ≡ false) × (b ≡ false)
neither true b h = not-both true refl h
neither false b h = (refl, h)
