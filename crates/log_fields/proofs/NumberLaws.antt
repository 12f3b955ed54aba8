-- Fields with the same numbers are the same.
use mathlib.Core.Path.{◌≡◌, refl, ap}
use Prim.Native.Nat.{ℕ}
use native.Mathlib.Omega.{arith}
use Rattle.log_fields.specs.declared.fields.Field.{Field}
use Rattle.log_fields.specs.Fields.{FieldNumbers, field_numbers}

pub same_field : (a b : Field) → field_numbers a ≡ field_numbers b → a ≡ b
same_field Field.Stopped Field.Stopped e = refl
same_field Field.Stopped (Field.Cut u) e = let z : ◌≡◌ {A = ℕ} 0 1 = ap (λ (n : FieldNumbers). n.there) e in absurd (omega (arith, z))
same_field Field.Stopped (Field.Whole k) e = let z : ◌≡◌ {A = ℕ} 0 2 = ap (λ (n : FieldNumbers). n.there) e in absurd (omega (arith, z))
same_field (Field.Cut t) Field.Stopped e = let z : ◌≡◌ {A = ℕ} 1 0 = ap (λ (n : FieldNumbers). n.there) e in absurd (omega (arith, z))
same_field (Field.Cut t) (Field.Cut u) e = ap (λ (n : FieldNumbers). Field.Cut n.tag) e
same_field (Field.Cut t) (Field.Whole k) e = let z : ◌≡◌ {A = ℕ} 1 2 = ap (λ (n : FieldNumbers). n.there) e in absurd (omega (arith, z))
same_field (Field.Whole h) Field.Stopped e = let z : ◌≡◌ {A = ℕ} 2 0 = ap (λ (n : FieldNumbers). n.there) e in absurd (omega (arith, z))
same_field (Field.Whole h) (Field.Cut u) e = let z : ◌≡◌ {A = ℕ} 2 1 = ap (λ (n : FieldNumbers). n.there) e in absurd (omega (arith, z))
same_field (Field.Whole h) (Field.Whole k) e = ap (λ (n : FieldNumbers). Field.Whole (record { tag = n.tag; length = n.length })) e
