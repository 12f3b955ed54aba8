-- Answers with the same numbers are the same.
use mathlib.Core.Path.{◌≡◌, refl, ap}
use Rattle.std.specs.Prelude.{None, Option, Some}
use Rattle.formats.specs.declared.frames.Frame.{Frame}
use Prim.Native.Nat.{ℕ}
use native.Mathlib.Omega.{arith}
use Rattle.formats.specs.Frames.{CodedNumbers, coded_numbers}

pub same_coded : (a b : Option Frame) → coded_numbers a ≡ coded_numbers b → a ≡ b
same_coded None None e = refl
same_coded None (Some f) e = let z : ◌≡◌ {A = ℕ} 7 0 = ap (λ (n : CodedNumbers). n.refusal) e in absurd (omega arith)
same_coded (Some f) None e = let z : ◌≡◌ {A = ℕ} 0 7 = ap (λ (n : CodedNumbers). n.refusal) e in absurd (omega arith)
same_coded (Some f) (Some g) e = ap (λ (n : CodedNumbers). Some (record { class = n.class; length = n.length })) e
