-- Answers with the same numbers are the same.
use mathlib.Core.Path.{◌≡◌, ap, ap₂}
use Rattle.std.specs.Prelude.{Err, Ok, Result}
use Prim.Native.Nat.{ℕ}
use native.Mathlib.Omega.{arith}
use Rattle.buffer_columns.specs.declared.columns.Search.{Search}
use Rattle.buffer_columns.specs.Places.{PlaceNumbers, place_numbers, SearchNumbers, search_numbers}

pub same_place : (a b : Result ℕ ℕ) → place_numbers a ≡ place_numbers b → a ≡ b
same_place (Ok i) (Ok j) e = ap (λ (n : PlaceNumbers). Ok n.at) e
same_place (Ok i) (Err j) e = let z : ◌≡◌ {A = ℕ} 1 0 = ap (λ (n : PlaceNumbers). n.held) e in absurd (omega (arith, z))
same_place (Err i) (Ok j) e = let z : ◌≡◌ {A = ℕ} 0 1 = ap (λ (n : PlaceNumbers). n.held) e in absurd (omega (arith, z))
same_place (Err i) (Err j) e = ap (λ (n : PlaceNumbers). Err n.at) e

pub same_search : (a b : Search) → search_numbers a ≡ search_numbers b → a ≡ b
same_search a b e =
    ap₂ (λ (p : Result ℕ ℕ) (k : ℕ). record { place = p; compared = k }) (same_place a.place b.place (ap (λ (n : SearchNumbers). n.place) e)) (ap (λ (n : SearchNumbers). n.compared) e)
