-- What is known at the exits of a `?`.
use Prim.Native.Nat.{ℕ, ◌+◌, ◌<◌, ◌^◌}
use Rattle.rtp.specs.declared.refusal.Fault.{Fault}
use Rattle.rtp.specs.Faults.{fault_at, shifted, told}
use mathlib.Core.Path.{◌≡◌, refl, sym, ap, ◌∙◌}
use native.Mathlib.Omega.{arith}
use Rattle.std.proofs.Math.Nat.{min-eq_left}
use Rattle.std.specs.Prelude.{Result, Ok, Err, Option, Some, None, MatchResult}
use Rattle.std.specs.Result.{IsErrAnd}
use Rattle.std.specs.Option.{ok_or}

-- the error returned, where it is known
pub err_is : {T E : Type 0} (r : Result T E) (x : E) → IsErrAnd r (λ y. y ≡ x) → r ≡ Err x
err_is (Ok v) x h = absurd h
err_is (Err y) x h = ap Err h

ok_same : {T E : Type 0} (a b : T) → ◌≡◌ {A = Result T E} (Ok a) (Ok b) → a ≡ b
ok_same a b h = cc

err_same : {T E : Type 0} (a b : E) → ◌≡◌ {A = Result T E} (Err a) (Err b) → a ≡ b
err_same a b h = cc

-- a place of 64 bits is told as it is
pub told_whole : (f : Fault) → f.offset < 2 ^ 64 → told f ≡ f
told_whole f h = ap (λ n. fault_at n f.refusal) (min-eq_left (omega (arith, h)))

-- what `shifted` says of the places that 64 bits can tell
pub shifted_within : {T : Type 0} (r s : Result T Fault) (n : ℕ)
    → MatchResult r (λ v. s ≡ Ok v) (λ f. s ≡ Err (told (shifted n f))) → MatchResult r (λ v. s ≡ Ok v) (λ f. n + f.offset < 2 ^ 64 → s ≡ Err (shifted n f))
shifted_within (Ok v) s n m = m
shifted_within (Err f) s n m = λ h. m ∙ ap Err (told_whole (shifted n f) h)

-- what an answer lets through that is shifted where 64 bits can tell the place, and the fault that it makes
pub shift_ok : {T : Type 0} (r s : Result T Fault) (n : ℕ) (x : T)
    → MatchResult r (λ v. s ≡ Ok v) (λ f. n + f.offset < 2 ^ 64 → s ≡ Err (shifted n f)) → ((f : Fault) → r ≡ Err f → n + f.offset < 2 ^ 64) → s ≡ Ok x → r ≡ Ok x
shift_ok (Ok v) s n x m k h = ap Ok (ok_same v x (sym m ∙ h))
shift_ok (Err f) s n x m k h = let z = sym h ∙ m (k f refl) in cc

pub shift_err : {T : Type 0} (r s : Result T Fault) (n : ℕ) (d : Fault)
    → MatchResult r (λ v. s ≡ Ok v) (λ f. n + f.offset < 2 ^ 64 → s ≡ Err (shifted n f)) → ((f : Fault) → r ≡ Err f → n + f.offset < 2 ^ 64) → s ≡ Err d → (f : Fault) × (r ≡ Err f) × (d ≡ shifted n f)
shift_err (Ok v) s n d m k h = let z = sym h ∙ m in cc
shift_err (Err f) s n d m k h = (f, refl, err_same d (shifted n f) (sym h ∙ m (k f refl)))

-- .. of the answer of `shifted`, which tells every place
pub told_ok : {T : Type 0} (r s : Result T Fault) (n : ℕ) (x : T)
    → MatchResult r (λ v. s ≡ Ok v) (λ f. s ≡ Err (told (shifted n f))) → ((f : Fault) → r ≡ Err f → n + f.offset < 2 ^ 64) → s ≡ Ok x → r ≡ Ok x
told_ok r s n x m = shift_ok r s n x (shifted_within r s n m)

pub told_err : {T : Type 0} (r s : Result T Fault) (n : ℕ) (d : Fault)
    → MatchResult r (λ v. s ≡ Ok v) (λ f. s ≡ Err (told (shifted n f))) → ((f : Fault) → r ≡ Err f → n + f.offset < 2 ^ 64) → s ≡ Err d → (f : Fault) × (r ≡ Err f) × (d ≡ shifted n f)
told_err r s n d m = shift_err r s n d (shifted_within r s n m)

-- what an `ok_or` makes of an option
pub or_none : {T E : Type 0} (o : Option T) (r : Result T E) (x e : E) → r ≡ ok_or o x → r ≡ Err e → (o ≡ None) × (e ≡ x)
or_none None r x e h k = (refl, err_same e x (sym k ∙ h))
or_none (Some v) r x e h k = cc

pub or_some : {T E : Type 0} (o : Option T) (r : Result T E) (x : E) (v : T) → r ≡ ok_or o x → r ≡ Ok v → o ≡ Some v
or_some None r x v h k = cc
or_some (Some w) r x v h k = ap Some (ok_same w v (sym h ∙ k))
