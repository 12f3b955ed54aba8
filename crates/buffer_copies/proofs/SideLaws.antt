-- Where a pair lies: the code's answer and the order are the same.
use mathlib.Core.Path.{◌≡◌, refl, ap, ◌∙◌}
use Rattle.std.specs.declared.cmp.Ordering.{Ordering as Side}
use Rattle.std.specs.declared.cmp.Ordering.TheVariants.{Less, Equal, Greater}
use Prim.Native.Nat.{ℕ, ◌<◌, compare, Ordering}
use Rattle.std.specs.Ordering.{MatchOrdering, nat_cmp}
use Rattle.std.proofs.lemmas.Cmp.{ranked}
use Rattle.buffer_copies.specs.Pairs.{side_order, side_of}
use Rattle.buffer_copies.proofs.InsertionLaws.{compare_is}

pub side_is : (s : Side) (o : Ordering) → side_order s ≡ o → s ≡ side_of o
side_is s o e = back s ∙ ap side_of e
  where
    back : (s : Side) → s ≡ side_of (side_order s)
    back Less = refl
    back Equal = refl
    back Greater = refl

-- the library's order of two numbers says the same
pub side_cmp : (a b : ℕ) (s : Side) → s ≡ nat_cmp a b → side_order s ≡ compare a b
side_cmp a b s e = go s (ranked a b s e)
  where
    go : (s : Side) → MatchOrdering s (a < b) (a ≡ b) (b < a) → side_order s ≡ compare a b
    go Less l = compare_is Ordering.lt a b l
    go Equal e = compare_is Ordering.eq a b e
    go Greater l = compare_is Ordering.gt a b l
