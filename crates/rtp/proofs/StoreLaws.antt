-- Laws of stores into an area that is written over from its front.
use Rattle.std.proofs.Common.{◌≡◌, ℕ, suc, ◌<◌, List, [], ◌∷◌, ◌++◌, length, get_or, drop, set, sym, ap, ◌∙◌, add-one, arith, length-append, drop-cons}
use lib.Seq.{set_at, append_snoc}
use Rattle.rtp.specs.Areas.{over}

-- one more element behind what was written
pub over_store : (a l m : List ℕ) (n v : ℕ) → length a ≡ n → n < length l → m ≡ over a l → set m n v ≡ over (a ++ (v ∷ [])) l
unfolding over
over_store a l m n v h k p =
    ap (λ (r : List ℕ). set r n v) (p ∙ ap (λ (r : List ℕ). a ++ r) (drop-cons l (length a) 0 (omega arith)))
    ∙ set_at a (get_or l (length a) 0) (drop (suc (length a)) l) v n h
    ∙ sym (append_snoc a v (drop (suc (length a)) l))
    ∙ sym (ap (λ (i : ℕ). (a ++ (v ∷ [])) ++ drop i l) (length-append a (v ∷ []) ∙ add-one (length a)))
