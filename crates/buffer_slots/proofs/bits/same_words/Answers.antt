use Rattle.std.proofs.Common.{ℕ, ◌≡◌, Bool, true, false, ◌&&◌, cond, eqb, List, [], ◌∷◌, length, ◌∙◌, rules, refl, arith}
use lib.Pointwise.{pointwise}
use Rattle.buffer_slots.specs.Bits.{same_words}
use Rattle.buffer_slots.proofs.bits.same_words.Goals as goal

by_word : (p q r : Bool) → p && (q && (r && true)) ≡ cond p (cond q r false) false
by_word true true true = refl
by_word true true false = refl
by_word true false r = refl
by_word false q r = refl

equal_words : (v w : List ℕ) → length v ≡ 3 → length w ≡ 3 → pointwise eqb v w ≡ same_words v w
equal_words (a ∷ b ∷ c ∷ []) (x ∷ y ∷ z ∷ []) l m = by_word (eqb a x) (eqb b y) (eqb c z)
equal_words [] w l m = absurd (omega arith)
equal_words (a ∷ []) w l m = absurd (omega arith)
equal_words (a ∷ b ∷ []) w l m = absurd (omega arith)
equal_words (a ∷ b ∷ c ∷ d ∷ v) w l m = absurd (omega arith)
equal_words (a ∷ b ∷ c ∷ []) [] l m = absurd (omega arith)
equal_words (a ∷ b ∷ c ∷ []) (x ∷ []) l m = absurd (omega arith)
equal_words (a ∷ b ∷ c ∷ []) (x ∷ y ∷ []) l m = absurd (omega arith)
equal_words (a ∷ b ∷ c ∷ []) (x ∷ y ∷ z ∷ t ∷ w) l m = absurd (omega arith)

pub returns : goal.returns
returns c = c.eq.ensures ∙ equal_words c.args.v c.args.w (search rules) (search rules)
