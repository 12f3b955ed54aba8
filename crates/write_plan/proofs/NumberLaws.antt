-- Answers with the same numbers are the same.
use mathlib.Core.Path.{◌≡◌, refl, ap, sym, ◌∙◌}
use Rattle.std.specs.Prelude.{None, Option, Some}
use Rattle.write_plan.specs.declared.planning.Sizes.{Sizes}
use Prim.Native.Nat.{ℕ}
use Rattle.rtp.specs.declared.refusal.Refusal.TheVariants.{Unwritable}
use Rattle.rtp.proofs.RefusalLaws.{not-zero}
use Rattle.read_contents.specs.Contents.{Contents, refused, groups}
use Rattle.write_plan.specs.Room.{ListNumbers, list_plan_numbers, list_numbers, list_answer}

same_list : (a b : Option Sizes) → list_plan_numbers a ≡ list_plan_numbers b → a ≡ b
same_list None None e = refl
same_list None (Some s) e = not-zero Unwritable (ap (λ (n : ListNumbers). n.refusal) e)
same_list (Some s) None e = not-zero Unwritable (sym (ap (λ (n : ListNumbers). n.refusal) e))
same_list (Some s) (Some t) e = ap (λ (n : ListNumbers). Some (record { table = n.table; payload = n.payload })) e

answer_numbers : (format ch : ℕ) (x : Contents) → list_plan_numbers (list_answer format ch x) ≡ list_numbers format ch x
unfolding list_answer list_numbers
answer_numbers format ch (refused q) = refl
answer_numbers format ch (groups gs) = refl

-- the answer that has the plan's numbers, and its numbers
pub list_is : (format ch : ℕ) (a : Option Sizes) (x : Contents) → list_plan_numbers a ≡ list_numbers format ch x → a ≡ list_answer format ch x
list_is format ch a x e = same_list a (list_answer format ch x) (e ∙ sym (answer_numbers format ch x))

pub list_has : (format ch : ℕ) (a : Option Sizes) (x : Contents) → a ≡ list_answer format ch x → list_plan_numbers a ≡ list_numbers format ch x
list_has format ch a x e = ap list_plan_numbers e ∙ answer_numbers format ch x
