-- Answers with the same numbers are the same.
use mathlib.Core.Path.{◌≡◌, refl, ap, sym, ◌∙◌}
use Rattle.std.specs.Prelude.{Err, Ok, Result}
use Rattle.rtp.specs.declared.refusal.Fault.{Fault}
use Rattle.std.specs.Prelude.{ℕ}
use Rattle.rtp.proofs.RefusalLaws.{same_fault, not-zero}
use Rattle.read_payload.specs.Payloads.{Rows, no_rows, rows_of, PayloadNumbers, payload_numbers, rows_numbers, rows_answer}

same_payload : (a b : Result ℕ Fault) → payload_numbers a ≡ payload_numbers b → a ≡ b
same_payload (Err p) (Err q) e =
    ap Err (same_fault p q (ap (λ (n : PayloadNumbers). n.refusal) e) (ap (λ (n : PayloadNumbers). n.offset) e))
same_payload (Err p) (Ok m) e = not-zero p.refusal (ap (λ (n : PayloadNumbers). n.refusal) e)
same_payload (Ok m) (Err q) e = not-zero q.refusal (sym (ap (λ (n : PayloadNumbers). n.refusal) e))
same_payload (Ok m) (Ok k) e = ap (λ (n : PayloadNumbers). Ok n.rows) e

answer_numbers : (x : Rows) → payload_numbers (rows_answer x) ≡ rows_numbers x
unfolding rows_answer rows_numbers
answer_numbers (no_rows r) = refl
answer_numbers (rows_of rs) = refl

-- the same of rows
pub rows_is : (a : Result ℕ Fault) (x : Rows) → payload_numbers a ≡ rows_numbers x → a ≡ rows_answer x
rows_is a x e = same_payload a (rows_answer x) (e ∙ sym (answer_numbers x))

pub rows_has : (a : Result ℕ Fault) (x : Rows) → a ≡ rows_answer x → payload_numbers a ≡ rows_numbers x
rows_has a x e = ap payload_numbers e ∙ answer_numbers x
