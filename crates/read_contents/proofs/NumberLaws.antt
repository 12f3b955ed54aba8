-- Answers with the same numbers are the same.
use mathlib.Core.Path.{◌≡◌, refl, ap, sym, ◌∙◌}
use Rattle.std.specs.Prelude.{Err, Ok, Result}
use Rattle.rtp.specs.declared.refusal.Refusal.{Refusal}
use Rattle.read_contents.specs.declared.entries.Sizes.{Sizes}
use Rattle.rtp.specs.declared.refusal.Fault.{Fault}
use Rattle.read_contents.specs.declared.entries.Entry.{Entry}
use Prim.Native.Nat.{ℕ}
use Rattle.rtp.proofs.RefusalLaws.{same_number, same_fault, not-zero}
use Rattle.read_contents.specs.Contents.{EntryNumbers, entry_numbers, Contents, refused, groups, ContentsNumbers, contents_read_numbers, contents_numbers, sizes_answer}

pub same_entry : (a b : Result Entry Refusal) → entry_numbers a ≡ entry_numbers b → a ≡ b
same_entry (Err p) (Err q) e = ap Err (same_number p q (ap (λ (n : EntryNumbers). n.refusal) e))
same_entry (Err p) (Ok x) e = not-zero p (ap (λ (n : EntryNumbers). n.refusal) e)
same_entry (Ok x) (Err q) e = not-zero q (sym (ap (λ (n : EntryNumbers). n.refusal) e))
same_entry (Ok x) (Ok y) e = ap (λ (n : EntryNumbers). Ok n.entry) e

same_contents : (a b : Result Sizes Fault) → contents_read_numbers a ≡ contents_read_numbers b → a ≡ b
same_contents (Err p) (Err q) e =
    ap Err (same_fault p q (ap (λ (n : ContentsNumbers). n.refusal) e) (ap (λ (n : ContentsNumbers). n.offset) e))
same_contents (Err p) (Ok t) e = not-zero p.refusal (ap (λ (n : ContentsNumbers). n.refusal) e)
same_contents (Ok t) (Err q) e = not-zero q.refusal (sym (ap (λ (n : ContentsNumbers). n.refusal) e))
same_contents (Ok t) (Ok u) e =
    ap (λ (n : ContentsNumbers). Ok (record { rows = n.rows; size = n.size; frames = n.frames })) e

sizes_numbers : (format ch : ℕ) (x : Contents) → contents_read_numbers (sizes_answer format ch x) ≡ contents_numbers format ch x
unfolding sizes_answer contents_numbers
sizes_numbers format ch (refused r) = refl
sizes_numbers format ch (groups gs) = refl

-- the answer that has the table's numbers, and its numbers
pub contents_is : (format ch : ℕ) (a : Result Sizes Fault) (x : Contents) → contents_read_numbers a ≡ contents_numbers format ch x → a ≡ sizes_answer format ch x
contents_is format ch a x e = same_contents a (sizes_answer format ch x) (e ∙ sym (sizes_numbers format ch x))

pub contents_has : (format ch : ℕ) (a : Result Sizes Fault) (x : Contents) → a ≡ sizes_answer format ch x → contents_read_numbers a ≡ contents_numbers format ch x
contents_has format ch a x e = ap contents_read_numbers e ∙ sizes_numbers format ch x
