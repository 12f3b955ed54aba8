-- Answers with the same numbers are the same.
use mathlib.Core.Path.{◌≡◌, refl, ap, sym, ◌∙◌}
use Rattle.std.specs.Prelude.{Err, Ok, Result}
use Rattle.read_headers.specs.declared.header.Header.{Header}
use Rattle.rtp.specs.declared.refusal.Fault.{Fault}
use Rattle.rtp.specs.declared.refusal.Refusal.{Refusal}
use Rattle.read_headers.specs.declared.redundancy.HeaderSizes.{HeaderSizes}
use Prim.Native.Nat.{ℕ}
use native.Mathlib.Omega.{arith}
use Rattle.read_headers.specs.declared.redundancy.BlockHeader.{BlockHeader}
use Rattle.read_headers.specs.Header.{HeaderNumbers, header_numbers}
use Rattle.read_headers.specs.Redundancy.{BlockNumbers, block_numbers, Headers, refused, headers_of, HeadersNumbers, headers_read_numbers, headers_numbers, headers_answer}
use Rattle.rtp.proofs.RefusalLaws.{same_number, same_fault, not-zero}

pub same_header : (a b : Result Header Refusal) → header_numbers a ≡ header_numbers b → a ≡ b
same_header (Err p) (Err q) e = ap Err (same_number p q (ap (λ (n : HeaderNumbers). n.refusal) e))
same_header (Err p) (Ok h) e = not-zero p (ap (λ (n : HeaderNumbers). n.refusal) e)
same_header (Ok h) (Err q) e = not-zero q (sym (ap (λ (n : HeaderNumbers). n.refusal) e))
same_header (Ok h) (Ok k) e = ap (λ (n : HeaderNumbers). Ok n.fields) e

pub same_block : (a b : Result BlockHeader Refusal) → block_numbers a ≡ block_numbers b → a ≡ b
same_block (Err p) (Err q) e = ap Err (same_number p q (ap (λ (n : BlockNumbers). n.refusal) e))
same_block (Err p) (Ok (BlockHeader.Primary t)) e = not-zero p (ap (λ (n : BlockNumbers). n.refusal) e)
same_block (Err p) (Ok (BlockHeader.Redundant b)) e = not-zero p (ap (λ (n : BlockNumbers). n.refusal) e)
same_block (Ok (BlockHeader.Primary t)) (Err q) e = not-zero q (sym (ap (λ (n : BlockNumbers). n.refusal) e))
same_block (Ok (BlockHeader.Primary t)) (Ok (BlockHeader.Primary u)) e = ap (λ (n : BlockNumbers). Ok (BlockHeader.Primary n.payload_type)) e
same_block (Ok (BlockHeader.Primary t)) (Ok (BlockHeader.Redundant b)) e = let z : ◌≡◌ {A = ℕ} 0 1 = ap (λ (n : BlockNumbers). n.follows) e in absurd (omega arith)
same_block (Ok (BlockHeader.Redundant b)) (Err q) e = not-zero q (sym (ap (λ (n : BlockNumbers). n.refusal) e))
same_block (Ok (BlockHeader.Redundant b)) (Ok (BlockHeader.Primary t)) e = let z : ◌≡◌ {A = ℕ} 1 0 = ap (λ (n : BlockNumbers). n.follows) e in absurd (omega arith)
same_block (Ok (BlockHeader.Redundant b)) (Ok (BlockHeader.Redundant d)) e =
    ap (λ (n : BlockNumbers). Ok (BlockHeader.Redundant (record { payload_type = n.payload_type; offset = n.offset; length = n.length }))) e

same_headers : (a b : Result HeaderSizes Fault) → headers_read_numbers a ≡ headers_read_numbers b → a ≡ b
same_headers (Err p) (Err q) e =
    ap Err (same_fault p q (ap (λ (n : HeadersNumbers). n.refusal) e) (ap (λ (n : HeadersNumbers). n.offset) e))
same_headers (Err p) (Ok z) e = not-zero p.refusal (ap (λ (n : HeadersNumbers). n.refusal) e)
same_headers (Ok z) (Err q) e = not-zero q.refusal (sym (ap (λ (n : HeadersNumbers). n.refusal) e))
same_headers (Ok z) (Ok w) e = ap (λ (n : HeadersNumbers). Ok (record { size = n.size; redundant = n.redundant })) e

pub answer_numbers : (h : Headers) → headers_read_numbers (headers_answer h) ≡ headers_numbers h
unfolding headers_answer headers_numbers
answer_numbers (refused r) = refl
answer_numbers (headers_of bs t) = refl

-- the answer that has the headers' numbers
pub headers_is : (a : Result HeaderSizes Fault) (h : Headers) → headers_read_numbers a ≡ headers_numbers h → a ≡ headers_answer h
headers_is a h e = same_headers a (headers_answer h) (e ∙ sym (answer_numbers h))
