-- Laws of the fields of a log.
use mathlib.Core.Path.{◌≡◌, ap}
use mathlib.Core.List.{List}
use Prim.Native.Nat.{ℕ, ◌+◌, ◌≤◌, ◌<◌}
use native.Mathlib.Omega.{arith}
use lib.ListN.{length}
use lib.Dec.{ltb, eqb}
use borrow.Author.Tests.{lt-ltb, le-ltb, ltb-true, ltb-false, eq-eqb, ne_eqb, eqb-true, eqb-false}
use Rattle.rtp.specs.Numbers.{byte_at}
use Rattle.rtp.proofs.TestLaws.{by-test}
use Rattle.log_fields.specs.declared.fields.FieldHead.{FieldHead}
use Rattle.log_fields.specs.declared.fields.Field.{Field}
use Rattle.log_fields.specs.Fields.{head_size, content_length, field_of, field_size}

-- what the field at the front is, by how many bytes there are

pub field_stopped : (s : List ℕ) → length s ≡ 0 → field_of s ≡ Field.Stopped
unfolding field_of
field_stopped s h = rw (eq-eqb (length s) 0 h)

pub field_cut_head : (s : List ℕ) → (length s ≡ 0 → ⊥) → length s < head_size → field_of s ≡ Field.Cut (byte_at s 0)
unfolding field_of
field_cut_head s n h = rw (ne_eqb (length s) 0 n, lt-ltb (length s) 3 h)

pub field_cut : (s : List ℕ) → head_size ≤ length s → length s < head_size + content_length s → field_of s ≡ Field.Cut (byte_at s 0)
unfolding field_of
field_cut s h l = rw (ne_eqb (length s) 0 (λ z. omega arith), le-ltb (length s) 3 h, lt-ltb (length s) (3 + content_length s) l)

pub field_whole : (s : List ℕ) → head_size + content_length s ≤ length s → field_of s ≡ Field.Whole (record { tag = byte_at s 0; length = content_length s })
unfolding field_of
field_whole s h = rw (ne_eqb (length s) 0 (λ z. omega arith), le-ltb (length s) 3 (omega arith), le-ltb (length s) (3 + content_length s) h)

-- a whole field lies inside the bytes, and its tag and length are those that stand there
pub whole_is : (s : List ℕ) (h : FieldHead) → field_of s ≡ Field.Whole h
    → (head_size + content_length s ≤ length s) × (h ≡ record { tag = byte_at s 0; length = content_length s })
whole_is s h e =
    by-test (eqb (length s) 0)
    (λ a. let f = field_stopped s (eqb-true _ _ a) in let z : ◌≡◌ {A = ℕ} 0 1 = cc in absurd (omega arith))
    (λ a. by-test (ltb (length s) head_size)
    (λ b. let f = field_cut_head s (eqb-false _ _ a) (ltb-true _ _ b) in let z : ◌≡◌ {A = ℕ} 0 1 = cc in absurd (omega arith))
    (λ b. by-test (ltb (length s) (head_size + content_length s))
    (λ d. let f = field_cut s (ltb-false _ _ b) (ltb-true _ _ d) in let z : ◌≡◌ {A = ℕ} 0 1 = cc in absurd (omega arith))
    (λ d. let f = field_whole s (ltb-false _ _ d) in (ltb-false _ _ d, cc))))

pub whole_inside : (s : List ℕ) (h : FieldHead) → field_of s ≡ Field.Whole h → field_size h ≤ length s
whole_inside s h e = let w = whole_is s h e in omega (arith, w.0, ap (λ (x : FieldHead). x.length) w.1)
