-- Laws of the fields of a log: the front of its bytes is its first field, and the rest of the bytes has the rest of the fields.
use mathlib.Core.Path.{◌≡◌, refl, ap, ◌∙◌, subst}
use mathlib.Core.List.{List, [], ◌∷◌}
use mathlib.Core.Bool.{cond}
use Prim.Native.Nat.{ℕ, zero, suc, ◌+◌, ◌≤◌, ◌<◌}
use native.Mathlib.Omega.{arith}
use lib.ListN.{length, take, drop, length-drop}
use lib.Seq.{drop-drop}
use lib.Dec.{ltb, eqb}
use borrow.Author.Tests.{lt-ltb, le-ltb, ltb-true, ltb-false, ne_eqb}
use Rattle.rtp.specs.Numbers.{be16}
use Rattle.rtp.proofs.TestLaws.{by-test}
use Rattle.log_fields.specs.declared.fields.Field.{Field}
use Rattle.log_fields.specs.declared.fields.FieldHead.{FieldHead}
use Rattle.log_fields.specs.Fields.{head_size, field_of, field_size}
use Rattle.log_claims.specs.Logs.{LogField, whole, cut, fields_by, fields_of, ends, nothing_after}

-- more fuel than bytes is enough
fields_fuel : (k j : ℕ) (s : List ℕ) → length s < k → length s < j → fields_by k s ≡ fields_by j s
unfolding fields_by
fields_fuel zero j s h i = absurd (omega arith)
fields_fuel (suc k) zero s h i = absurd (omega arith)
fields_fuel (suc k) (suc j) [] h i = refl
fields_fuel (suc k) (suc j) (tag ∷ s) h i =
    let n = be16 s 0 in
    let l : length (drop n (drop 2 s)) ≤ length s = omega (arith, length-drop n (drop 2 s), length-drop 2 s) in
    ap (λ (fs : List LogField). cond (ltb (length s) 2) (cut tag ∷ []) (cond (ltb (length (drop 2 s)) n) (cut tag ∷ []) (whole tag (take n (drop 2 s)) ∷ fs)))
    (fields_fuel k j (drop n (drop 2 s)) (omega arith) (omega arith))

-- the fields of s by the one at its front
abbrev pub fields_behind : List ℕ → Field → List LogField
fields_behind s Field.Stopped = []
fields_behind s (Field.Cut tag) = cut tag ∷ []
fields_behind s (Field.Whole h) = whole h.tag (take h.length (drop head_size s)) ∷ fields_of (drop (field_size h) s)

behind : (tag n : ℕ) (s : List ℕ) → fields_by (suc (length s)) (drop n (drop 2 s)) ≡ fields_of (drop (3 + n) (tag ∷ s))
unfolding fields_of
behind tag n s =
    let l : length (drop n (drop 2 s)) ≤ length s = omega (arith, length-drop n (drop 2 s), length-drop 2 s) in
    fields_fuel (suc (length s)) (suc (length (drop n (drop 2 s)))) (drop n (drop 2 s)) (omega arith) (omega arith) ∙ ap fields_of (drop-drop n 3 (tag ∷ s))

pub fields_step : (s : List ℕ) → fields_of s ≡ fields_behind s (field_of s)
unfolding fields_of fields_by field_of
fields_step [] = refl
fields_step (tag ∷ s) =
    let n = be16 s 0 in
    rw (ne_eqb (suc (length s)) 0 (λ z. absurd (omega arith)))
    (by-test (ltb (length s) 2)
    (λ a. let x = ltb-true (length s) 2 a in rw (a, lt-ltb (suc (length s)) 3 (omega arith)))
    (λ a.
    let x = ltb-false (length s) 2 a in
    rw (a, le-ltb (suc (length s)) 3 (omega arith))
    (by-test (ltb (length (drop 2 s)) n)
    (λ b. let y = ltb-true (length (drop 2 s)) n b in rw (b, lt-ltb (suc (length s)) (3 + n) (omega (arith, length-drop 2 s))))
    (λ b.
    let y = ltb-false (length (drop 2 s)) n b in
    rw (b, le-ltb (suc (length s)) (3 + n) (omega (arith, length-drop 2 s)))
    (ap (λ (fs : List LogField). whole tag (take n (drop 2 s)) ∷ fs) (behind tag n s))))))

-- a whole field lies inside
abbrev Inside : List ℕ → Field → Type 0
Inside s Field.Stopped = Unit {0}
Inside s (Field.Cut tag) = Unit {0}
Inside s (Field.Whole h) = field_size h ≤ length s

inside : (s : List ℕ) → Inside s (field_of s)
unfolding field_of
inside s =
    by-test (eqb (length s) 0) (λ a. rw a tt)
    (λ a. by-test (ltb (length s) head_size) (λ b. rw (a, b) tt)
    (λ b. by-test (ltb (length s) (head_size + be16 s 1)) (λ c. rw (a, b, c) tt)
    (λ c. rw (a, b, c) (ltb-false (length s) (head_size + be16 s 1) c))))

pub whole_inside : (s : List ℕ) (h : FieldHead) → field_of s ≡ Field.Whole h → field_size h ≤ length s
whole_inside s h e = subst (Inside s) e (inside s)

-- no byte has no field, and any byte has one
pub after_none : (s : List ℕ) → length s ≡ 0 → nothing_after (fields_of s) ≡ ends 0
unfolding fields_of fields_by
after_none [] h = refl
after_none (x ∷ s) h = absurd (omega arith)

pub after_some : (s : List ℕ) → 1 ≤ length s → nothing_after (fields_of s) ≡ ends 18
unfolding fields_of fields_by
after_some [] h = absurd (omega arith)
after_some (x ∷ s) h =
    by-test (ltb (length s) 2) (λ a. rw a)
    (λ a. by-test (ltb (length (drop 2 s)) (be16 s 0)) (λ b. rw (a, b)) (λ b. rw (a, b)))
