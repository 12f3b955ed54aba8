-- Laws of the field at the front of what is left of a log.
use mathlib.Core.Path.{◌≡◌, refl, ap}
use Rattle.rtp.specs.declared.refusal.Fault.{Fault}
use Rattle.std.specs.Prelude.{Err, Ok, Result}
use Rattle.rtp.specs.declared.refusal.Refusal.{Refusal}
use mathlib.Core.List.{List}
use mathlib.Core.Bool.{true, false}
use Prim.Native.Nat.{ℕ, ◌+◌, ◌-◌, ◌≤◌, ◌<◌}
use native.Mathlib.Omega.{arith}
use lib.ListN.{length}
use lib.Dec.{ltb, eqb}
use borrow.Author.Tests.{lt-ltb, le-ltb, ltb-false, eqb-true, eq-eqb, ne_eqb}
use Rattle.rtp.specs.Editions.{Edition}
use Rattle.rtp.specs.Numbers.{byte_at, be32}
use Rattle.rtp.specs.Ranges.{in_range}
use Rattle.rtp.specs.Faults.{fault, fault_at}
use Rattle.rtp.specs.declared.refusal.Refusal.TheVariants.{MisplacedTag, NotAllowed, WrongCount}
use Rattle.rtp.specs.declared.settings.Settings.{Settings}
use Rattle.rtp.proofs.TestLaws.{by-test}
use Rattle.log_fields.specs.declared.fields.Field.{Field}
use Rattle.log_fields.specs.Fields.{settings_tag, frame_tag, end_tag, head_size, settings_size, frame_head, end_size, settings_in, field_of, field_size, frame_fits}
use Rattle.log_fields.proofs.FieldLaws.{whole_inside}
use Rattle.log_walk.specs.declared.frames.Next.{Next}
use Rattle.log_walk.specs.Opening.{settings_field, opened_by, opening, opened_cursor, open_numbers, open_call}
use Rattle.log_walk.specs.Stepping.{frame_field, end_field, next_by, next_field}

-- what the field at the front is decides
pub opening_by : (ed : Edition) (s : List ℕ) (f : Field) → field_of s ≡ f → opening ed s ≡ opened_by ed s f
unfolding opening
opening_by ed s f e = ap (opened_by ed s) e

pub next_by_lem : (st : Settings) (count : ℕ) (s : List ℕ) (f : Field) → field_of s ≡ f → next_field st count s ≡ next_by st count s f
unfolding next_field
next_by_lem st count s f e = ap (next_by st count s) e

-- the settings' field, by its length and its settings

pub settings_length : (ed : Edition) (s : List ℕ) (n : ℕ) → (n ≡ settings_size → ⊥) → settings_field ed s n ≡ Err NotAllowed
unfolding settings_field
settings_length ed s n h = rw (ne_eqb n settings_size h)

pub settings_in_range : (ed : Edition) (s : List ℕ) (n : ℕ) → n ≡ settings_size → in_range ed (settings_in s) ≡ true → settings_field ed s n ≡ Ok (settings_in s)
unfolding settings_field
settings_in_range ed s n h a = rw (eq-eqb n settings_size h, a)

pub settings_out_of_range : (ed : Edition) (s : List ℕ) (n : ℕ) → n ≡ settings_size → in_range ed (settings_in s) ≡ false → settings_field ed s n ≡ Err NotAllowed
unfolding settings_field
settings_out_of_range ed s n h a = rw (eq-eqb n settings_size h, a)

-- what opening answers and leaves
pub open_as : (ed : Edition) (s : List ℕ) (a : Result Settings Refusal) → opening ed s ≡ a → open_call ed s ≡ record { answer = open_numbers a; cursor = opened_cursor a }
unfolding open_call
open_as ed s a e = ap (λ (x : Result Settings Refusal). record { answer = open_numbers x; cursor = opened_cursor x }) e

-- a frame's field, by its length and what the settings allow

pub frame_short : (st : Settings) (n : ℕ) (s : List ℕ) → n < frame_head → frame_field st n s ≡ Err (fault NotAllowed)
unfolding frame_field
frame_short st n s h = rw (lt-ltb n frame_head h)

pub frame_allowed_lem : (st : Settings) (n : ℕ) (s : List ℕ) → frame_head ≤ n → frame_fits st (byte_at s 7) (byte_at s 8) (n - frame_head) ≡ true
    → frame_field st n s
    ≡ Ok (Next.Frame (record { time = be32 s 3; channel = byte_at s 7; class = byte_at s 8; start = head_size + frame_head; length = n - frame_head }))
unfolding frame_field
frame_allowed_lem st n s h a = rw (le-ltb n frame_head h, a)

pub frame_refused : (st : Settings) (n : ℕ) (s : List ℕ) → frame_head ≤ n → frame_fits st (byte_at s 7) (byte_at s 8) (n - frame_head) ≡ false
    → frame_field st n s ≡ Err (fault NotAllowed)
unfolding frame_field
frame_refused st n s h a = rw (le-ltb n frame_head h, a)

-- the end's field, by its length, its count and what follows

pub end_length : (count n : ℕ) (s : List ℕ) → (n ≡ end_size → ⊥) → end_field count n s ≡ Err (fault NotAllowed)
unfolding end_field
end_length count n s h = rw (ne_eqb n end_size h)

pub end_count : (count n : ℕ) (s : List ℕ) → n ≡ end_size → (be32 s 3 ≡ count → ⊥) → end_field count n s ≡ Err (fault WrongCount)
unfolding end_field
end_count count n s h a = rw (eq-eqb n end_size h, ne_eqb (be32 s 3) count a)

pub end_last : (count n : ℕ) (s : List ℕ) → n ≡ end_size → be32 s 3 ≡ count → length s ≡ head_size + end_size → end_field count n s ≡ Ok Next.End
unfolding end_field
end_last count n s h a b = rw (eq-eqb n end_size h, eq-eqb (be32 s 3) count a, eq-eqb (length s) (head_size + end_size) b)

pub end_more : (count n : ℕ) (s : List ℕ) → n ≡ end_size → be32 s 3 ≡ count → (length s ≡ head_size + end_size → ⊥)
    → end_field count n s ≡ Err (fault_at (head_size + end_size) MisplacedTag)
unfolding end_field
end_more count n s h a b = rw (eq-eqb n end_size h, eq-eqb (be32 s 3) count a, ne_eqb (length s) (head_size + end_size) b)

-- Places lie inside the bytes: a frame's, behind the head of its field, a fault's, and the end of a field that is passed over

abbrev pub NextInside : ℕ → Result Next Fault → Type 0
NextInside l (Ok (Next.Frame f)) = (f.start ≡ head_size + frame_head) × (f.start + f.length ≤ l)
NextInside l (Ok Next.End) = Unit {0}
NextInside l (Ok (Next.Pass n)) = (head_size ≤ n) × (n ≤ l)
NextInside l (Err f) = f.offset ≤ l

frame_inside : (st : Settings) (n : ℕ) (s : List ℕ) → head_size + n ≤ length s → NextInside (length s) (frame_field st n s)
unfolding frame_field
frame_inside st n s h =
    by-test (ltb n frame_head) (λ a. rw a (omega arith))
    (λ a. by-test (frame_fits st (byte_at s 7) (byte_at s 8) (n - frame_head)) (λ b. rw (a, b) (refl, omega (arith, ltb-false n frame_head a))) (λ b. rw (a, b) (omega arith)))

end_inside : (count n : ℕ) (s : List ℕ) → head_size + n ≤ length s → NextInside (length s) (end_field count n s)
unfolding end_field
end_inside count n s h =
    by-test (eqb n end_size)
    (λ a. by-test (eqb (be32 s 3) count)
    (λ b. by-test (eqb (length s) (head_size + end_size)) (λ d. rw (a, b, d) tt) (λ d. rw (a, b, d) (omega (arith, eqb-true n end_size a))))
    (λ b. rw (a, b) (omega arith)))
    (λ a. rw a (omega arith))

by_inside : (st : Settings) (count : ℕ) (s : List ℕ) (f : Field) → field_of s ≡ f → NextInside (length s) (next_by st count s f)
by_inside st count s Field.Stopped e = omega arith
by_inside st count s (Field.Cut tag) e = by-test (eqb tag settings_tag) (λ a. rw a (omega arith)) (λ a. rw a (omega arith))
by_inside st count s (Field.Whole h) e =
    let w : field_size h ≤ length s = whole_inside s h e in
    by-test (eqb h.tag settings_tag) (λ a. rw a (omega arith))
    (λ a. by-test (eqb h.tag frame_tag) (λ b. rw (a, b) (frame_inside st h.length s w))
    (λ b. by-test (eqb h.tag end_tag) (λ d. rw (a, b, d) (end_inside count h.length s w)) (λ d. rw (a, b, d) (omega arith, w))))

pub next_inside : (st : Settings) (count : ℕ) (s : List ℕ) → NextInside (length s) (next_field st count s)
unfolding next_field
next_inside st count s = by_inside st count s (field_of s) refl
