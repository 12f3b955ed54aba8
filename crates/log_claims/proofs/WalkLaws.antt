-- A walk to the next frame agrees with what the fields mean.
use mathlib.Core.Path.{◌≡◌, refl, ap, ap₂, ◌∙◌}
use Rattle.std.specs.Prelude.{Err, None, Ok, Option, Result, Some}
use Rattle.rtp.specs.declared.refusal.Fault.{Fault}
use mathlib.Core.List.{List}
use mathlib.Core.Bool.{cond}
use Prim.Native.Nat.{ℕ, zero, suc, ◌+◌, ◌-◌, ◌≤◌, ◌<◌}
use native.Mathlib.Omega.{arith}
use lib.ListN.{length, take, drop, length-drop}
use lib.Seq.{drop-drop}
use lib.Dec.{ltb, eqb}
use borrow.Author.Tests.{ltb-true, ltb-false, eqb-true, eqb-false}
use Rattle.rtp.specs.Numbers.{byte_at, be32}
use Rattle.rtp.specs.Refusals.{number}
use Rattle.rtp.specs.declared.settings.Settings.{Settings}
use Rattle.rtp.proofs.TestLaws.{by-test}
use Rattle.log_fields.specs.declared.fields.Field.{Field}
use Rattle.log_fields.specs.declared.fields.FieldHead.{FieldHead}
use Rattle.log_fields.specs.Fields.{settings_tag, frame_tag, end_tag, head_size, frame_head, end_size, field_of, field_size, frame_fits}
use Rattle.log_walk.specs.declared.frames.Shown.{Shown}
use Rattle.log_walk.specs.declared.frames.Next.{Next}
use Rattle.log_walk.specs.Stepping.{frame_field, end_field, next_by, next_field, further, onward, walk_by, walk}
use Rattle.log_claims.specs.Logs.{fields_of, frame_of, frame_allowed, ends, shows, end_of, read_on}
use Rattle.log_claims.specs.Claims.{part_of}
use Rattle.log_claims.proofs.FieldLaws.{fields_behind, fields_step, whole_inside, after_none, after_some}
use Rattle.log_claims.proofs.ContentLaws.{content, content_length_lem, content_four, content_shown, content_allowed, content_short}

-- the answer of a walk over s, after n frames, is what its fields mean; a frame's bytes lie in s, behind a field's head and the frame's own
abbrev pub Agrees : Settings → ℕ → List ℕ → Result (Option Shown) Fault → Type 0
Agrees st n s (Ok (Some f)) =
    (head_size + frame_head ≤ f.start) × (f.start + f.length ≤ length s)
    × (read_on st n (fields_of s) ≡ shows (part_of s f) (read_on st (n + 1) (fields_of (drop (f.start + f.length) s))))
Agrees st n s (Ok None) = read_on st n (fields_of s) ≡ ends 0
Agrees st n s (Err f) = read_on st n (fields_of s) ≡ ends (number f.refusal)

-- a frame that stands m bytes on
abbrev pub moved_on : ℕ → Shown → Shown
moved_on m f = record { time = f.time; channel = f.channel; class = f.class; start = m + f.start; length = f.length }

pub part_moved : (m : ℕ) (s : List ℕ) (f : Shown) → part_of (drop m s) f ≡ part_of s (moved_on m f)
part_moved m s f = λ j. record { time = f.time; channel = f.channel; class = f.class; bytes = take f.length (drop-drop f.start m s j) }

pub rest_moved : (m : ℕ) (s : List ℕ) (f : Shown) → drop (f.start + f.length) (drop m s) ≡ drop (m + f.start + f.length) s
rest_moved m s f =
    let e : m + (f.start + f.length) ≡ m + f.start + f.length = omega arith in
    drop-drop (f.start + f.length) m s ∙ ap (λ (k : ℕ). drop k s) e

-- a field that is passed over
passed : (st : Settings) (n : ℕ) (s : List ℕ) (m : ℕ) → m ≤ length s → read_on st n (fields_of s) ≡ read_on st n (fields_of (drop m s))
    → (a : Result (Option Shown) Fault) → Agrees st n (drop m s) a → Agrees st n s (further m a)
passed st n s m h e (Ok (Some f)) (low, high, r) =
    (omega arith, omega (arith, length-drop m s), e ∙ r ∙ ap₂ shows (part_moved m s f) (ap (λ (l : List ℕ). read_on st (n + 1) (fields_of l)) (rest_moved m s f)))
passed st n s m h e (Ok None) r = e ∙ r
passed st n s m h e (Err f) r = e ∙ r

-- one field, at the front of s
module _ (st : Settings) (n : ℕ) (s : List ℕ) where
  -- what it comes to is what the fields mean; if it is passed over, so is what follows it
  abbrev Meant : Result Next Fault → Type 0
  Meant (Ok (Next.Frame f)) = Agrees st n s (Ok (Some f))
  Meant (Ok Next.End) = Agrees st n s (Ok None)
  Meant (Ok (Next.Pass m)) = (1 ≤ m) × (m ≤ length s) × (read_on st n (fields_of s) ≡ read_on st n (fields_of (drop m s)))
  Meant (Err f) = Agrees st n s (Err f)

  -- a frame's field with m bytes of content
  frame_meant : (m : ℕ) → head_size + m ≤ length s
      → read_on st n (fields_of s) ≡ cond (frame_allowed st (content s m)) (shows (frame_of (content s m)) (read_on st (n + 1) (fields_of (drop (head_size + m) s)))) (ends 19)
      → Meant (frame_field st m s)
  unfolding frame_field
  frame_meant m h e =
      by-test (ltb m frame_head)
      (λ a. rw a (rw (content_short s m h st (ltb-true m frame_head a)) at e))
      (λ a.
      let l = ltb-false m frame_head a in
      let k : head_size + m ≡ head_size + frame_head + (m - frame_head) = omega arith in
      let x = rw (content_allowed s m h st l) at e in
      by-test (frame_fits st (byte_at s 7) (byte_at s 8) (m - frame_head))
      (λ b. rw (a, b) (omega arith, omega arith, rw b at x ∙ ap₂ shows (content_shown s m h l) (ap (λ (i : ℕ). read_on st (n + 1) (fields_of (drop i s))) k)))
      (λ b. rw (a, b) (rw b at x)))

  -- the end's
  end_meant : (m : ℕ) → head_size + m ≤ length s → read_on st n (fields_of s) ≡ end_of n (content s m) (fields_of (drop (head_size + m) s)) → Meant (end_field n m s)
  unfolding end_field end_of
  end_meant m h e =
      let x = rw (content_length_lem s m h) at e in
      by-test (eqb m end_size)
      (λ a.
      let l = eqb-true m end_size a in
      let y = rw (a, content_four s m h (omega arith)) at x in
      by-test (eqb (be32 s 3) n)
      (λ b.
      let z = rw b at y in
      by-test (eqb (length s) (head_size + end_size))
      (λ c. let d = eqb-true (length s) (head_size + end_size) c in rw (a, b, c) (z ∙ after_none (drop (head_size + m) s) (omega (arith, length-drop (head_size + m) s))))
      (λ c. let d = eqb-false (length s) (head_size + end_size) c in rw (a, b, c) (z ∙ after_some (drop (head_size + m) s) (omega (arith, length-drop (head_size + m) s)))))
      (λ b. rw (a, b) (rw b at y)))
      (λ a. rw a (rw a at x))

  whole_meant : (f : FieldHead) → field_size f ≤ length s → fields_of s ≡ fields_behind s (Field.Whole f) → Meant (next_by st n s (Field.Whole f))
  unfolding read_on
  whole_meant f h r =
      let e = ap (read_on st n) r in
      by-test (eqb f.tag settings_tag) (λ a. rw a (rw a at e))
      (λ a. by-test (eqb f.tag frame_tag) (λ b. rw (a, b) (frame_meant f.length h (rw (a, b) at e)))
      (λ b. by-test (eqb f.tag end_tag) (λ c. rw (a, b, c) (end_meant f.length h (rw (a, b, c) at e)))
      (λ c. rw (a, b, c) (omega arith, h, rw (a, b, c) at e))))

  meant : Meant (next_field st n s)
  unfolding next_field read_on
  meant = go (field_of s) refl (fields_step s)
    where
      go : (f : Field) → field_of s ≡ f → fields_of s ≡ fields_behind s f → Meant (next_by st n s f)
      go Field.Stopped e r = rw r refl
      go (Field.Cut tag) e r = by-test (eqb tag settings_tag) (λ a. rw (a, r) (rw a)) (λ a. rw (a, r) (rw a))
      go (Field.Whole h) e r = whole_meant h (whole_inside s h e) r

-- the walk
agrees_by : (k : ℕ) (st : Settings) (n : ℕ) (s : List ℕ) → length s < k → Agrees st n s (walk_by k st n s)
unfolding walk_by
agrees_by zero st n s h = absurd (omega arith)
agrees_by (suc k) st n s h = go (next_field st n s) (meant st n s) (λ t l. agrees_by k st n t l)
  where
    go : (x : Result Next Fault) → Meant st n s x → ((t : List ℕ) → length t < k → Agrees st n t (walk_by k st n t)) → Agrees st n s (onward (λ t. walk_by k st n t) s x)
    go (Ok (Next.Frame f)) e ih = e
    go (Ok Next.End) e ih = e
    go (Ok (Next.Pass m)) e ih = passed st n s m e.1 e.2 (walk_by k st n (drop m s)) (ih (drop m s) (omega (arith, length-drop m s)))
    go (Err f) e ih = e

pub agrees : (st : Settings) (n : ℕ) (s : List ℕ) → Agrees st n s (walk st n s)
unfolding walk
agrees st n s = agrees_by (suc (length s)) st n s (omega arith)
