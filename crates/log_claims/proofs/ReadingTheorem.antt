-- Opening a log and stepping through it gives what the log means.
use mathlib.Core.Path.{◌≡◌, refl, ap, ap₂, sym, ◌∙◌}
use Rattle.std.specs.Prelude.{Err, None, Ok, Option, Result, Some}
use Rattle.log_walk.specs.declared.frames.Shown.{Shown}
use Rattle.rtp.specs.declared.refusal.Fault.{Fault}
use mathlib.Core.List.{List}
use mathlib.Core.Bool.{true}
use Prim.Native.Nat.{ℕ, zero, suc, ◌+◌, ◌≤◌, ◌<◌}
use native.Mathlib.Omega.{arith}
use lib.ListN.{length, drop, length-drop}
use lib.Dec.{eqb}
use borrow.Author.Tests.{le-ltb, le-leb, eqb-true}
use Rattle.rtp.specs.Editions.{Edition}
use Rattle.rtp.specs.Ranges.{in_range}
use Rattle.rtp.specs.declared.settings.Settings.{Settings}
use Rattle.rtp.proofs.TestLaws.{by-test}
use Rattle.log_fields.specs.declared.fields.Field.{Field}
use Rattle.log_fields.specs.Fields.{settings_tag, settings_size, head_size, first_size, field_of, settings_in}
use Rattle.log_walk.specs.declared.opening.Cursor.{Cursor}
use Rattle.log_walk.specs.Opening.{settings_field, opened_by, opening, opened_cursor}
use Rattle.log_walk.specs.Stepping.{further, walk, step}
use Rattle.log_claims.specs.Logs.{fields_of, shows, read_on, opened, settled, read_fields, read_log}
use Rattle.log_claims.specs.Claims.{stepped, steps_by, walked, ReadingIsExact}
use Rattle.log_claims.proofs.FieldLaws.{fields_behind, fields_step, whole_inside}
use Rattle.log_claims.proofs.ContentLaws.{content, content_length_lem, content_settings}
use Rattle.log_claims.proofs.WalkLaws.{Agrees, part_moved, rest_moved, agrees}

-- a record that a step takes: its settings are in range, and its place and count fit
record Fit (ed : Edition) (log : List ℕ) (c : Cursor) : Type 0 where
  ranged : in_range ed c.settings ≡ true
  behind : first_size ≤ c.place
  inside : c.place ≤ length log
  counted : c.count ≤ c.place

step_walks : (ed : Edition) (log : List ℕ) (c : Cursor) → Fit ed log c → step ed c log ≡ further c.place (walk c.settings c.count (drop c.place log))
unfolding step
step_walks ed log c f = rw (f.ranged, le-ltb c.place first_size f.behind, le-ltb (length log) c.place f.inside, le-leb c.count c.place f.counted)

-- stepping on from a record gives what the fields behind its place mean
steps_read : (ed : Edition) (k : ℕ) (log : List ℕ) (c : Cursor) → Fit ed log c → length log < c.place + k → steps_by ed k log c ≡ read_on c.settings c.count (fields_of (drop c.place log))
unfolding steps_by
steps_read ed zero log c f h = absurd (omega (arith, f.inside))
steps_read ed (suc k) log c f h =
    rw (step_walks ed log c f)
    (go (walk c.settings c.count (drop c.place log)) (agrees c.settings c.count (drop c.place log)) (λ d g l. steps_read ed k log d g l))
  where
    go : (a : Result (Option Shown) Fault) → Agrees c.settings c.count (drop c.place log) a
        → ((d : Cursor) → Fit ed log d → length log < d.place + k → steps_by ed k log d ≡ read_on d.settings d.count (fields_of (drop d.place log)))
        → stepped (λ d. steps_by ed k log d) log c (further c.place a) ≡ read_on c.settings c.count (fields_of (drop c.place log))
    go (Ok (Some x)) (low, high, r) ih =
        let d : Cursor = record { settings = c.settings; place = c.place + x.start + x.length; count = c.count + 1 } in
        let l : c.place + x.start + x.length ≤ length log = omega (arith, length-drop c.place log, f.inside) in
        let g : Fit ed log d = record { ranged = f.ranged; behind = omega (arith, f.behind); inside = l; counted = omega (arith, f.counted) } in
        let e = ap (λ (t : List ℕ). read_on c.settings (c.count + 1) (fields_of t)) (rest_moved c.place log x) in
        ap₂ shows (sym (part_moved c.place log x)) (ih d g (omega arith) ∙ sym e) ∙ sym r
    go (Ok None) a ih = sym a
    go (Err x) a ih = sym a

-- an opened log
opened_reads : (ed : Edition) (log : List ℕ) (st : Settings) → in_range ed st ≡ true → first_size ≤ length log
    → steps_by ed (suc (length log)) log (opened_cursor (Ok st)) ≡ read_on st 0 (fields_of (drop first_size log))
opened_reads ed log st i h =
    steps_read ed (suc (length log)) log (opened_cursor (Ok st)) (record { ranged = i; behind = omega arith; inside = h; counted = omega arith }) (omega arith)

settings_read : (ed : Edition) (log : List ℕ) (n : ℕ) → head_size + n ≤ length log → walked ed log (settings_field ed log n) ≡ settled ed (content log n) (fields_of (drop (head_size + n) log))
unfolding settings_field settled
settings_read ed log n h =
    rw (content_length_lem log n h)
    (by-test (eqb n settings_size)
    (λ a.
    let l = eqb-true n settings_size a in
    let e = content_settings log n h (omega arith) in
    rw (a, ← e)
    (by-test (in_range ed (settings_in log))
    (λ b. rw b (ap (opened (settings_in log)) (opened_reads ed log (settings_in log) b (omega arith) ∙ ap (λ (m : ℕ). read_on (settings_in log) 0 (fields_of (drop (head_size + m) log))) (sym l))))
    (λ b. rw b)))
    (λ a. rw a))

pub reading_is_exact : (ed : Edition) → ReadingIsExact ed
unfolding opening read_log read_fields
reading_is_exact ed log = rw (fields_step log) (go (field_of log) refl)
  where
    go : (f : Field) → field_of log ≡ f → walked ed log (opened_by ed log f) ≡ read_fields ed (fields_behind log f)
    go Field.Stopped e = refl
    go (Field.Cut tag) e = by-test (eqb tag settings_tag) (λ a. rw a) (λ a. rw a)
    go (Field.Whole h) e = by-test (eqb h.tag settings_tag) (λ a. rw a (settings_read ed log h.length (whole_inside log h e))) (λ a. rw a)
