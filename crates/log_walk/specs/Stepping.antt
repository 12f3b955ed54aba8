-- Document 02, P3: a step from a record's place to the next frame, the end, or the first field at fault. Within a field the order is 18, 17, 19, 20.
use Rattle.std.specs.Prelude.{ℕ, zero, suc, ◌+◌, ◌-◌, List, Bool, false, cond, length, drop, ltb, leb, eqb, Err, None, Ok, Option, Result, Some}
use Rattle.log_walk.specs.declared.frames.Shown.{Shown}
use Rattle.rtp.specs.declared.refusal.Fault.{Fault}
use Rattle.rtp.specs.Editions.{Edition}
use Rattle.rtp.specs.Numbers.{byte_at, be32}
use Rattle.rtp.specs.Ranges.{in_range}
use Rattle.rtp.specs.Refusals.{number}
use Rattle.rtp.specs.Faults.{fault, fault_at, shifted}
use Rattle.rtp.specs.declared.settings.Settings.{Settings}
use Rattle.rtp.specs.declared.refusal.Refusal.TheVariants.{SettingsOutOfRange, Malformed, CutField, MisplacedTag, NotAllowed, WrongCount}
use Rattle.log_fields.specs.declared.fields.Field.{Field}
use Rattle.log_walk.specs.declared.frames.Next.{Next}
use Rattle.log_walk.specs.declared.opening.Cursor.{Cursor}
use Rattle.log_fields.specs.Fields.{settings_tag, frame_tag, end_tag, head_size, frame_head, end_size, first_size, field_of, field_size, frame_fits}

-- One field, at the front of s. Places are counted from there

-- a frame's field with n bytes of content: 4 bytes of time, a byte each of channel and class (document 02: sort), then the frame
unfoldable pub frame_field : Settings → ℕ → List ℕ → Result Next Fault
frame_field st n s =
    cond (ltb n frame_head) (Err (fault NotAllowed))
    (cond (frame_fits st (byte_at s 7) (byte_at s 8) (n - frame_head))
    (Ok (Next.Frame (record { time = be32 s 3; channel = byte_at s 7; class = byte_at s 8; start = head_size + frame_head; length = n - frame_head })))
    (Err (fault NotAllowed)))

-- the end's field with n bytes of content: the count of the frames; the byte after it, if there is one, is in the wrong place
unfoldable pub end_field : ℕ → ℕ → List ℕ → Result Next Fault
end_field count n s =
    cond (eqb n end_size)
    (cond (eqb (be32 s 3) count)
    (cond (eqb (length s) (head_size + end_size)) (Ok Next.End) (Err (fault_at (head_size + end_size) MisplacedTag)))
    (Err (fault WrongCount)))
    (Err (fault NotAllowed))

-- by the tag: a second settings field is in the wrong place, cut or not; any other cut field is cut; other tags are passed over by their length
abbrev pub next_by : Settings → ℕ → List ℕ → Field → Result Next Fault
next_by st count s Field.Stopped = Err (fault MisplacedTag)
next_by st count s (Field.Cut tag) = cond (eqb tag settings_tag) (Err (fault MisplacedTag)) (Err (fault CutField))
next_by st count s (Field.Whole h) =
    cond (eqb h.tag settings_tag) (Err (fault MisplacedTag))
    (cond (eqb h.tag frame_tag) (frame_field st h.length s)
    (cond (eqb h.tag end_tag) (end_field count h.length s) (Ok (Next.Pass (field_size h)))))

unfoldable pub next_field : Settings → ℕ → List ℕ → Result Next Fault
next_field st count s = next_by st count s (field_of s)

-- Fields in turn

-- an answer about what stands n bytes on
abbrev pub further : ℕ → Result (Option Shown) Fault → Result (Option Shown) Fault
further n (Ok (Some f)) =
    Ok (Some (record { time = f.time; channel = f.channel; class = f.class; start = n + f.start; length = f.length }))
further n (Ok None) = Ok None
further n (Err f) = Err (shifted n f)

-- what the field at the front of s comes to, where `go` answers about what follows a field that is passed over
abbrev pub onward : (List ℕ → Result (Option Shown) Fault) → List ℕ → Result Next Fault → Result (Option Shown) Fault
onward go s (Ok (Next.Frame f)) = Ok (Some f)
onward go s (Ok Next.End) = Ok None
onward go s (Ok (Next.Pass n)) = further n (go (drop n s))
onward go s (Err f) = Err f

-- by fuel
unfoldable pub walk_by : ℕ → Settings → ℕ → List ℕ → Result (Option Shown) Fault
walk_by zero st count s = Err (fault MisplacedTag)
walk_by (suc k) st count s = onward (λ t. walk_by k st count t) s (next_field st count s)

-- the next frame from the front of s on, or the end, or the first fault
unfoldable pub walk : Settings → ℕ → List ℕ → Result (Option Shown) Fault
walk st count s = walk_by (suc (length s)) st count s

-- Step

-- the record's place is behind the first field and inside the log, and its count is not over its place
abbrev pub cursor_fits : Cursor → ℕ → Bool
cursor_fits c n = cond (ltb c.place first_size) false (cond (ltb n c.place) false (leb c.count c.place))

unfoldable pub step : Edition → Cursor → List ℕ → Result (Option Shown) Fault
step ed c log =
    cond (in_range ed c.settings)
    (cond (cursor_fits c (length log)) (further c.place (walk c.settings c.count (drop c.place log))) (Err (fault Malformed)))
    (Err (fault SettingsOutOfRange))

-- a frame moves the record past its field and counts it; the end or a refusal leaves it as given
abbrev pub cursor_after : Cursor → Result (Option Shown) Fault → Cursor
cursor_after c (Ok (Some f)) = record { settings = c.settings; place = f.start + f.length; count = c.count + 1 }
cursor_after c (Ok None) = c
cursor_after c (Err f) = c

-- The answer in numbers: the refusal number or 0 and the place in the log of the field at fault; 1 at the end; then the frame: its time, channel and class,
-- where its bytes start in the log and how many they are; 0 where there is none
pub record StepNumbers : Type 0 where
  pub refusal : ℕ
  pub offset : ℕ
  pub end : ℕ
  pub time : ℕ
  pub channel : ℕ
  pub class : ℕ
  pub start : ℕ
  pub length : ℕ

abbrev pub step_numbers : Result (Option Shown) Fault → StepNumbers
step_numbers (Ok (Some f)) =
    record { refusal = 0; offset = 0; end = 0; time = f.time; channel = f.channel; class = f.class; start = f.start; length = f.length }
step_numbers (Ok None) = record { refusal = 0; offset = 0; end = 1; time = 0; channel = 0; class = 0; start = 0; length = 0 }
step_numbers (Err f) =
    record { refusal = number f.refusal; offset = f.offset; end = 0; time = 0; channel = 0; class = 0; start = 0; length = 0 }

-- what a step answers and leaves
pub record StepOutcome : Type 0 where
  pub answer : StepNumbers
  pub cursor : Cursor

unfoldable pub step_call : Edition → Cursor → List ℕ → StepOutcome
step_call ed c log = record { answer = step_numbers (step ed c log); cursor = cursor_after c (step ed c log) }
