-- Laws of the count of frames: a step shows one more, or there is none left.
use mathlib.Core.Path.{◌≡◌, refl, sym, ap, ◌∙◌}
use Rattle.std.specs.Prelude.{Err, None, Ok, Option, Result, Some}
use Rattle.rtp.specs.declared.refusal.Fault.{Fault}
use Rattle.rtp.specs.declared.refusal.Refusal.{Refusal}
use Rattle.log_walk.specs.declared.frames.Shown.{Shown}
use Rattle.rtp.specs.declared.settings.Settings.{Settings}
use mathlib.Core.List.{List}
use mathlib.Core.Bool.{Bool, true, false, cond}
use Prim.Native.Nat.{ℕ, suc, ◌+◌, ◌-◌, ◌≤◌}
use native.Mathlib.Omega.{arith}
use lib.ListN.{length}
use lib.Dec.{eqb}
use Rattle.rtp.specs.Editions.{current}
use Rattle.rtp.proofs.RefusalLaws.{number_some}
use Rattle.log_walk.specs.declared.opening.Cursor.{Cursor}
use Rattle.log_walk.specs.Opening.{OpenOutcome, open_numbers, open_call}
use Rattle.log_walk.specs.Stepping.{StepOutcome, step_numbers, step_call}
use Rattle.log_lines.specs.FrameCounts.{is_shown, frames_by, frames_from, frames_of}

-- what is left of the steps that a log needs
abbrev pub left : ℕ → Cursor → List ℕ → ℕ
left n c log = frames_by (suc (length log) - n) c log

-- whether an answer is a frame
abbrev pub is_frame : Result (Option Shown) Fault → Bool
is_frame (Ok (Some f)) = true
is_frame (Ok None) = false
is_frame (Err f) = false

pub shown_frame : (a : Result (Option Shown) Fault) → is_shown (step_numbers a) ≡ is_frame a
shown_frame (Ok (Some f)) = refl
shown_frame (Ok None) = refl
shown_frame (Err f) = rw (number_some f.refusal)

abbrev pub onward : Bool → ℕ → ℕ
onward b n = cond b (suc n) 0

pub by_step : (k : ℕ) (c d : Cursor) (log : List ℕ) (a : Result (Option Shown) Fault) → record { answer = step_numbers a; cursor = d } ≡ step_call current c log
    → frames_by (suc k) c log ≡ onward (is_frame a) (frames_by k d log)
unfolding frames_by
by_step k c d log a e =
    ap (λ (o : StepOutcome). onward (is_shown o.answer) (frames_by k o.cursor log)) (sym e)
    ∙ ap (λ (b : Bool). onward b (frames_by k d log)) (shown_frame a)

one_left : (n l : ℕ) → n ≤ l → suc l - n ≡ suc (l - n)
one_left n l h = omega arith

left_step : (n : ℕ) (c d : Cursor) (log : List ℕ) (a : Result (Option Shown) Fault) → n ≤ length log → record { answer = step_numbers a; cursor = d } ≡ step_call current c log
    → left n c log ≡ onward (is_frame a) (frames_by (length log - n) d log)
left_step n c d log a h e = ap (λ (k : ℕ). frames_by k c log) (one_left n (length log) h) ∙ by_step (length log - n) c d log a e

-- before the first step
pub counts_start : (c : Cursor) (log : List ℕ) → 0 + left 0 c log ≡ frames_from c log
unfolding frames_from
counts_start c log =
    let all : suc (length log) - 0 ≡ suc (length log) = omega arith in
    let plain : 0 + left 0 c log ≡ left 0 c log = omega arith in
    plain ∙ ap (λ (k : ℕ). frames_by k c log) all

-- a frame is counted
pub counts_frame : (n : ℕ) (c d : Cursor) (log : List ℕ) (a : Result (Option Shown) Fault) → n ≤ length log → record { answer = step_numbers a; cursor = d } ≡ step_call current c log
    → is_frame a ≡ true → n + 1 + left (n + 1) d log ≡ n + left n c log
counts_frame n c d log a h e shown =
    let same : length log - n ≡ suc (length log) - (n + 1) = omega arith in
    let one : left n c log ≡ suc (left (n + 1) d log) = left_step n c d log a h e ∙ ap (λ (b : Bool). onward b (frames_by (length log - n) d log)) shown
    ∙ ap (λ (k : ℕ). suc (frames_by k d log)) same in
    omega (arith, one)

-- behind anything else there is none
pub counts_none : (n : ℕ) (c d : Cursor) (log : List ℕ) (a : Result (Option Shown) Fault) → n ≤ length log → record { answer = step_numbers a; cursor = d } ≡ step_call current c log
    → is_frame a ≡ false → n ≡ n + left n c log
counts_none n c d log a h e shown =
    let none : left n c log ≡ 0 = left_step n c d log a h e ∙ ap (λ (b : Bool). onward b (frames_by (length log - n) d log)) shown in
    omega (arith, none)

-- .. and behind more frames than a log has bytes
pub counts_out : (n : ℕ) (c : Cursor) (log : List ℕ) → suc (length log) ≤ n → n ≡ n + left n c log
unfolding frames_by
counts_out n c log h =
    let none : left n c log ≡ 0 = ap (λ (k : ℕ). frames_by k c log) (out (length log) n h) in
    omega (arith, none)
  where
    out : (l m : ℕ) → suc l ≤ m → suc l - m ≡ 0
    out l m g = omega arith

-- A whole log

abbrev pub is_opened : Result Settings Refusal → Bool
is_opened (Ok st) = true
is_opened (Err r) = false

opened_zero : (a : Result Settings Refusal) → eqb (open_numbers a).refusal 0 ≡ is_opened a
opened_zero (Ok st) = refl
opened_zero (Err r) = number_some r

-- opened, it has the frames behind its settings; else none
pub counts_open : (log : List ℕ) (d : Cursor) (a : Result Settings Refusal) (b : Bool) → record { answer = open_numbers a; cursor = d } ≡ open_call current log → is_opened a ≡ b
    → cond b (frames_from d log) 0 ≡ frames_of log
unfolding frames_of
counts_open log d a b e is =
    sym (ap (λ (o : OpenOutcome). cond (eqb o.answer.refusal 0) (frames_from o.cursor log) 0) (sym e)
    ∙ ap (λ (x : Bool). cond x (frames_from d log) 0) (opened_zero a ∙ is))
