-- How many frames a log has, by the steps that show them.
use Rattle.std.specs.Prelude.{ℕ, zero, suc, ◌≡◌, List, Bool, false, cond, eqb, length, Result, Ok, Err}
use Rattle.rtp.specs.Editions.{current}
use Rattle.log_walk.specs.declared.opening.Cursor.{Cursor}
use Rattle.log_walk.specs.Opening.{open_call}
use Rattle.log_walk.specs.Stepping.{StepNumbers, step_call}
use Rattle.console_text.specs.declared.lines.NotWritten.{NotWritten}

-- a step shows a frame where it is not refused and not at the end
abbrev pub is_shown : StepNumbers → Bool
is_shown n = cond (eqb n.refusal 0) (eqb n.end 0) false

-- from a record on, in at most so many steps
unfoldable pub frames_by : ℕ → Cursor → List ℕ → ℕ
frames_by zero c log = 0
frames_by (suc k) c log = cond (is_shown (step_call current c log).answer) (suc (frames_by k (step_call current c log).cursor log)) 0

-- from a record on: a log has fewer frames than bytes
unfoldable pub frames_from : Cursor → List ℕ → ℕ
frames_from c log = frames_by (suc (length log)) c log

-- .. so many steps are enough: where a step shows a frame, there is one more than from the record that it leaves
abbrev pub StepsAreEnough : Type 0
StepsAreEnough = (c : Cursor) (log : List ℕ) →
    frames_from c log ≡ cond (is_shown (step_call current c log).answer) (suc (frames_from (step_call current c log).cursor log)) 0

-- of a whole log; one that is not opened shows none
unfoldable pub frames_of : List ℕ → ℕ
frames_of log = cond (eqb (open_call current log).answer.refusal 0) (frames_from (open_call current log).cursor log) 0

-- Whether standard output takes what is printed is the operating system's answer, and left open; but where all is printed, so are all n frames
abbrev pub AllPrinted : Result ℕ NotWritten → ℕ → Type 0
AllPrinted (Ok k) n = k ≡ n
AllPrinted (Err why) n = Unit
