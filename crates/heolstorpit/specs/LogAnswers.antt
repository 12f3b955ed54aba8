-- What C is answered of kept logs, in the numbers that the library's definitions give: field by field.
use Rattle.std.specs.Prelude.{ℕ}
use Rattle.log_walk.specs.declared.opening.Cursor.{Cursor}
use Rattle.log_walk.specs.Opening.{OpenOutcome}
use Rattle.log_walk.specs.Stepping.{StepOutcome}
use Rattle.log_writer.specs.FieldBytes.{Numbers}
use Rattle.c_log_answers.specs.Fields.{CStepNumbers, placeless}
use Rattle.heolstorpit.specs.declared.logs.HspLogOpened.{HspLogOpened}
use Rattle.heolstorpit.specs.declared.logs.HspLogStepped.{HspLogStepped}
use Rattle.heolstorpit.specs.declared.logs.HspLogWritten.{HspLogWritten}

-- hsp_log_opened, the cursor with it; C finds the settings in the cursor
pub record COpenOutcome : Type 0 where
  pub refusal : ℕ
  pub cursor : Cursor

abbrev pub opened_outcome : OpenOutcome → COpenOutcome
opened_outcome o = record { refusal = o.answer.refusal; cursor = o.cursor }

abbrev pub opened_answer : HspLogOpened → COpenOutcome
opened_answer r = record { refusal = r.refusal; cursor = r.cursor }

-- hsp_log_stepped, the cursor with it; the place of a fault is left out
pub record CStepOutcome : Type 0 where
  pub answer : CStepNumbers
  pub cursor : Cursor

abbrev pub stepped_outcome : StepOutcome → CStepOutcome
stepped_outcome o = record { answer = placeless o.answer; cursor = o.cursor }

abbrev pub stepped_answer : HspLogStepped → CStepOutcome
stepped_answer r = record {
  answer = record { refusal = r.refusal; end = r.end; time = r.time; channel = r.channel; class = r.frame_class; start = r.start; length = r.length };
  cursor = r.cursor;
}

-- hsp_log_written
abbrev pub log_written_answer : HspLogWritten → Numbers
log_written_answer r = record { refusal = r.refusal; length = r.length }
