-- The fields that C is answered of kept logs, in the numbers that the library's definitions give: field by field.
use Rattle.std.specs.Prelude.{ℕ}
use Rattle.log_walk.specs.Stepping.{StepNumbers}
use Rattle.log_writer.specs.FieldBytes.{Numbers}
use Rattle.c_log_answers.specs.declared.log_answers.SteppedFields.{SteppedFields}
use Rattle.c_log_answers.specs.declared.log_answers.LogWrittenFields.{LogWrittenFields}

-- a step's numbers without the place of a fault, which C is not answered
pub record CStepNumbers : Type 0 where
  pub refusal : ℕ
  pub end : ℕ
  pub time : ℕ
  pub channel : ℕ
  pub class : ℕ
  pub start : ℕ
  pub length : ℕ

abbrev pub placeless : StepNumbers → CStepNumbers
placeless n = record { refusal = n.refusal; end = n.end; time = n.time; channel = n.channel; class = n.class; start = n.start; length = n.length }

-- of hsp_log_stepped
abbrev pub stepped_fields : SteppedFields → CStepNumbers
stepped_fields r = record { refusal = r.refusal; end = r.end; time = r.time; channel = r.channel; class = r.frame_class; start = r.start; length = r.length }

-- of hsp_log_written
abbrev pub log_written_fields : LogWrittenFields → Numbers
log_written_fields r = record { refusal = r.refusal; length = r.length }
