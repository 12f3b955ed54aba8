-- A writer's answer in numbers, and the payload of a list measured.
use Rattle.std.specs.Prelude.{ℕ, List, cond, Err, Ok, Result}
use Rattle.rtp.specs.Editions.{Edition}
use Rattle.rtp.specs.Ranges.{in_range}
use Rattle.rtp.specs.Refusals.{number}
use Rattle.rtp.specs.declared.settings.Settings.{Settings}
use Rattle.rtp.specs.declared.refusal.Refusal.{Refusal}
use Rattle.rtp.specs.declared.refusal.Refusal.TheVariants.{SettingsOutOfRange, Unwritable}
use Rattle.read_contents.specs.Contents.{Contents, refused, groups}
use Rattle.write_plan.specs.Lists.{rows_in, whole}
use Rattle.write_plan.specs.Plans.{payload_size, plan}

-- The answer in numbers: the refusal number or 0, and the byte count, 0 on refusal
pub record Numbers : Type 0 where
  pub refusal : ℕ
  pub count : ℕ

-- of the code's answer, case by case
abbrev pub written_numbers : Result ℕ Refusal → Numbers
written_numbers (Err r) = record { refusal = number r; count = 0 }
written_numbers (Ok n) = record { refusal = 0; count = n }

-- Measuring: the byte count of a list's payload, whatever its mode request, or why it has none. Whether the rows lie inside the bytes that they point into
-- is not asked.

abbrev pub refused_numbers : Refusal → Numbers
refused_numbers r = record { refusal = number r; count = 0 }

abbrev pub planned_numbers : ℕ → ℕ → Contents → Numbers
planned_numbers format ch (refused f) = refused_numbers f.refusal
planned_numbers format ch (groups gs) = record { refusal = 0; count = payload_size format ch gs }

unfoldable pub measured : Edition → Settings → List ℕ → Numbers
measured ed st ws =
    cond (in_range ed st)
    (cond (whole ws) (planned_numbers st.format st.channels (plan ed st.format st.channels (rows_in ws))) (refused_numbers Unwritable))
    (refused_numbers SettingsOutOfRange)
