-- Document 02, P3: a log is opened by its first field, which is the settings: tag 1, once.
use Rattle.std.specs.Prelude.{ℕ, List, cond, eqb, Err, Ok, Result}
use Rattle.rtp.specs.declared.refusal.Refusal.{Refusal}
use Rattle.rtp.specs.Editions.{Edition}
use Rattle.rtp.specs.Ranges.{in_range}
use Rattle.rtp.specs.Refusals.{number}
use Rattle.rtp.specs.declared.settings.Settings.{Settings}
use Rattle.rtp.specs.declared.refusal.Refusal.TheVariants.{CutField, MisplacedTag, NotAllowed}
use Rattle.log_fields.specs.declared.fields.Field.{Field}
use Rattle.log_walk.specs.declared.opening.Cursor.{Cursor}
use Rattle.log_fields.specs.Fields.{settings_tag, settings_size, first_size, field_of, settings_in}

-- a whole field with the settings' tag: its length, then its settings must be allowed
unfoldable pub settings_field : Edition → List ℕ → ℕ → Result Settings Refusal
settings_field ed s n =
    cond (eqb n settings_size) (cond (in_range ed (settings_in s)) (Ok (settings_in s)) (Err NotAllowed)) (Err NotAllowed)

-- by the first field: another tag, or none, is in the wrong place, cut or not
abbrev pub opened_by : Edition → List ℕ → Field → Result Settings Refusal
opened_by ed s Field.Stopped = Err MisplacedTag
opened_by ed s (Field.Cut tag) = cond (eqb tag settings_tag) (Err CutField) (Err MisplacedTag)
opened_by ed s (Field.Whole h) = cond (eqb h.tag settings_tag) (settings_field ed s h.length) (Err MisplacedTag)

unfoldable pub opening : Edition → List ℕ → Result Settings Refusal
opening ed s = opened_by ed s (field_of s)

-- the record after a first field (document 02: settings, place and count): the next field's place, and no frame counted yet; zeros after a refused one
abbrev pub no_settings : Settings
no_settings = record { format = 0; channels = 0; payload_type = 0; redundancy_type = 0 }

abbrev pub no_cursor : Cursor
no_cursor = record { settings = no_settings; place = 0; count = 0 }

abbrev pub opened_cursor : Result Settings Refusal → Cursor
opened_cursor (Ok st) = record { settings = st; place = first_size; count = 0 }
opened_cursor (Err r) = no_cursor

-- The answer in numbers: the refusal number or 0, and the settings, zeros on refusal
pub record OpenNumbers : Type 0 where
  pub refusal : ℕ
  pub settings : Settings

abbrev pub open_numbers : Result Settings Refusal → OpenNumbers
open_numbers (Ok st) = record { refusal = 0; settings = st }
open_numbers (Err r) = record { refusal = number r; settings = no_settings }

-- what opening answers and leaves
pub record OpenOutcome : Type 0 where
  pub answer : OpenNumbers
  pub cursor : Cursor

unfoldable pub open_call : Edition → List ℕ → OpenOutcome
open_call ed s = record { answer = open_numbers (opening ed s); cursor = opened_cursor (opening ed s) }
