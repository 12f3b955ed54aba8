-- Document 02, P12: logs and readers of different editions.
use Rattle.std.specs.Prelude.{ℕ, ◌<◌, ◌≤◌, ◌≡◌, List, true, Err, Ok}
use Rattle.rtp.specs.Editions.{Edition, first_edition, current}
use Rattle.rtp.specs.Ranges.{most_channels, in_range}
use Rattle.rtp.specs.Refusals.{number}
use Rattle.rtp.specs.Faults.{fault}
use Rattle.rtp.specs.Numbers.{Words}
use Rattle.rtp.specs.declared.settings.Settings.{Settings}
use Rattle.rtp.specs.declared.refusal.Refusal.TheVariants.{NotAllowed, SettingsOutOfRange}
use Rattle.log_walk.specs.declared.opening.Cursor.{Cursor}
use Rattle.log_walk.specs.Opening.{opening, opened_cursor}
use Rattle.log_walk.specs.Stepping.{step}
use Rattle.log_writer.specs.FieldBytes.{bytes_of}
use Rattle.log_writer.specs.Writings.{writing}
use Rattle.log_claims.specs.Logs.{unopened, read_log}

-- Old logs read as before: what a reader opens, one that has as many channels or more opens and reads alike, in one go and step by step
abbrev pub OpensAlike : Type 0
OpensAlike = (a b : Edition) → most_channels a ≤ most_channels b → (log : List ℕ) (st : Settings) → opening a log ≡ Ok st
    → (opening b log ≡ opening a log) × (read_log b log ≡ read_log a log)

abbrev pub StepsAlike : Type 0
StepsAlike = (a b : Edition) → most_channels a ≤ most_channels b → (log : List ℕ) (c : Cursor) → in_range a c.settings ≡ true → step b c log ≡ step a c log

-- A log of more channels than a reader has, which some other opens: the reader refuses its first field with 19, and so the whole log, and the record that
-- it leaves shows nothing
abbrev pub RefusesMore : Type 0
RefusesMore = (a b : Edition) (log : List ℕ) (st : Settings) → opening b log ≡ Ok st → most_channels a < st.channels
    → (opening a log ≡ Err NotAllowed) × (read_log a log ≡ unopened (number NotAllowed))
    × (step a (opened_cursor (opening a log)) log ≡ Err (fault SettingsOutOfRange))

-- .. nor does any record of so many channels that it is handed (one of fewer channels, made by hand, is the caller's own)
abbrev pub ShowsNone : Type 0
ShowsNone = (a : Edition) (log : List ℕ) (c : Cursor) → most_channels a < c.settings.channels → step a c log ≡ Err (fault SettingsOutOfRange)

-- so it refuses every log of so many channels that another edition writes; the first edition's reader has two
abbrev pub RefusesWritten : Type 0
RefusesWritten = (a b : Edition) (st : Settings) (ws bytes : List ℕ) (area : ℕ) (p : List ℕ) → Words ws → writing b st ws bytes area ≡ bytes_of p
    → most_channels a < st.channels → read_log a p ≡ unopened 19

abbrev pub FirstRefuses : Type 0
FirstRefuses = (st : Settings) (ws bytes : List ℕ) (area : ℕ) (p : List ℕ) → Words ws → writing current st ws bytes area ≡ bytes_of p → 2 < st.channels
    → read_log first_edition p ≡ unopened 19
