-- Document 02, P3: a log written of rows: `writing` is the whole meaning of a call of `write`, refusals included.
use Rattle.std.specs.Prelude.{ℕ, List, [], ◌∷◌, ◌++◌, Bool, true, false, cond, length, ltb}
use Rattle.rtp.specs.Editions.{Edition}
use Rattle.rtp.specs.Ranges.{in_range}
use Rattle.rtp.specs.declared.settings.Settings.{Settings}
use Rattle.rtp.specs.declared.refusal.Refusal.TheVariants.{SettingsOutOfRange, RowOutsideBytes, NotAllowed}
use Rattle.read_rows.specs.Rows.{Row, frame_in}
use Rattle.write_plan.specs.Lists.{rows_in, whole, outside}
use Rattle.log_fields.specs.Fields.{frame_fits}
use Rattle.log_writer.specs.FieldBytes.{settings_bytes, frame_bytes, end_bytes, max_frames, Put, no_bytes, room_for}

-- the field of a row's frame; the mark of a row is not stored
abbrev pub row_bytes : List ℕ → Row → List ℕ
row_bytes bytes r = frame_bytes r.time r.channel r.class (frame_in bytes r)

-- the fields of the rows' frames in turn
unfoldable pub rows_bytes : List ℕ → List Row → List ℕ
rows_bytes bytes [] = []
rows_bytes bytes (r ∷ rs) = row_bytes bytes r ++ rows_bytes bytes rs

-- a whole log
unfoldable pub log_bytes : Settings → List ℕ → List Row → List ℕ
log_bytes st bytes rs = settings_bytes st ++ (rows_bytes bytes rs ++ end_bytes (length rs))

-- a row is a frame that the settings allow, not of no data
abbrev pub row_fits : Settings → Row → Bool
row_fits st r = frame_fits st r.channel r.class r.length

-- every row is
unfoldable pub all_fit : Settings → List Row → Bool
all_fit st [] = true
all_fit st (r ∷ rs) = cond (row_fits st r) (all_fit st rs) false

-- .. and the words are whole rows, not too many to be counted
unfoldable pub loggable : Settings → List ℕ → Bool
loggable st ws = cond (whole ws) (cond (ltb max_frames (length (rows_in ws))) false (all_fit st (rows_in ws))) false

-- writing the rows in ws, which point into bytes, into an area of so many bytes: the order is 11, 14, 19, 12
unfoldable pub writing : Edition → Settings → List ℕ → List ℕ → ℕ → Put
writing ed st ws bytes area =
    cond (in_range ed st)
    (cond (outside (length bytes) (rows_in ws)) (no_bytes RowOutsideBytes)
    (cond (loggable st ws) (room_for area (log_bytes st bytes (rows_in ws))) (no_bytes NotAllowed)))
    (no_bytes SettingsOutOfRange)
