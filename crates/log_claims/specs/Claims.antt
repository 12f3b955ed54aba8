-- Document 02, P3: claims about kept logs.
use Rattle.std.specs.Prelude.{ℕ, zero, suc, ◌+◌, ◌^◌, ◌<◌, ◌≤◌, ◌≡◌, List, [], ◌∷◌, ◌++◌, true, false, length, take, drop, Err, None, Ok, Option, Result, Some}
use Rattle.rtp.specs.declared.refusal.Refusal.{Refusal}
use Rattle.rtp.specs.Editions.{Edition}
use Rattle.rtp.specs.Sizes.{max_frame}
use Rattle.rtp.specs.Ranges.{in_range}
use Rattle.rtp.specs.Refusals.{number}
use Rattle.rtp.specs.declared.refusal.Fault.{Fault}
use Rattle.rtp.specs.declared.refusal.Refusal.TheVariants.{NotAllowed}
use Rattle.rtp.specs.declared.settings.Settings.{Settings}
use Rattle.read_rows.specs.Rows.{Row, frame_in}
use Rattle.write_plan.specs.Lists.{rows_in, outside}
use Rattle.rtp.specs.Numbers.{Words}
use Rattle.log_fields.specs.Fields.{head_size, frame_head}
use Rattle.log_walk.specs.declared.frames.Shown.{Shown}
use Rattle.log_walk.specs.declared.opening.Cursor.{Cursor}
use Rattle.log_walk.specs.Opening.{opening, opened_cursor}
use Rattle.log_walk.specs.Stepping.{step, cursor_fits, cursor_after}
use Rattle.log_reader.specs.Readers.{part_at}
use Rattle.log_writer.specs.FieldBytes.{settings_bytes, frame_bytes, end_bytes, no_bytes, bytes_of, settings_put, frame_put, end_put}
use Rattle.log_writer.specs.Writings.{writing}
use Rattle.write_claims.specs.Marks.{cleared, BitAbove}
use Rattle.log_claims.specs.Logs.{Frame, Read, ends, shows, Log, unopened, opened, read_log}

-- Reading is exact: opening a log and stepping through it, as long as a step shows a frame, gives what the log means

-- a frame as a part of the log
abbrev pub part_of : List ℕ → Shown → Frame
part_of log f = record { time = f.time; channel = f.channel; class = f.class; bytes = take f.length (drop f.start log) }

-- what a step's answer comes to, where `go` steps on
abbrev pub stepped : (Cursor → Read) → List ℕ → Cursor → Result (Option Shown) Fault → Read
stepped go log c (Ok (Some f)) = shows (part_of log f) (go (cursor_after c (Ok (Some f))))
stepped go log c (Ok None) = ends 0
stepped go log c (Err f) = ends (number f.refusal)

-- at most so many steps
unfoldable pub steps_by : Edition → ℕ → List ℕ → Cursor → Read
steps_by ed zero log c = ends 0
steps_by ed (suc k) log c = stepped (λ d. steps_by ed k log d) log c (step ed c log)

-- opened, and stepped through: a step reads a byte at least, so the log's length is steps enough
abbrev pub walked : Edition → List ℕ → Result Settings Refusal → Log
walked ed log (Err r) = unopened (number r)
walked ed log (Ok st) = opened st (steps_by ed (suc (length log)) log (opened_cursor (Ok st)))

abbrev pub ReadingIsExact : Edition → Type 0
ReadingIsExact ed = (log : List ℕ) → walked ed log (opening ed log) ≡ read_log ed log

-- No step leaves the log: what is shown lies inside it, behind the record's place, and the record stays fit for the next step
abbrev pub StepsStayInside : Edition → Type 0
StepsStayInside ed = (log : List ℕ) (c : Cursor) (f : Shown) → step ed c log ≡ Ok (Some f)
    → (c.place < f.start) × (f.start + f.length ≤ length log) × (c.count + 1 ≤ f.start + f.length)
    × (in_range ed c.settings ≡ true) × (cursor_fits (cursor_after c (Ok (Some f))) (length log) ≡ true)

-- nor does the place of a field at fault
abbrev pub FaultsStayInside : Edition → Type 0
FaultsStayInside ed = (log : List ℕ) (c : Cursor) (g : Fault) → step ed c log ≡ Err g → g.offset ≤ length log

-- the part of the log that a `LogReader` gives (log_reader: `frame`) is the frame that is shown
abbrev pub FrameIsShown : Edition → Type 0
FrameIsShown ed = (log : List ℕ) (c : Cursor) (f : Shown) → step ed c log ≡ Ok (Some f) → part_at f.start f.length log ≡ (part_of log f).bytes

-- A written log reads back to the same settings and frames, in turn, and then the end

-- the frame of a row
abbrev pub row_frame : List ℕ → Row → Frame
row_frame bytes r = record { time = r.time; channel = r.channel; class = r.class; bytes = frame_in bytes r }

unfoldable pub row_frames : List ℕ → List Row → List Frame
row_frames bytes [] = []
row_frames bytes (r ∷ rs) = row_frame bytes r ∷ row_frames bytes rs

abbrev pub RoundTrip : Edition → Type 0
RoundTrip ed = (st : Settings) (ws bytes : List ℕ) (area : ℕ) (p : List ℕ) → Words ws
    → writing ed st ws bytes area ≡ bytes_of p
    → read_log ed p ≡ opened st (record { frames = row_frames bytes (rows_in ws); ending = 0 })

-- A log written piece by piece, by the three field writers, each into whatever area, is the log that is written at once

-- the fields of frames, each accepted; a time has four bytes
pub data FramePieces (ed : Edition) (st : Settings) : List Frame → List ℕ → Type 0 where
  none : FramePieces ed st [] []
  more : (f : Frame) (fs : List Frame) (p m : List ℕ) (area : ℕ) → f.time < 2 ^ 32 → frame_put ed st f.time f.channel f.class f.bytes area ≡ bytes_of p
      → FramePieces ed st fs m → FramePieces ed st (f ∷ fs) (p ++ m)

abbrev pub PiecesAreTheLog : Edition → Type 0
PiecesAreTheLog ed = (st : Settings) (ws bytes : List ℕ) (area a b : ℕ) (w p m q : List ℕ)
    → writing ed st ws bytes area ≡ bytes_of w
    → settings_put ed st a ≡ bytes_of p → FramePieces ed st (row_frames bytes (rows_in ws)) m → end_put (length (rows_in ws)) b ≡ bytes_of q
    → w ≡ p ++ (m ++ q)

-- .. each piece is accepted in any area of the longest field's size, a frame's

abbrev pub longest_field : ℕ
longest_field = head_size + (frame_head + max_frame)

abbrev pub AllPut : Edition → Settings → ℕ → List Frame → Type 0
AllPut ed st small [] = Unit {0}
AllPut ed st small (f ∷ fs) =
    (frame_put ed st f.time f.channel f.class f.bytes small ≡ bytes_of (frame_bytes f.time f.channel f.class f.bytes)) × AllPut ed st small fs

abbrev pub PiecesAreAccepted : Edition → Type 0
PiecesAreAccepted ed = (st : Settings) (ws bytes : List ℕ) (area small : ℕ) (w : List ℕ)
    → writing ed st ws bytes area ≡ bytes_of w → longest_field ≤ small
    → (settings_put ed st small ≡ bytes_of (settings_bytes st)) × AllPut ed st small (row_frames bytes (rows_in ws))
    × (end_put (length (rows_in ws)) small ≡ bytes_of (end_bytes (length (rows_in ws))))

-- .. and pieces that were each accepted read back to their settings and frames, with as many frames at the end as there were
abbrev pub PiecesReadBack : Edition → Type 0
PiecesReadBack ed = (st : Settings) (fs : List Frame) (a b : ℕ) (p m q : List ℕ)
    → settings_put ed st a ≡ bytes_of p → FramePieces ed st fs m → end_put (length fs) b ≡ bytes_of q
    → read_log ed (p ++ (m ++ q)) ≡ opened st (record { frames = fs; ending = 0 })

-- Marks that are ignored

-- whether rows are given as heard first-hand makes no difference (document 02, P6): words are written as the same with bit 16 of each row's second word
-- cleared are
abbrev pub MarkIgnored : Edition → Type 0
MarkIgnored ed = (st : Settings) (ws bytes : List ℕ) (area : ℕ) → writing ed st (cleared ws) bytes area ≡ writing ed st ws bytes area

-- that one bit alone is: with a bit above it a row is of no class, and its list is 19
abbrev pub BitAboveRefused : Edition → Type 0
BitAboveRefused ed = (st : Settings) (ws bytes : List ℕ) (area : ℕ) → in_range ed st ≡ true → outside (length bytes) (rows_in ws) ≡ false
    → BitAbove ws → writing ed st ws bytes area ≡ no_bytes NotAllowed
