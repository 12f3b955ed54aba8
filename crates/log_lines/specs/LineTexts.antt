-- The lines of a log in words, without the byte that ends a line. A frame's line is console_text: Lines.frame_text.
use Rattle.std.specs.Prelude.{ℕ, List, [], ◌++◌, cond, ltb, eqb}
use Rattle.rtp.specs.Ranges.{no_redundancy}
use Rattle.rtp.specs.declared.settings.Settings.{Settings}
use Rattle.log_walk.specs.declared.frames.Shown.{Shown}
use Rattle.log_reader.specs.Readers.{part_at}
use Rattle.console_text.specs.Ascii.{ascii}
use Rattle.console_text.specs.Lines.{gathered, decimal, counted, frame_text, Continued}

-- the settings

unfoldable pub format_text : ℕ → List ℕ
format_text format =
    cond (eqb format 1) (ascii "log of G.719, ")
    (cond (eqb format 2) (ascii "log of G.719 interleaved, ")
    (cond (eqb format 3) (ascii "log of GSM-HR, ")
    (cond (eqb format 4) (ascii "log of AMR, ")
    (cond (eqb format 5) (ascii "log of AMR-WB, ")
    []))))

unfoldable pub redundancy_text : ℕ → List ℕ
redundancy_text n = cond (eqb n no_redundancy) (ascii ", no redundancy") (ascii ", redundancy type " ++ decimal n)

unfoldable pub settings_text : Settings → List ℕ
settings_text st =
    format_text st.format
    ++ (counted st.channels (ascii " channel, payload type ") (ascii " channels, payload type ")
    ++ (decimal st.payload_type ++ redundancy_text st.redundancy_type))

-- a frame that a step shows: its bytes are a part of the log
unfoldable pub shown_text : Shown → List ℕ → List ℕ
shown_text f log = frame_text f.time f.channel f.class (part_at f.start f.length log)

-- the end, after so many frames
unfoldable pub end_text : ℕ → List ℕ
end_text count = ascii "end, " ++ counted count (ascii " frame") (ascii " frames")

-- a refusal, up to its reason
unfoldable pub refusal_text : ℕ → List ℕ
refusal_text number = ascii "refusal " ++ (decimal number ++ ascii ": ")

-- a fault, up to its reason; from 17 on it is of a field, and has its place in the log
unfoldable pub fault_text : ℕ → ℕ → List ℕ
fault_text number offset =
    cond (ltb number 17) (refusal_text number)
    (ascii "refusal " ++ (decimal number ++ (ascii " at byte " ++ (decimal offset ++ ascii ": "))))

-- a line begins with what it held before and this text; what follows is left open
abbrev pub Begun : List ℕ → List ℕ → List ℕ → Type 0
Begun before text after = Continued (gathered before text) after
