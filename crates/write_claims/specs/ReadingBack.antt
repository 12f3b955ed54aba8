-- What it is to read back to a frame list.
use Rattle.std.specs.Prelude.{ℕ, ◌≡◌, List, [], ◌∷◌, true, cond, eqb}
use Rattle.rtp.specs.Editions.{Edition}
pub use Rattle.rtp.specs.Numbers.{Bytes, Words}
use Rattle.rtp.specs.declared.settings.Settings.{Settings}
use Rattle.formats.specs.Formats.{format_of}
use Rattle.row_tags.specs.Tags.{primary_mark}
use Rattle.read_rows.specs.Rows.{Row, frame_in}
use Rattle.read_payload.specs.Payloads.{no_request, rows_of, payload_rows}
use Rattle.write_plan.specs.Lists.{rows_in, first_time, whole}
use Rattle.write_claims.specs.Marks.{AllMarked}

-- a row q of the payload p is the row r of the list: the same time, class, channel, length and frame bytes; starts and marks may differ
pub record SameFrame (p bytes : List ℕ) (q r : Row) : Type 0 where
  pub time : q.time ≡ r.time
  pub class : q.class ≡ r.class
  pub channel : q.channel ≡ r.channel
  pub length : q.length ≡ r.length
  pub frame : frame_in p q ≡ frame_in bytes r

-- row by row
abbrev pub SameFrames : List ℕ → List ℕ → List Row → List Row → Type 0
SameFrames p bytes [] [] = Unit {0}
SameFrames p bytes [] (r ∷ rs) = ⊥
SameFrames p bytes (q ∷ qs) [] = ⊥
SameFrames p bytes (q ∷ qs) (r ∷ rs) = SameFrame p bytes q r × SameFrames p bytes qs rs

-- the mode request that is read where this one was written: itself, and none in a format without one
unfoldable pub read_request : ℕ → ℕ → ℕ
read_request format request = cond (eqb (format_of format).header 0) no_request request

-- p is a plain payload that reads to the frame list in the words ws, every row with the mark of what was heard first-hand
pub record ReadsTo (ed : Edition) (st : Settings) (p bytes ws : List ℕ) : Type 0 where
  pub whole_rows : whole ws ≡ true
  pub rows : List Row
  pub read : payload_rows ed primary_mark st.format st.channels 0 (first_time (rows_in ws)) 0 p ≡ rows_of rows
  pub same : SameFrames p bytes rows (rows_in ws)
  pub heard : AllMarked primary_mark rows
