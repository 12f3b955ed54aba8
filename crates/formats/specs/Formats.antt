-- Document 01, "G.719 tables of contents" and "GSM-HR tables", and document 02, P1: what each format is, in one place. Every other definition is over these facts.
use Rattle.std.specs.Prelude.{ℕ, Bool, true, false, cond, eqb}
use Rattle.rtp.specs.Ranges.{g719, g719_interleaved, gsm_hr, amr, amr_wb}
use Rattle.formats.specs.declared.facts.Format.{Format}
use Rattle.formats.specs.declared.facts.FrameTable.{FrameTable}

-- no code: over every code of every format
abbrev pub no_code : ℕ
no_code = 32

-- G.719: a frame-block is 960 ticks; after F a code L of 5 bits and two reserved bits, then a byte that counts frame-blocks; no SID. Interleaved has
-- a displacement for each frame-block.
abbrev pub g719_format : Bool → Format
g719_format interleaved = record {
  header = 0;
  step = 960;
  unit = 4;
  codes = 32;
  counted = true;
  displaced = interleaved;
  graded = false;
  sid = no_code;
  table = FrameTable.G719;
}

-- GSM-HR: a frame is 160 ticks; after F a type of 3 bits and four reserved bits, of which type 2 is SID; an entry is one frame
abbrev pub gsm_format : Format
gsm_format = record {
  header = 0;
  step = 160;
  unit = 16;
  codes = 8;
  counted = false;
  displaced = false;
  graded = false;
  sid = 2;
  table = FrameTable.GsmHr;
}

-- Document 02, P1: the octet-aligned payload of RFC 4867. A byte with the mode request stands before the table; after F a type of 4 bits and the quality bit,
-- which a code holds together (2 × type + quality bit), and two padding bits; an entry is one frame.
abbrev pub graded_format : ℕ → ℕ → FrameTable → Format
graded_format step sidType table = record {
  header = 1;
  step = step;
  unit = 4;
  codes = 32;
  counted = false;
  displaced = false;
  graded = true;
  sid = sidType;
  table = table;
}

-- AMR: a frame is 160 ticks; type 8 is SID
abbrev pub amr_format : Format
amr_format = graded_format 160 8 FrameTable.Amr

-- AMR-WB: 320 ticks; type 9
abbrev pub amr_wb_format : Format
amr_wb_format = graded_format 320 9 FrameTable.AmrWb

-- what is no format: no code stands for a frame, so nothing is read or written with it
abbrev pub no_format : Format
no_format = record {
  header = 0;
  step = 1;
  unit = 128;
  codes = 1;
  counted = false;
  displaced = false;
  graded = false;
  sid = no_code;
  table = FrameTable.Empty;
}

-- the format of a number
unfoldable pub format_of : ℕ → Format
format_of format =
    cond (eqb format g719) (g719_format false)
    (cond (eqb format g719_interleaved) (g719_format true)
    (cond (eqb format gsm_hr) gsm_format
    (cond (eqb format amr) amr_format
    (cond (eqb format amr_wb) amr_wb_format no_format))))

-- the ticks of a frame-block
abbrev pub step_of : ℕ → ℕ
step_of format = (format_of format).step

-- the most frame-blocks that an entry can leave out before one of its own: a displacement has 4 bits
unfoldable pub max_gap : ℕ → ℕ
max_gap format = cond (format_of format).displaced 15 0
