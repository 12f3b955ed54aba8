-- Document 01, "The take": the frames that a reorder buffer can hold under a format.
use Rattle.std.specs.Prelude.{ℕ, Bool, false, cond, ltb, eqb}
use Rattle.formats.specs.declared.facts.FrameTable.{FrameTable}
use Rattle.formats.specs.Frames.{no_data}
use Rattle.frame_codes.specs.Codes.{no_code, table_code, code_for}

-- a class other than no data, and a length, such as reading under the format can give
abbrev pub allowed : ℕ → ℕ → ℕ → Bool
allowed format class n = cond (eqb class no_data) false (ltb (code_for format class n) no_code)

-- `allowed`, by the format's frame table
abbrev pub allowed_in : FrameTable → ℕ → ℕ → Bool
allowed_in t class n = cond (eqb class no_data) false (ltb (table_code t class n) no_code)
