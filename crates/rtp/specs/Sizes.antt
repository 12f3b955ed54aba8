-- Document 01, "Sizes", and document 02, P12, of rows: each figure is named here and used by name.
use Rattle.std.specs.Prelude.{ℕ, ◌*◌}
use Rattle.rtp.specs.Editions.{Edition}

-- the shortest packet, which is the fixed header alone, and the longest
abbrev pub min_packet : ℕ
min_packet = 12

abbrev pub max_packet : ℕ
max_packet = 2048

-- the most rows of a packet
abbrev pub max_rows : Edition → ℕ
max_rows ed = ed.rows

-- the words of a row, and of an area that rows are read into
abbrev pub row_width : ℕ
row_width = 4

abbrev pub row_area : Edition → ℕ
row_area ed = row_width * max_rows ed

-- the longest frame
abbrev pub max_frame : ℕ
max_frame = 320
