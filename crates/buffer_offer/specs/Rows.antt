-- The rows of an area, one after another, and the copies that a packet's rows hold.
use Rattle.std.specs.Prelude.{ℕ, List, [], ◌∷◌, cond, get_or, take, drop, eqb}
use Rattle.formats.specs.Frames.{no_data}
use Rattle.read_rows.specs.Rows.{Row, row_of}
use Rattle.buffer_copies.specs.Copies.{Copy, Received}

-- the row at the front of an area
abbrev pub first_row : List ℕ → Row
first_row ws = row_of (get_or ws 0 0) (get_or ws 1 0) (get_or ws 2 0) (get_or ws 3 0)

-- the copy of a row: its frame's bytes are those of the packet
abbrev pub copy_of : List ℕ → Row → Copy
copy_of packet r = record { time = r.time; channel = r.channel; class = r.class; bytes = take r.length (drop r.start packet) }

-- with its mark
abbrev pub received_as : List ℕ → Row → Received
received_as packet r = record { copy = copy_of packet r; primary = r.primary }

-- no-data rows are passed over
unfoldable pub received_in : List ℕ → List Row → List Received
received_in packet [] = []
received_in packet (r ∷ rs) = cond (eqb r.class no_data) (received_in packet rs) (received_as packet r ∷ received_in packet rs)
