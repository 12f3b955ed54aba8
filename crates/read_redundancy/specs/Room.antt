-- What the functions over the blocks of a redundancy payload ask of one another inside this crate.
use Rattle.std.specs.Prelude.{ℕ, ◌+◌, ◌*◌, ◌≤◌, ◌≡◌, List, [], true, cond, length, eqb, Err, Ok, Result}
use Rattle.rtp.specs.declared.refusal.Fault.{Fault}
use Rattle.read_headers.specs.declared.redundancy.HeaderSizes.{HeaderSizes}
use Rattle.rtp.specs.Editions.{Edition}
use Rattle.rtp.specs.Sizes.{max_packet, max_rows, row_width, row_area}
use Rattle.rtp.specs.Ranges.{in_range}
use Rattle.rtp.specs.Time.{difference}
use Rattle.rtp.specs.Faults.{shifted}
use Rattle.read_headers.specs.Redundancy.{Headers, refused, headers_of, headers, headers_answer}
use Rattle.rtp.specs.declared.settings.Settings.{Settings}
use Rattle.read_payload.specs.Payloads.{Rows, no_rows, rows_of, asked_rows, rows_answer}
use Rattle.read_redundancy.specs.Blocks.{cut, blocks_rows}

-- a block's rows as a payload of a call: the same as `typed_block_rows` where settings, area and length are in order
unfoldable pub asked_block : Edition → ℕ → Settings → ℕ → ℕ → ℕ → ℕ → ℕ → ℕ → List ℕ → Rows
asked_block ed mark st done area time type offset at s =
    cond (eqb type st.payload_type)
    (cond (eqb (length s) 0) (rows_of []) (asked_rows ed mark st done area (difference time offset) at s))
    (rows_of [])

-- the rows of the blocks whose headers are these, or stand at the front of h, and whose bytes are d, at `at`
abbrev pub headed_rows : Edition → Settings → ℕ → ℕ → ℕ → List ℕ → Headers → Rows
headed_rows ed st done time at d (refused f) = no_rows (shifted at f)
headed_rows ed st done time at d (headers_of bs type) = blocks_rows ed st done time (cut bs type at d)

unfoldable pub blocks_from : Edition → Settings → ℕ → ℕ → ℕ → List ℕ → List ℕ → Rows
blocks_from ed st done time at h d = headed_rows ed st done time at d (headers h)

-- the headers were read, and their redundant blocks lie within n bytes
abbrev pub Headed : ℕ → Result HeaderSizes Fault → Type 0
Headed n (Err r) = ⊥
Headed n (Ok z) = z.redundant ≤ n

pub record BlocksAsked (ed : Edition) (st : Settings) (done at : ℕ) (h : List ℕ) (n : ℕ) : Type 0 where
  pub settings : in_range ed st ≡ true
  pub few : done ≤ max_rows ed
  pub headed : Headed n (headers_answer (headers h))
  pub inside : at + n ≤ max_packet

-- the rows were found
abbrev pub Taken : Result ℕ Fault → Type 0
Taken (Err r) = ⊥
Taken (Ok n) = Unit {0}

pub record BlocksRoom (ed : Edition) (st : Settings) (done time at : ℕ) (h d : List ℕ) (area : ℕ) : Type 0 where
  pub asked : BlocksAsked ed st done at h (length d)
  pub taken : Taken (rows_answer (blocks_from ed st done time at h d))
  pub area_fits : row_area ed ≤ row_width * done + area
