-- The table of contents that a frame list is written with: one entry for each longest run of frame-blocks of equal length (GSM-HR: one
-- entry a frame), two where it is longer than an entry can count, or none. A plan is a table as reading has it: a list of groups.
use Rattle.std.specs.Prelude.{ℕ, ◌+◌, ◌-◌, ◌/◌, ◌%◌, List, [], ◌∷◌, Bool, false, cond, length, get_or, ltb, leb, eqb}
use Rattle.rtp.specs.Editions.{Edition}
use Rattle.rtp.specs.Sizes.{max_rows, min_packet, max_packet}
use Rattle.rtp.specs.Time.{difference}
use Rattle.rtp.specs.Faults.{fault}
use Rattle.rtp.specs.declared.refusal.Fault.{Fault}
use Rattle.rtp.specs.declared.refusal.Refusal.TheVariants.{Unwritable}
use Rattle.formats.specs.Formats.{format_of, step_of, max_gap}
use Rattle.read_contents.specs.Contents.{Group, Contents, refused, groups, size_in, frames_in}
use Rattle.read_rows.specs.Rows.{Row}
use Rattle.frame_codes.specs.Codes.{no_code, code_for}
use Rattle.write_plan.specs.Entries.{in_entries}

-- the longest payload that is written alone: what a packet has room for after its header
abbrev pub max_payload : ℕ
max_payload = max_packet - min_packet

-- no table: writing has no place at fault
abbrev pub unwritable : Fault
unwritable = fault Unwritable

-- the ticks from the place after a frame-block's time to another time, modulo 2^32
abbrev pub ticks_after : ℕ → ℕ → ℕ → ℕ
ticks_after step previous time = difference (difference time step) previous

-- the frame-blocks left out between a frame-block and the next
abbrev pub gap_between : ℕ → ℕ → ℕ → ℕ
gap_between step previous time = ticks_after step previous time / step

-- the channel after c of a frame-block of so many channels: the first of the next one after the last
abbrev pub next_channel : ℕ → ℕ → ℕ
next_channel ch c = cond (eqb (c + 1) ch) 0 (c + 1)

-- a frame-block may start with this row after a frame-block at `previous`: the format has its class and length, and it stands a whole number of steps on
abbrev pub starts : ℕ → ℕ → Row → Bool
starts format previous r =
    cond (ltb (code_for format r.class r.length) no_code) (eqb (ticks_after (step_of format) previous r.time % step_of format) 0) false

-- a row goes on with the frame-block of the row before it: the same time, class and length
abbrev pub continues : Row → Row → Bool
continues p r = cond (eqb r.time p.time) (cond (eqb r.class p.class) (eqb r.length p.length) false) false

-- a row that stands at channel c, after the row p
abbrev pub follows : ℕ → ℕ → Row → Row → Bool
follows format c p r = cond (eqb r.channel c) (cond (eqb c 0) (starts format p.time r) (continues p r)) false

abbrev pub head_gap : Group → ℕ
head_gap g = get_or g.gaps 0 0

-- one frame-block by itself, so many frame-blocks after the one before
abbrev pub single : Row → ℕ → Group
single r gap = record { class = r.class; length = r.length; gaps = gap ∷ [] }

-- a frame-block and the run after it, of this class and length and after this gap, make one run: an entry counts frame-blocks, they are of equal class
-- and length, and no further apart than an entry can say
abbrev pub joins_run : ℕ → Row → ℕ → ℕ → ℕ → Bool
joins_run format r class n gap =
    cond (format_of format).counted (cond (eqb r.class class) (cond (eqb r.length n) (leb gap (max_gap format)) false) false) false

abbrev pub joins : ℕ → Row → Group → Bool
joins format r g = joins_run format r g.class g.length (head_gap g)

-- a frame-block before a table: it joins the first run, or is a run of its own, which the next run follows no further apart than an entry can say: directly,
-- where entries have no displacements (document 02, P5: a later entry's DIS1 says the gap)
abbrev pub attach : ℕ → Row → ℕ → Contents → Contents
attach format r gap (refused q) = refused q
attach format r gap (groups []) = groups (single r gap ∷ [])
attach format r gap (groups (g ∷ gs)) =
    cond (joins format r g) (groups (record { class = g.class; length = g.length; gaps = gap ∷ g.gaps } ∷ gs))
    (cond (leb (head_gap g) (max_gap format)) (groups (single r gap ∷ g ∷ gs)) (refused unwritable))

-- the runs of the rows from channel c on, after the row p
unfoldable pub plan_from : ℕ → ℕ → ℕ → Row → List Row → Contents
plan_from format ch c p [] = cond (eqb c 0) (groups []) (refused unwritable)
plan_from format ch c p (r ∷ rs) =
    cond (follows format c p r)
    (cond (eqb c 0) (attach format r (gap_between (step_of format) p.time r.time) (plan_from format ch (next_channel ch c) r rs)) (plan_from format ch (next_channel ch c) r rs))
    (refused unwritable)

-- a row one step before the first of a list, which the list's first frame-block follows directly
abbrev pub step_before : ℕ → Row → Row
step_before format r = record { time = difference r.time (step_of format); class = r.class; channel = r.channel; start = r.start; length = r.length; primary = r.primary }

-- the bytes of a payload with this table: those before it, its own and those of its frames
abbrev pub payload_size : ℕ → ℕ → List Group → ℕ
payload_size format ch gs = (format_of format).header + size_in format gs + frames_in ch gs

-- a table whose payload is within the longest
abbrev pub fitting : ℕ → ℕ → Contents → Contents
fitting format ch (refused q) = refused q
fitting format ch (groups gs) = cond (ltb max_payload (payload_size format ch gs)) (refused unwritable) (groups gs)

-- the plan of a whole list: an empty one has none, nor has one of too many rows
unfoldable pub plan : Edition → ℕ → ℕ → List Row → Contents
plan ed format ch [] = refused unwritable
plan ed format ch (r ∷ rs) =
    cond (ltb (max_rows ed) (length (r ∷ rs))) (refused unwritable)
    (fitting format ch (in_entries (plan_from format ch 0 (step_before format r) (r ∷ rs))))
