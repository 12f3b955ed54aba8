-- Frames laid into the buffer and the store: what the functions that lay them give, also where there is no such place or no room.
use Rattle.std.specs.Prelude.{ℕ, ◌*◌, ◌≡◌, ◌≤◌, ◌<◌, List, Bool, false, cond, length, get_or, take, drop, set, ltb, leb}
use Rattle.std.proofs.Math.Seq.{paste}
use Rattle.row_tags.specs.Tags.{tag_mark, tag_class, tag_channel, joined_tag}
use Rattle.buffer_copies.specs.declared.verdict.Verdict.{Verdict}
use Rattle.buffer_copies.specs.declared.verdict.Verdict.TheVariants.{Late, Far, Repeated, Better, NoRoom, Inserted}
use Rattle.buffer_copies.specs.Sizes.{slots, slot_size, store_size}
use Rattle.buffer_copies.specs.Copies.{Copy, better_frame}
use Rattle.buffer_insert.specs.declared.laying.FrameHead.{FrameHead}
use Rattle.buffer_slots.specs.Bits.{lowest_free, marked}
use Rattle.buffer_layout.specs.declared.buffer.Buffer.{Buffer}
use Rattle.buffer_layout.specs.Columns.{insert_at}

-- the class, the channel and the mark of a frame, and its copy
abbrev pub class_in : FrameHead → ℕ
class_in h = tag_class h.tag

abbrev pub channel_in : FrameHead → ℕ
channel_in h = tag_channel h.tag

abbrev pub mark_in : FrameHead → ℕ
mark_in h = tag_mark h.tag

abbrev pub copy_in : FrameHead → List ℕ → Copy
copy_in h frame = record { time = h.time; channel = channel_in h; class = class_in h; bytes = frame }

-- the verdict in numbers: its place in document 01's order
abbrev pub verdict_number : Verdict → ℕ
verdict_number Late = 1
verdict_number Far = 2
verdict_number Repeated = 3
verdict_number Better = 4
verdict_number NoRoom = 5
verdict_number Inserted = 6

-- Replacing

-- a frame of this size can replace the one held at a place: there are such a place and such a slot, both frames fit into it, and a store of so many bytes holds every slot
unfoldable pub can_replace : List ℕ → List ℕ → ℕ → ℕ → ℕ → Bool
can_replace lengths slots' at size room =
    cond (ltb at slots)
    (cond (ltb (get_or slots' at 0) slots)
    (cond (ltb slot_size (get_or lengths at 0)) false
    (cond (ltb slot_size size) false
    (leb store_size room)))
    false)
    false

-- the entry at a place, and a frame of this size, in a store of so many bytes
pub record Replaceable (lengths slots' : List ℕ) (at size room : ℕ) : Type 0 where
  pub place : at < slots
  pub slot : get_or slots' at 0 < slots
  pub held : get_or lengths at 0 ≤ slot_size
  pub short : size ≤ slot_size
  pub store : store_size ≤ room

-- the frame is better than the one held at the place
abbrev pub beats : FrameHead → List ℕ → List ℕ → List ℕ → List ℕ → ℕ → List ℕ → Bool
beats h frame tags lengths slots' at store =
    better_frame (class_in h) frame (tag_class (get_or tags at 0)) (take (get_or lengths at 0) (drop (slot_size * get_or slots' at 0) store))

pub record Replaced (h : FrameHead) (frame : List ℕ) (b b' : Buffer) (at : ℕ) (store store' : List ℕ) (v : Verdict) : Type 0 where
  pub verdict : verdict_number v ≡ verdict_number (cond (beats h frame b.tags b.lengths b.slots at store) Better Repeated)
  pub buffer : b' ≡ record b {
    tags = set b.tags at (cond (beats h frame b.tags b.lengths b.slots at store) (joined_tag h.tag (get_or b.tags at 0)) (joined_tag (get_or b.tags at 0) h.tag));
    lengths = cond (beats h frame b.tags b.lengths b.slots at store) (set b.lengths at (length frame)) b.lengths;
  }
  pub store_left : store' ≡ cond (beats h frame b.tags b.lengths b.slots at store) (paste store (slot_size * get_or b.slots at 0) frame (length frame)) store

-- where it cannot, everything stays as it stood
pub record NotReplaced (b b' : Buffer) (store store' : List ℕ) (v : Verdict) : Type 0 where
  pub verdict : verdict_number v ≡ verdict_number NoRoom
  pub buffer : b' ≡ b
  pub store_left : store' ≡ store

-- Inserting

-- a frame of this size can be inserted at a place of n entries, into a slot: there are such a slot and such a place, the frame fits, and a store of so many bytes holds every slot
unfoldable pub can_insert : ℕ → ℕ → ℕ → ℕ → ℕ → Bool
can_insert slot n at size room =
    cond (ltb slot slots)
    (cond (ltb n slots)
    (cond (ltb n at) false
    (cond (ltb slot_size size) false
    (leb store_size room)))
    false)
    false

-- a slot, a place of n entries, and a frame of this size, in a store of so many bytes
pub record Insertable (slot n at size room : ℕ) : Type 0 where
  pub slot_in : slot < slots
  pub space : n < slots
  pub place : at ≤ n
  pub short : size ≤ slot_size
  pub store : store_size ≤ room

pub record Laid (h : FrameHead) (frame : List ℕ) (b b' : Buffer) (n at : ℕ) (store store' : List ℕ) : Type 0 where
  pub buffer : b' ≡ record b {
    times = insert_at b.times n at h.time;
    tags = insert_at b.tags n at h.tag;
    lengths = insert_at b.lengths n at (length frame);
    slots = insert_at b.slots n at (lowest_free b.occupied);
    occupied = marked b.occupied (lowest_free b.occupied);
  }
  pub store_left : store' ≡ paste store (slot_size * lowest_free b.occupied) frame (length frame)

-- where it cannot, everything stays as it stood
pub record NotLaid (b b' : Buffer) (store store' : List ℕ) : Type 0 where
  pub buffer : b' ≡ b
  pub store_left : store' ≡ store
