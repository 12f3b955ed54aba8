-- Well-formedness as the code asks it: of numbers and columns, and in one pass over the entries.
use Rattle.std.specs.Prelude.{ℕ, ◌+◌, ◌*◌, List, [], ◌∷◌, Bool, true, false, cond, ◌&&◌, get_or, ltb, eqb}
use Rattle.std.proofs.Math.Option.{Option, none, some}
use Rattle.frame_codes.specs.Allowed.{allowed}
use Rattle.row_tags.specs.Tags.{tag_class, tag_channel}
use Rattle.buffer_copies.specs.Pairs.{half, ahead, order, is_after}
use Rattle.buffer_copies.specs.Entries.{Entry}
use Rattle.buffer_layout.specs.declared.buffer.Buffer.{Buffer}
use Rattle.buffer_layout.specs.declared.buffer.Fixed.{Fixed}
use Rattle.buffer_slots.specs.Bits.{marked, is_free, same_words}
use Rattle.buffer_layout.specs.Layout.{is_flag, entries_from, assembled}
use Rattle.buffer_layout.specs.Model.{last_fine}

-- the flag and the last pair
abbrev pub last_kept : Fixed → Bool
last_kept f = is_flag f.drawn && last_fine f.settings (eqb f.drawn 1) f.last_time f.last_channel

-- an entry's class, length and channel, of its tag and length
abbrev pub class_fine : Fixed → ℕ → ℕ → Bool
class_fine f g n = allowed f.settings.format (tag_class g) n && ltb (tag_channel g) f.settings.channels

-- a pair as a number, from a time on: of the last pair drawn, or of the first entry; the least that the first entry may have
abbrev pub base_of : Fixed → ℕ → ℕ
base_of f first = cond (eqb f.drawn 0) first f.last_time

abbrev pub start_of : Fixed → ℕ
start_of f = cond (eqb f.drawn 0) 0 (f.last_channel + 1)

abbrev pub position_of : ℕ → ℕ → ℕ → ℕ
position_of base t c = 256 * ahead t base + c

-- after the last pair drawn, if any
abbrev pub since_last : Buffer → Entry → Bool
since_last b e = cond (eqb b.drawn 0) true (is_after (order e.time e.channel b.last_time b.last_channel))

-- after the entry before it, if any
abbrev pub ascends : Option Entry → Entry → Bool
ascends none e = true
ascends (some p) e = is_after (order e.time e.channel p.time p.channel)

-- one entry, its slot aside
abbrev pub passes : Buffer → ℕ → Option Entry → Entry → Bool
passes b first p e =
    cond (allowed b.settings.format e.class e.length)
    (cond (ltb e.channel b.settings.channels)
    (cond (since_last b e) (cond (ltb (ahead e.time first) half) (ascends p e) false) false) false) false

-- the entries from one on: each in a slot of its own, and at the end exactly the slots seen are marked
unfoldable pub all_pass : Buffer → ℕ → Option Entry → List ℕ → List Entry → Bool
all_pass b first p seen [] = same_words seen b.occupied
all_pass b first p seen (e ∷ es) =
    cond (passes b first p e) (cond (is_free seen e.slot) (all_pass b first (some e) (marked seen e.slot) es) false) false

-- of all entries
abbrev pub entries_pass : List ℕ → List ℕ → List ℕ → List ℕ → List ℕ → Fixed → ℕ → Bool
entries_pass times tags lengths slots occupied f n =
    all_pass (assembled times tags lengths slots occupied f) (get_or times 0 0) none (0 ∷ 0 ∷ 0 ∷ [])
    (entries_from (assembled times tags lengths slots occupied f) n 0)
