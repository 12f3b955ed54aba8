-- The reorder buffer (document 01: the take) as the code lays it out, and the model that it stands for, by `encode` and `decode`.
use Rattle.std.specs.Prelude.{ℕ, zero, suc, List, [], ◌∷◌, map, Bool, cond, ◌&&◌, ◌||◌, get_or, drop, replicate, eqb}
use Rattle.rtp.specs.declared.settings.Settings.{Settings}
use Rattle.row_tags.specs.Tags.{tag_of, tag_mark, tag_class, tag_channel}
use Rattle.buffer_copies.specs.Sizes.{slots}
use Rattle.buffer_copies.specs.Entries.{Entry, Held}
use Rattle.buffer_layout.specs.declared.buffer.Buffer.{Buffer}
use Rattle.buffer_layout.specs.declared.buffer.Fixed.{Fixed}
use Rattle.buffer_slots.specs.Bits.{held_in, words_of, same_words}
use Rattle.buffer_layout.specs.Columns.{zeros}
use Rattle.buffer_layout.specs.Model.{Model}

-- an entry's mark, class and channel in one word, as in a row
abbrev pub entry_tag : Entry → ℕ
entry_tag e = tag_of e.primary e.class e.channel

-- a list as a column of n places, the unused ones zero
unfoldable pub pad_to : ℕ → List ℕ → List ℕ
pad_to zero xs = []
pad_to (suc n) [] = 0 ∷ pad_to n []
pad_to (suc n) (x ∷ xs) = x ∷ pad_to n xs

abbrev pub column : (Entry → ℕ) → List Entry → List ℕ
column f es = pad_to slots (map f es)

abbrev pub flag_of : Bool → ℕ
flag_of drawn = cond drawn 1 0

-- the buffer of a model: entries in time order, unused ones zero, and the marks of their slots
abbrev pub encode : Settings → Held → Buffer
encode st h = record {
  times = column (λ e. e.time) h.entries;
  tags = column entry_tag h.entries;
  lengths = column (λ e. e.length) h.entries;
  slots = column (λ e. e.slot) h.entries;
  occupied = words_of (map (λ e. e.slot) h.entries);
  last_time = h.last_time;
  last_channel = h.last_channel;
  drawn = flag_of h.drawn;
  settings = st;
}

-- the entry at a place
abbrev pub entry_at : Buffer → ℕ → Entry
entry_at b i = record {
  time = get_or b.times i 0;
  channel = tag_channel (get_or b.tags i 0);
  class = tag_class (get_or b.tags i 0);
  length = get_or b.lengths i 0;
  slot = get_or b.slots i 0;
  primary = tag_mark (get_or b.tags i 0);
}

unfoldable pub entries_from : Buffer → ℕ → ℕ → List Entry
entries_from b zero i = []
entries_from b (suc k) i = entry_at b i ∷ entries_from b k (suc i)

-- the model of a buffer: as many entries as slots are marked
abbrev pub decode : Buffer → Held
decode b = record { entries = entries_from b (held_in b.occupied) 0; drawn = eqb b.drawn 1; last_time = b.last_time; last_channel = b.last_channel }

abbrev pub model : Buffer → Model
model b = record { settings = b.settings; held = decode b }

-- The test of the layout

-- a pair was drawn, or not
abbrev pub is_flag : ℕ → Bool
is_flag n = eqb n 0 || eqb n 1

-- unused entries, those from the n-th on, are zero
abbrev pub unused_zero : List ℕ → List ℕ → List ℕ → List ℕ → ℕ → Bool
unused_zero times tags lengths slots' n = zeros (drop n times) && zeros (drop n tags) && zeros (drop n lengths) && zeros (drop n slots')

-- exactly the entries' slots are marked
abbrev pub marks_kept : Buffer → Bool
marks_kept b = same_words (words_of (map (λ e. e.slot) (decode b).entries)) b.occupied

abbrev pub laid_out : Buffer → Bool
laid_out b = is_flag b.drawn && unused_zero b.times b.tags b.lengths b.slots (held_in b.occupied) && marks_kept b

-- no entry, no slot marked, no pair drawn
abbrev pub fresh : Settings → Buffer
fresh st = record {
  times = replicate slots 0;
  tags = replicate slots 0;
  lengths = replicate slots 0;
  slots = replicate slots 0;
  occupied = replicate 3 0;
  last_time = 0;
  last_channel = 0;
  drawn = 0;
  settings = st;
}

-- the buffer of its parts, as the code tests them
abbrev pub assembled : List ℕ → List ℕ → List ℕ → List ℕ → List ℕ → Fixed → Buffer
assembled times tags lengths slots' occupied f = record {
  times = times;
  tags = tags;
  lengths = lengths;
  slots = slots';
  occupied = occupied;
  last_time = f.last_time;
  last_channel = f.last_channel;
  drawn = f.drawn;
  settings = f.settings;
}
