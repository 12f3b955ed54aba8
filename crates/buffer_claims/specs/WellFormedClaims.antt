-- Document 01, "A sound take" (our word: well-formed buffer): clause by clause, as plain facts of the buffer and of the entries that it holds. And that such a buffer
-- and what it holds are one thing, so that what leaves the one leaves the other.
use Prim.Native.Nat.{Ordering}
use Rattle.std.specs.Prelude.{ℕ, ◌^◌, ◌≤◌, ◌<◌, ◌≡◌, ◌↔◌, ◌⊎◌, true, get_or}
use mathlib.Core.List.{List, [], ◌∷◌, map, Memᴰ}
use Rattle.rtp.specs.Editions.{Edition}
use Rattle.rtp.specs.Ranges.{in_range}
use Rattle.rtp.specs.declared.settings.Settings.{Settings}
use Rattle.formats.specs.Formats.{format_of}
use Rattle.row_tags.specs.Tags.{redundant_mark}
use Rattle.formats.specs.Frames.{frame, frame_of, FrameClass}
use Rattle.buffer_copies.specs.Sizes.{slots}
use Rattle.buffer_copies.specs.Pairs.{half, ahead, order}
use Rattle.buffer_copies.specs.Entries.{Entry, Held, remarked, side_of_entry}
use Rattle.buffer_layout.specs.declared.buffer.Buffer.{Buffer}
use Rattle.buffer_slots.specs.Bits.{mark_of, held_in}
use Rattle.buffer_layout.specs.Arrays.{Machine}
use Rattle.buffer_layout.specs.Layout.{encode, decode}
use Rattle.buffer_layout.specs.Model.{fine}
use Rattle.buffer_layout.specs.WellFormed.{well_formed}
use Rattle.buffer_offer.specs.Calls.{OfferOutcome, offer_call}
use Rattle.buffer_draw.specs.Calls.{no_frame, DrawOutcome, draw_call}

-- what the type of the struct says of its arrays and words
pub record Typed (b : Buffer) : Type 0 where
  pub machine : Machine b
  pub marks : (i : ℕ) → get_or b.occupied i 0 < 2 ^ 64

-- The facts

-- each after the one before, wrap-aware
abbrev pub AscendingEntries : List Entry → Type 0
AscendingEntries [] = Unit {0}
AscendingEntries (e ∷ []) = Unit {0}
AscendingEntries (e ∷ f ∷ es) = (side_of_entry f e ≡ Ordering.gt) × AscendingEntries (f ∷ es)

-- the times lie within a stretch under 2^31 ticks: from some time all are at most 2^31 - 1 ahead
pub record EntriesWithinStretch (es : List Entry) : Type 0 where
  pub base : ℕ
  pub word : base < 2 ^ 32
  pub within : (e : Entry) → Memᴰ e es → ahead e.time base < half

-- no two have one slot
abbrev pub SlotsDistinct : List Entry → Type 0
SlotsDistinct [] = Unit {0}
SlotsDistinct (e ∷ es) = ((f : Entry) → Memᴰ f es → e.slot ≡ f.slot → ⊥) × SlotsDistinct es

-- an entry has this slot
abbrev pub HasSlot : List Entry → ℕ → Type 0
HasSlot es s = (e : Entry) × Memᴰ e es × (e.slot ≡ s)

-- the class of a frame (1, 2, 5 or 6) and the length: what a code of the format's frame table stands for
pub record FrameAllowed (format class n : ℕ) : Type 0 where
  pub classes : FrameClass class
  pub code : ℕ
  pub in_table : code < (format_of format).codes
  pub stands : frame_of format code ≡ frame class n

-- the entries held: as many as slots are marked, from the front of the columns
abbrev pub entries_held : Buffer → List Entry
entries_held b = (decode b).entries

pub record WellFormedFacts (b : Buffer) : Type 0 where
  -- entries strictly ascending, their times within a stretch under 2^31 ticks
  pub ascending : AscendingEntries (entries_held b)
  pub stretch : EntriesWithinStretch (entries_held b)
  -- slots distinct, each one of the 192, and exactly those marked
  pub distinct : SlotsDistinct (entries_held b)
  pub slots_in : (e : Entry) → Memᴰ e (entries_held b) → e.slot < slots
  pub marked : (s : ℕ) → s < slots → mark_of b.occupied s ≡ 1 ↔ HasSlot (entries_held b) s
  -- classes and lengths as the format allows
  pub frames : (e : Entry) → Memᴰ e (entries_held b) → FrameAllowed b.settings.format e.class e.length
  -- channels in range, the last pair's too
  pub channels : (e : Entry) → Memᴰ e (entries_held b) → e.channel < b.settings.channels
  -- a mark of 0 or 1 in each tag: what is not 65,536 × mark + 256 × class + channel has no class that the format allows
  pub marks : (e : Entry) → Memᴰ e (entries_held b) → e.primary < 2
  pub last_channel_lem : b.drawn ≡ 1 → b.last_channel < b.settings.channels
  -- unused entries zero
  pub unused : (i : ℕ) → held_in b.occupied ≤ i → i < slots
      → (get_or b.times i 0 ≡ 0) × (get_or b.tags i 0 ≡ 0) × (get_or b.lengths i 0 ≡ 0) × (get_or b.slots i 0 ≡ 0)
  -- all after the last pair drawn; no pair drawn yet is kept as zeros
  pub after_last : b.drawn ≡ 1 → (e : Entry) → Memᴰ e (entries_held b) → order e.time e.channel b.last_time b.last_channel ≡ Ordering.gt
  pub no_last : b.drawn ≡ 0 → (b.last_time ≡ 0) × (b.last_channel ≡ 0)
  -- a pair was drawn, or not
  pub flag : (b.drawn ≡ 0) ⊎ (b.drawn ≡ 1)

-- the test that the calls make is these facts
abbrev pub WellFormedExactly : Type 0
WellFormedExactly = (b : Buffer) → Typed b → well_formed b ≡ true ↔ WellFormedFacts b

-- Buffer and model

-- decode and encode undo each other: on well-formed buffers, and on well-formed models
pub record UndoEachOther (ed : Edition) : Type 0 where
  pub encode_decode : (b : Buffer) → Machine b → well_formed b ≡ true → encode b.settings (decode b) ≡ b
  pub decode_encode : (st : Settings) → in_range ed st ≡ true → (h : Held) → fine (record { settings = st; held = h }) ≡ true
      → (well_formed (encode st h) ≡ true) × (decode (encode st h) ≡ h)

-- Calls that change nothing

-- what is held, marks aside
abbrev pub unmarked : Held → Held
unmarked h = record { entries = map (remarked redundant_mark) h.entries; drawn = h.drawn; last_time = h.last_time; last_channel = h.last_channel }

-- an offer that answers no copy as better or new leaves what is held, marks aside, and the store as they stood; if it answers none as repeated either, the buffer
pub record LeftByOffer (b : Buffer) (store : List ℕ) (r : OfferOutcome) : Type 0 where
  pub held : unmarked (decode r.buffer) ≡ unmarked (decode b)
  pub settings : r.buffer.settings ≡ b.settings
  pub store_left : r.store ≡ store
  pub buffer : r.answer.repeated ≡ 0 → r.buffer ≡ b

-- no slot is marked
abbrev pub Empty : Buffer → Type 0
Empty b = held_in b.occupied ≡ 0

-- a draw leaves the buffer and the area as they stood; if it is not refused, it says that the buffer is empty and answers zeros
abbrev pub LeftByDraw : Buffer → List ℕ → DrawOutcome → Type 0
LeftByDraw b area r = (r.buffer ≡ b) × (r.area ≡ area) × (r.answer.refusal ≡ 0 → r.answer ≡ no_frame 0 1)

pub record ChangesNothing (ed : Edition) : Type 0 where
  -- so if each copy of a packet is late, far, repeated or without room, or the offer is refused, nothing changes but, perhaps, marks (document 02, P6)
  pub offer_leaves : (b : Buffer) → Machine b → (packet rows store : List ℕ)
      → let r = offer_call ed b packet rows store in r.answer.better ≡ 0 → r.answer.inserted ≡ 0 → LeftByOffer b store r
  pub draw_leaves : (b : Buffer) → Empty b → (store area : List ℕ) → LeftByDraw b area (draw_call ed b store area)
