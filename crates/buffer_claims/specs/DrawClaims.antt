-- Document 01, "Drawing": what a draw takes from a well-formed buffer that holds frames, as plain facts of the buffer that comes back.
use Rattle.std.specs.Prelude.{ℕ, ◌≤◌, ◌≡◌, List, ◌∷◌, true, length}
use Rattle.rtp.specs.Editions.{Edition}
use Rattle.rtp.specs.Ranges.{in_range}
use Rattle.rtp.specs.Areas.{over}
use Rattle.buffer_copies.specs.Sizes.{slot_size, store_size}
use Rattle.buffer_copies.specs.Entries.{Entry, frame_of}
use Rattle.buffer_layout.specs.declared.buffer.Buffer.{Buffer}
use Rattle.buffer_slots.specs.Bits.{mark_of, lowest_free}
use Rattle.buffer_layout.specs.Arrays.{Machine}
use Rattle.buffer_layout.specs.Layout.{decode}
use Rattle.buffer_layout.specs.WellFormed.{well_formed}
use Rattle.buffer_draw.specs.Calls.{DrawOutcome, draw_call}

-- the buffer b holds the frame of e, the earliest, and then es; r is what a draw comes to
pub record DrawsEarliest (b : Buffer) (store area : List ℕ) (e : Entry) (es : List Entry) (r : DrawOutcome) : Type 0 where
  -- its time, channel, class, length and mark, and its frame over the front of the area
  pub answers : r.answer ≡ record { refusal = 0; empty = 0; time = e.time; channel = e.channel; class = e.class; length = e.length; primary = e.primary }
  pub frame : r.area ≡ over (frame_of store e) area
  -- the others are held as they were
  pub rest : (decode r.buffer).entries ≡ es
  -- its slot is free, and given out again: an insertion takes it or a lower one; the other marks stay
  pub freed : mark_of r.buffer.occupied e.slot ≡ 0
  pub again : lowest_free r.buffer.occupied ≤ e.slot
  pub others : (s : ℕ) → (s ≡ e.slot → ⊥) → mark_of r.buffer.occupied s ≡ mark_of b.occupied s
  -- its pair is the last drawn
  pub last : (r.buffer.drawn ≡ 1) × (r.buffer.last_time ≡ e.time) × (r.buffer.last_channel ≡ e.channel)
  pub settings : r.buffer.settings ≡ b.settings

abbrev pub Draws : Edition → Type 0
Draws ed = (b : Buffer) → Machine b → in_range ed b.settings ≡ true → well_formed b ≡ true → (store area : List ℕ) → store_size ≤ length store → slot_size ≤ length area
    → (e : Entry) (es : List Entry) → (decode b).entries ≡ e ∷ es → DrawsEarliest b store area e es (draw_call ed b store area)
