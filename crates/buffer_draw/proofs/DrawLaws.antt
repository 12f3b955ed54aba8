-- Laws of drawing the first entry on the columns.
use mathlib.Core.Path.{◌≡◌, refl, ap, ap₂, sym, ◌∙◌, subst}
use mathlib.Core.List.Memᴰ.{head as here}
use mathlib.Core.List.{List, ◌∷◌, ◌++◌, Memᴰ}
use Prim.Native.Nat.{ℕ, suc, ◌-◌, ◌/◌, ◌%◌, ◌^◌, ◌≤◌, ◌<◌}
use native.Mathlib.Nat.{zero-add}
use native.Mathlib.Omega.{arith}
use lib.ListN.{length, get_or, drop}
use lib.Seq.{paste, take-length}
use Rattle.rtp.specs.Areas.{over}
use Rattle.buffer_copies.specs.Sizes.{slots, slot_size}
use Rattle.buffer_copies.specs.Entries.{Entry, frame_of}
use Rattle.buffer_layout.specs.declared.buffer.Buffer.{Buffer}
use Rattle.buffer_slots.specs.Bits.{words_of, unmarked}
use Rattle.buffer_layout.specs.Columns.{remove_first}
use Rattle.buffer_columns.specs.Bounds.{removal}
use Rattle.buffer_layout.specs.Layout.{entry_tag, column, entry_at, entries_from, decode}
use Rattle.buffer_draw.specs.Drawable.{Drawable}
use Rattle.buffer_columns.proofs.BoundLaws.{removal_is}
use Rattle.buffer_draw.proofs.CallLaws.{draw_first}
use Rattle.buffer_slots.proofs.WordLaws.{slot_of, slots_of, words_first}
use Rattle.buffer_layout.proofs.LayoutLaws.{column_rest, words_remove}
use Rattle.buffer_layout.proofs.WellFormedLaws.{facts, decode_length, words_held, encode_decode}
use Rattle.frame_codes.proofs.AllowedLaws.{allowed_frame}

-- bytes laid at the front
paste_front : (area f : List ℕ) → paste area 0 f (length f) ≡ over f area
unfolding over
paste_front area f = ap₂ (λ (x : List ℕ) (k : ℕ). x ++ drop k area) (take-length f) (zero-add (length f))

some_more : (n : ℕ) → 1 ≤ n → n ≡ suc (n - 1)
some_more n l = omega arith

module _ (b : Buffer) (n : ℕ) (store area : List ℕ) (d : Drawable b n store area) where
  abbrev first : Entry
  first = entry_at b 0

  abbrev rest : List Entry
  rest = entries_from b (n - 1) 1

  entries_are : (decode b).entries ≡ first ∷ rest
  unfolding entries_from
  entries_are = ap (λ (m : ℕ). entries_from b m 0) (sym d.held ∙ some_more n d.some)

  first_in : Memᴰ first (decode b).entries
  first_in = subst (λ (l : List Entry). Memᴰ first l) (sym entries_are) (here refl)

  pub first_slot : get_or b.slots 0 0 < slots
  first_slot = (facts b d.machine d.fine).slot_facts.within first first_in

  pub first_short : get_or b.lengths 0 0 ≤ slot_size
  first_short = (allowed_frame b.settings.format first.class first.length ((facts b d.machine d.fine).each first first_in).frame).1

  pub few : n ≤ slots
  few = omega (arith, d.held, (facts b d.machine d.fine).room, decode_length b d.machine d.fine)

  words_are : words_of (slots_of (first ∷ rest)) ≡ b.occupied
  words_are = ap (λ (l : List Entry). words_of (slots_of l)) (sym entries_are) ∙ words_held b d.machine d.fine

  pub first_marked : 2 ^ (get_or b.slots 0 0 % 64) ≤ get_or b.occupied (get_or b.slots 0 0 / 64) 0
  first_marked = subst (λ (w : List ℕ). 2 ^ (get_or b.slots 0 0 % 64) ≤ get_or w (get_or b.slots 0 0 / 64) 0) words_are (words_first (get_or b.slots 0 0) (slots_of rest) first_slot)

  size : length (first ∷ rest) ≡ n
  size = ap length (sym entries_are) ∙ decode_length b d.machine d.fine ∙ sym d.held

  column_left : (f : Entry → ℕ) (xs : List ℕ) → column f (decode b).entries ≡ xs → removal xs n ≡ column f rest
  column_left f xs q =
      removal_is xs n d.some few
      ∙ sym (column_rest f first rest (omega (arith, size, few))
      ∙ ap₂ remove_first (ap (column f) (sym entries_are) ∙ q) size)

  pub left : (channel class mark : ℕ) → channel ≡ first.channel → class ≡ first.class → mark ≡ first.primary → (times tags lengths slots' occupied area' : List ℕ) → times ≡ removal b.times n → tags ≡ removal b.tags n → lengths ≡ removal b.lengths n
      → slots' ≡ removal b.slots n → occupied ≡ unmarked b.occupied (get_or b.slots 0 0) → (frame : List ℕ) → frame ≡ frame_of store first
      → area' ≡ paste area 0 frame (length frame)
      → record {
        answer = record { refusal = 0; empty = 0; time = first.time; channel = channel; class = class; length = first.length; primary = mark };
        buffer = record {
          times = times;
          tags = tags;
          lengths = lengths;
          slots = slots';
          occupied = occupied;
          last_time = first.time;
          last_channel = channel;
          drawn = 1;
          settings = b.settings;
        };
        area = area';
      } ≡ draw_first b store area (decode b).entries
  left channel class mark ch cl ma times tags lengths slots' occupied area' p q r s u frame f v =
      let E = encode_decode b d.machine d.fine in
      let ti : times ≡ column (λ e. e.time) rest = p ∙ column_left (λ e. e.time) b.times (ap (λ (x : Buffer). x.times) E) in
      let ta : tags ≡ column entry_tag rest = q ∙ column_left entry_tag b.tags (ap (λ (x : Buffer). x.tags) E) in
      let le : lengths ≡ column (λ e. e.length) rest = r ∙ column_left (λ e. e.length) b.lengths (ap (λ (x : Buffer). x.lengths) E) in
      let sl : slots' ≡ column slot_of rest = s ∙ column_left slot_of b.slots (ap (λ (x : Buffer). x.slots) E) in
      let oc : occupied ≡ words_of (slots_of rest) = u ∙ ap (λ (w : List ℕ). unmarked w (get_or b.slots 0 0)) (sym words_are) ∙ sym (words_remove first rest first_slot) in
      let ar : area' ≡ over (frame_of store first) area = v ∙ paste_front area frame ∙ ap (λ (x : List ℕ). over x area) f in
      let z : record {
        answer = record { refusal = 0; empty = 0; time = first.time; channel = channel; class = class; length = first.length; primary = mark };
        buffer = record {
          times = times;
          tags = tags;
          lengths = lengths;
          slots = slots';
          occupied = occupied;
          last_time = first.time;
          last_channel = channel;
          drawn = 1;
          settings = b.settings;
        };
        area = area';
      } ≡ draw_first b store area (first ∷ rest) = λ j. record {
        answer = record { refusal = 0; empty = 0; time = first.time; channel = ch j; class = cl j; length = first.length; primary = ma j };
        buffer = record {
          times = ti j;
          tags = ta j;
          lengths = le j;
          slots = sl j;
          occupied = oc j;
          last_time = first.time;
          last_channel = ch j;
          drawn = 1;
          settings = b.settings;
        };
        area = ar j;
      } in
      z ∙ ap (draw_first b store area) (sym entries_are)
