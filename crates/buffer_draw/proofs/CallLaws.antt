-- Laws of the draw, one for each way that it goes.
use mathlib.Core.Path.{◌≡◌, ap}
use Rattle.std.specs.Prelude.{Err, Option, Result}
use Rattle.rtp.specs.declared.refusal.Refusal.{Refusal}
use Rattle.buffer_layout.specs.declared.buffer.Answered.{Answered}
use Rattle.buffer_draw.specs.declared.draws.DrawnFrame.{DrawnFrame}
use mathlib.Core.List.{List}
use mathlib.Core.Bool.{true, false}
use Prim.Native.Nat.{ℕ, ◌≤◌, ◌<◌}
use lib.ListN.{length}
use borrow.Author.Tests.{lt-ltb, le-ltb}
use Rattle.rtp.specs.Editions.{Edition}
use Rattle.rtp.specs.Ranges.{in_range}
use Rattle.rtp.specs.declared.refusal.Refusal.TheVariants.{SettingsOutOfRange, Malformed, AreaTooShort}
use Rattle.buffer_copies.specs.Sizes.{slot_size, store_size}
use Rattle.buffer_copies.specs.Entries.{Entry}
use Rattle.buffer_layout.specs.declared.buffer.Buffer.{Buffer}
use Rattle.buffer_layout.specs.Layout.{decode}
use Rattle.buffer_layout.specs.WellFormed.{well_formed}
use Rattle.buffer_draw.specs.ModelCalls.{done, earliest, draw_from}
use Rattle.buffer_draw.specs.Calls.{DrawOutcome, draw_numbers, draw_refused, draw_done, draw_call}

-- what the code answers, with the area that it leaves
abbrev pub outcome : List ℕ → Answered (Result (Option DrawnFrame) Refusal) → DrawOutcome
outcome area r = record { answer = draw_numbers r.answer; buffer = r.buffer; area = area }

pub outcome_refused : (area : List ℕ) (b : Buffer) (r : Answered (Result (Option DrawnFrame) Refusal)) (q : Refusal) → r ≡ record { answer = Err q; buffer = b }
    → outcome area r ≡ draw_refused q b area
outcome_refused area b r q e = ap (outcome area) e

-- a draw that goes through the areas, with the entries held
abbrev pub draw_first : Buffer → List ℕ → List ℕ → List Entry → DrawOutcome
draw_first b store area es = draw_done b area (done (earliest store es))

module _ (ed : Edition) (b : Buffer) (store area : List ℕ) where
  pub draw_out : in_range ed b.settings ≡ false → draw_call ed b store area ≡ draw_refused SettingsOutOfRange b area
  unfolding draw_call
  draw_out h = rw h

  module _ (h : in_range ed b.settings ≡ true) where
    pub draw_malformed : well_formed b ≡ false → draw_call ed b store area ≡ draw_refused Malformed b area
    unfolding draw_call
    draw_malformed w = rw (h, w)

    module _ (w : well_formed b ≡ true) where
      pub draw_store : length store < store_size → draw_call ed b store area ≡ draw_refused AreaTooShort b area
      unfolding draw_call draw_from
      draw_store s = rw (h, w, lt-ltb (length store) store_size s)

      pub draw_area : store_size ≤ length store → length area < slot_size → draw_call ed b store area ≡ draw_refused AreaTooShort b area
      unfolding draw_call draw_from
      draw_area s a = rw (h, w, le-ltb (length store) store_size s, lt-ltb (length area) slot_size a)

      pub draw_goes : store_size ≤ length store → slot_size ≤ length area → draw_call ed b store area ≡ draw_first b store area (decode b).entries
      unfolding draw_call draw_from
      draw_goes s a = rw (h, w, le-ltb (length store) store_size s, le-ltb (length area) slot_size a)
