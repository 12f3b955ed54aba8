-- Document 01, "The take": what a draw does to a model and its store. Refusals 11 and 15 come before: they are about the record handed over.
use Rattle.std.specs.Prelude.{ℕ, List, [], ◌∷◌, true, cond, length, ltb}
use Rattle.std.proofs.Math.Option.{Option, none, some}
use Rattle.rtp.specs.declared.refusal.Refusal.{Refusal}
use Rattle.rtp.specs.declared.refusal.Refusal.TheVariants.{AreaTooShort}
use Rattle.buffer_copies.specs.Sizes.{slot_size, store_size}
use Rattle.buffer_copies.specs.Entries.{Entry, Held, frame_of}
use Rattle.buffer_layout.specs.Model.{Model}

-- the entry handed out, its frame's bytes, and what is held after it
pub record HandedOut : Type 0 where
  pub entry : Entry
  pub bytes : List ℕ
  pub held : Held

-- a draw refused, or what it comes to: an empty buffer hands out nothing
pub data Result : Type 0 where
  refused : Refusal → Result
  done : Option HandedOut → Result

-- the first entry, if any: its slot is free, and its pair is the last drawn
abbrev pub earliest : List ℕ → List Entry → Option HandedOut
earliest store [] = none
earliest store (e ∷ es) = some (record {
  entry = e;
  bytes = frame_of store e;
  held = record { entries = es; drawn = true; last_time = e.time; last_channel = e.channel };
})

-- a draw into an area of so many bytes: 12; an area is asked for before the buffer is found empty
unfoldable pub draw_from : Model → List ℕ → ℕ → Result
draw_from m store area =
    cond (ltb (length store) store_size) (refused AreaTooShort)
    (cond (ltb area slot_size) (refused AreaTooShort)
    (done (earliest store m.held.entries)))
