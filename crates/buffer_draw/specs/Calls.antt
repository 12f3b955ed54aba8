-- Document 01, "The take": the call draw, between a buffer and its model. The definition is the whole meaning of the call, refusals included: answer, buffer and lent area.
use Rattle.std.specs.Prelude.{ℕ, List, cond, length, Err, None, Ok, Option, Some, Result as Answer}
use Rattle.buffer_draw.specs.declared.draws.DrawnFrame.{DrawnFrame}
use Rattle.std.proofs.Math.Option.{none, some}
use Rattle.rtp.specs.Editions.{Edition}
use Rattle.rtp.specs.Ranges.{in_range}
use Rattle.rtp.specs.Refusals.{number}
use Rattle.rtp.specs.Areas.{over}
use Rattle.rtp.specs.declared.refusal.Refusal.{Refusal}
use Rattle.rtp.specs.declared.refusal.Refusal.TheVariants.{SettingsOutOfRange, Malformed}
use Rattle.buffer_layout.specs.declared.buffer.Buffer.{Buffer}
use Rattle.buffer_layout.specs.Layout.{encode, model}
use Rattle.buffer_layout.specs.WellFormed.{well_formed}
use Rattle.buffer_draw.specs.ModelCalls.{Result, refused, done, draw_from}

-- the answer in numbers: the refusal number or 0, 1 if the buffer is empty, and the frame's time, channel, class, length and mark, or zeros
pub record DrawNumbers : Type 0 where
  pub refusal : ℕ
  pub empty : ℕ
  pub time : ℕ
  pub channel : ℕ
  pub class : ℕ
  pub length : ℕ
  pub primary : ℕ

abbrev pub no_frame : ℕ → ℕ → DrawNumbers
no_frame r empty = record { refusal = r; empty = empty; time = 0; channel = 0; class = 0; length = 0; primary = 0 }

-- of the code's answer, case by case
abbrev pub draw_numbers : Answer (Option DrawnFrame) Refusal → DrawNumbers
draw_numbers (Err r) = no_frame (number r) 0
draw_numbers (Ok None) = no_frame 0 1
draw_numbers (Ok (Some f)) = record { refusal = 0; empty = 0; time = f.time; channel = f.channel; class = f.class; length = f.length; primary = f.primary }

pub record DrawOutcome : Type 0 where
  pub answer : DrawNumbers
  pub buffer : Buffer
  pub area : List ℕ

abbrev pub draw_refused : Refusal → Buffer → List ℕ → DrawOutcome
draw_refused r b area = record { answer = no_frame (number r) 0; buffer = b; area = area }

-- what a draw does to the model, as buffer and area; an empty buffer stays as it stood
abbrev pub draw_done : Buffer → List ℕ → Result → DrawOutcome
draw_done b area (refused r) = draw_refused r b area
draw_done b area (done none) = record { answer = no_frame 0 1; buffer = b; area = area }
draw_done b area (done (some d)) = record {
  answer = record { refusal = 0; empty = 0; time = d.entry.time; channel = d.entry.channel; class = d.entry.class; length = d.entry.length; primary = d.entry.primary };
  buffer = encode b.settings d.held;
  area = over d.bytes area;
}

-- a draw into an area: 11, 15, then what it does to the model
unfoldable pub draw_call : Edition → Buffer → List ℕ → List ℕ → DrawOutcome
draw_call ed b store area =
    cond (in_range ed b.settings)
    (cond (well_formed b) (draw_done b area (draw_from (model b) store (length area)))
    (draw_refused Malformed b area))
    (draw_refused SettingsOutOfRange b area)
