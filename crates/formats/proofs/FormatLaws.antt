-- Laws of the formats: each is proved once, at every row of `format_of`.
use mathlib.Core.Path.{◌≡◌, refl, sym, subst}
use Rattle.std.specs.Prelude.{None, Option, Some}
use mathlib.Core.Bool.{Bool, true, false, cond}
use Prim.Native.Nat.{ℕ, ◌+◌, ◌*◌, ◌/◌, ◌%◌, ◌≤◌, ◌<◌}
use native.Mathlib.Omega.{arith}
use lib.Dec.{T, eqb, leb}
use lib.ListN.{get_or-eq_default}
use borrow.Author.Tests.{leb-true, le-ltb, ne_eqb}
use Rattle.rtp.specs.declared.payload_format.PayloadFormat.{PayloadFormat}
use Rattle.rtp.specs.PayloadFormats.{format_number}
use Rattle.rtp.specs.Ranges.{g719, g719_interleaved, gsm_hr, amr, amr_wb}
use Rattle.rtp.specs.Sizes.{max_frame}
use Rattle.rtp.proofs.TestLaws.{by-test}
use Rattle.formats.specs.declared.facts.Format.{Format}
use Rattle.formats.specs.declared.frames.Frame.{Frame}
use Rattle.formats.specs.Formats.{no_code, g719_format, gsm_format, amr_format, amr_wb_format, no_format, format_of, step_of, max_gap}
use Rattle.formats.specs.Frames.{max_class, reserved, g719_length, amr_lengths, amr_length, amr_wb_lengths, amr_wb_length, length_in, type_of, frame_in, frame_of}
use Rattle.formats.specs.Room.{InTable}
use Rattle.formats.proofs.TableRule.{all_below, at}

-- what holds of every row holds of every format
pub each {ℓ} : (P : Format → Type ℓ) → ((b : Bool) → P (g719_format b)) → P gsm_format → P amr_format → P amr_wb_format → P no_format → (format : ℕ) → P (format_of format)
unfolding format_of
each P g h a w n format =
    by-test (eqb format g719) (λ e1. rw e1 (g false))
    (λ e1. by-test (eqb format g719_interleaved) (λ e2. rw (e1, e2) (g true))
    (λ e2. by-test (eqb format gsm_hr) (λ e3. rw (e1, e2, e3) h)
    (λ e3. by-test (eqb format amr) (λ e4. rw (e1, e2, e3, e4) a)
    (λ e4. by-test (eqb format amr_wb) (λ e5. rw (e1, e2, e3, e4, e5) w) (λ e5. rw (e1, e2, e3, e4, e5) n)))))

-- what no format's number is has the facts of none
pub unknown_format : (n : ℕ) → ((format : PayloadFormat) → format_number format ≡ n → ⊥) → format_of n ≡ no_format
unfolding format_of
unknown_format n none =
    rw (
      ne_eqb n g719 (λ e. none PayloadFormat.G719 (sym e)),
      ne_eqb n g719_interleaved (λ e. none PayloadFormat.G719Interleaved (sym e)),
      ne_eqb n gsm_hr (λ e. none PayloadFormat.GsmHr (sym e)),
      ne_eqb n amr (λ e. none PayloadFormat.Amr (sym e)),
      ne_eqb n amr_wb (λ e. none PayloadFormat.AmrWb (sym e)),
    )

-- a frame-block's ticks: none has more than G.719's
abbrev pub max_step : ℕ
max_step = (g719_format false).step

pub record Step (step : ℕ) : Type 0 where
  pub some : 0 < step
  pub small : step ≤ max_step

pub step_fine : (format : ℕ) → Step (step_of format)
step_fine = each (λ f. Step f.step) (λ b. record { some = omega arith; small = omega arith })
    (record { some = omega arith; small = omega arith }) (record { some = omega arith; small = omega arith })
    (record { some = omega arith; small = omega arith }) (record { some = omega arith; small = omega arith })

-- at most one byte stands before a table: that of the mode request
pub header_small : (format : ℕ) → (format_of format).header ≤ 1
header_small = each (λ f. f.header ≤ 1) (λ b. omega arith) (omega arith) (omega arith) (omega arith) (omega arith)

-- a gap has 4 bits
pub gap_small : (format : ℕ) → max_gap format ≤ 15
unfolding max_gap
gap_small format = by-test (format_of format).displaced (λ a. rw a (omega arith)) (λ a. rw a (omega arith))

-- a code in an entry's first byte, below F and above the reserved bits
pub record Placed (f : Format) : Type 0 where
  pub some : 0 < f.codes
  pub few : f.codes ≤ no_code
  pub weighted : 0 < f.unit
  pub low : (code : ℕ) → code < f.codes → f.unit * code < 128
  pub back : (code : ℕ) → code < f.codes → (f.unit * code / f.unit % f.codes ≡ code) × ((128 + f.unit * code) / f.unit % f.codes ≡ code)

pub code_placed : (format : ℕ) → Placed (format_of format)
code_placed = each Placed
    (λ b. record { some = omega arith; few = omega arith; weighted = omega arith; low = λ k h. omega arith; back = λ k h. (omega arith, omega arith) })
    (record { some = omega arith; few = omega arith; weighted = omega arith; low = λ k h. omega arith; back = λ k h. (omega arith, omega arith) })
    (record { some = omega arith; few = omega arith; weighted = omega arith; low = λ k h. omega arith; back = λ k h. (omega arith, omega arith) })
    (record { some = omega arith; few = omega arith; weighted = omega arith; low = λ k h. omega arith; back = λ k h. (omega arith, omega arith) })
    (record { some = omega arith; few = omega arith; weighted = omega arith; low = λ k h. omega arith; back = λ k h. (omega arith, omega arith) })

-- the frame tables have a length for each code's type
pub in_table : (format code : ℕ) → code < (format_of format).codes → InTable (format_of format).table (type_of (format_of format).graded code)
in_table format code =
    each (λ f. code < f.codes → InTable f.table (type_of f.graded code)) (λ b h. h) (λ h. tt) (λ h. omega arith) (λ h. omega arith) (λ h. tt) format

-- and no code past its codes stands for a frame
pub beyond : (format code : ℕ) → (format_of format).codes ≤ code → frame_of format code ≡ None
unfolding frame_in length_in g719_length amr_length amr_wb_length
beyond format code =
    each (λ f. f.codes ≤ code → frame_in f code ≡ None)
    (λ b h. rw (ne_eqb code 0 (λ e. absurd (omega arith)), le-ltb code 8 (omega arith), le-ltb code 23 (omega arith), le-ltb code 28 (omega arith)))
    (λ h. rw (ne_eqb code 0 (λ e. absurd (omega arith)), ne_eqb code 2 (λ e. absurd (omega arith)), ne_eqb code 7 (λ e. absurd (omega arith))))
    (λ h. rw (ne_eqb (code / 2) 15 (λ e. absurd (omega arith)), get_or-eq_default amr_lengths reserved {n = code / 2} (omega arith)))
    (λ h. rw (ne_eqb (code / 2) 14 (λ e. absurd (omega arith)), ne_eqb (code / 2) 15 (λ e. absurd (omega arith)), get_or-eq_default amr_wb_lengths reserved {n = code / 2} (omega arith)))
    (λ h. refl) format

-- a frame's class and length are small
pub record Small (f : Frame) : Type 0 where
  pub classes : f.class ≤ max_class
  pub short : f.length ≤ max_frame

-- a rule on class and length that every frame of a format keeps, computed at each of its codes
abbrev kept : (ℕ → ℕ → Bool) → Option Frame → Bool
kept p None = true
kept p (Some g) = p g.class g.length

abbrev pub keeps : Format → (ℕ → ℕ → Bool) → Bool
keeps f p = all_below (λ k. kept p (frame_in f k)) f.codes

pub keeps_at : (f : Format) (p : ℕ → ℕ → Bool) → T (keeps f p) → (code : ℕ) → code < f.codes → (g : Frame) → frame_in f code ≡ Some g → T (p g.class g.length)
keeps_at f p t code h g e = subst (λ (c : Option Frame). T (kept p c)) e (at (λ k. kept p (frame_in f k)) f.codes t code h)

abbrev pub small_frame : ℕ → ℕ → Bool
small_frame class n = cond (leb class max_class) (leb n max_frame) false

pub small_is : (class n : ℕ) → T (small_frame class n) → Small (record { class = class; length = n })
small_is class n t =
    by-test (leb class max_class)
    (λ a. by-test (leb n max_frame) (λ b. record { classes = leb-true _ _ a; short = leb-true _ _ b }) (λ b. absurd (rw (a, b) at t)))
    (λ a. absurd (rw a at t))

pub small_all : (format : ℕ) → T (keeps (format_of format) small_frame)
unfolding frame_in length_in g719_length amr_length amr_wb_length
small_all = each (λ f. T (keeps f small_frame)) (λ b. tt) tt tt tt tt

pub small_frame_lem : (format code : ℕ) (g : Frame) → code < (format_of format).codes → frame_of format code ≡ Some g → Small g
small_frame_lem format code g h e = small_is g.class g.length (keeps_at (format_of format) small_frame (small_all format) code h g e)
