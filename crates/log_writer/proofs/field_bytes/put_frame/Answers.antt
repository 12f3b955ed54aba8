use mathlib.Core.Path.{◌≡◌, sym, ◌∙◌}
use mathlib.Core.Bool.{true}
use native.Mathlib.Omega.{arith}
use lib.ListN.{length}
use Rattle.rtp.specs.Editions.{current}
use Rattle.rtp.specs.Ranges.{in_range}
use Rattle.rtp.specs.declared.refusal.Refusal.TheVariants.{SettingsOutOfRange, AreaTooShort, NotAllowed}
use Rattle.log_fields.specs.Fields.{frame_fits}
use Rattle.log_writer.specs.FieldBytes.{frame_bytes}
use Rattle.log_writer.proofs.FieldBytesLaws.{none_put, bytes_put, SmallFrame, fits_small, frame_refused, frame_long, frame_unfit, frame_short, frame_put_lem, length_frame}
use Rattle.log_writer.proofs.field_bytes.put_frame.Goals.{Else-not-frame_fits, Else-not-in_range}
use Rattle.log_writer.proofs.field_bytes.put_frame.Goals as goal

ranged : (c : Else-not-in_range) → in_range current c.args.asked ≡ true
ranged c =
    sym c.in_range.ensures ∙ c.if-not-in_range.false

fits : (c : Else-not-frame_fits) → let a = c.args in frame_fits a.asked a.channel a.class (length a.frame.now) ≡ true
fits c =
    sym c.frame_fits.ensures ∙ c.if-not-frame_fits.false

small : (c : Else-not-frame_fits) → let a = c.args in SmallFrame a.asked a.channel a.class (length a.frame.now)
small c =
    let fits : let a = c.args in frame_fits a.asked a.channel a.class (length a.frame.now) ≡ true = sym c.frame_fits.ensures ∙ c.if-not-frame_fits.false in
    let a = c.args in fits_small a.asked a.channel a.class (length a.frame.now) (fits)

pub returns-then-not-in_range : goal.returns-then-not-in_range
returns-then-not-in_range c =
    let a = c.args in
    none_put _ SettingsOutOfRange a.out.now (frame_refused current a.asked a.time a.channel a.class a.frame.now (length a.out.now) (sym c.in_range.ensures ∙ c.if-not-in_range.true))

pub returns-then-frame-gt-MAX_FRAME : goal.returns-then-frame-gt-MAX_FRAME
returns-then-frame-gt-MAX_FRAME c =
    let a = c.args in
    none_put _ NotAllowed a.out.now (frame_long current a.asked a.time a.channel a.class a.frame.now (length a.out.now) (ranged (goal.at.returns-then-frame-gt-MAX_FRAME c).Else-not-in_range) c.if-frame-gt-MAX_FRAME.true)

pub returns-then-not-frame_fits : goal.returns-then-not-frame_fits
returns-then-not-frame_fits c =
    let a = c.args in
    none_put _ NotAllowed a.out.now (frame_unfit current a.asked a.time a.channel a.class a.frame.now (length a.out.now) (ranged (goal.at.returns-then-not-frame_fits c).Else-not-in_range) (sym c.frame_fits.ensures ∙ c.if-not-frame_fits.true))

pub returns-then-out-size : goal.returns-then-out-size
returns-then-out-size c =
    let a = c.args in
    none_put _ AreaTooShort a.out.now (frame_short current a.asked a.time a.channel a.class a.frame.now (length a.out.now) (ranged (goal.at.returns-then-out-size c).Else-not-in_range) (fits (goal.at.returns-then-out-size c).Else-not-frame_fits) c.if-out-size.true)

pub overflow_cast-channel : goal.overflow_cast-channel
overflow_cast-channel c =
    omega (arith, (small (goal.at.overflow_cast-channel c).Else-not-frame_fits).channels)

pub overflow_cast-class : goal.overflow_cast-class
overflow_cast-class c =
    omega (arith, (small (goal.at.overflow_cast-class c).Else-not-frame_fits).classes)

pub returns : goal.returns
returns c =
    let a = c.args in
    bytes_put _ (frame_bytes a.time a.channel a.class a.frame.now) a.out.now _ _ (frame_put_lem current a.asked a.time a.channel a.class a.frame.now (length a.out.now) (ranged (goal.at.returns c).Else-not-in_range) (fits (goal.at.returns c).Else-not-frame_fits) c.if-out-size.false)
    (length_frame a.time a.channel a.class a.frame.now) c.lay_frame.ensures
