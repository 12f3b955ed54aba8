use mathlib.Core.Path.{◌≡◌, sym, ◌∙◌}
use mathlib.Core.Bool.{true}
use lib.ListN.{length}
use Rattle.rtp.specs.Editions.{current}
use Rattle.rtp.specs.Ranges.{in_range}
use Rattle.rtp.specs.declared.refusal.Refusal.TheVariants.{SettingsOutOfRange, AreaTooShort}
use Rattle.log_writer.specs.FieldBytes.{settings_bytes}
use Rattle.log_writer.proofs.FieldBytesLaws.{none_put, bytes_put, settings_refused, settings_short, settings_put_lem, length_settings}
use Rattle.log_writer.proofs.field_bytes.put_settings.Goals.{Else-not-in_range}
use Rattle.log_writer.proofs.field_bytes.put_settings.Goals as goal

ranged : (c : Else-not-in_range) → in_range current c.args.asked ≡ true
ranged c =
    sym c.in_range.ensures ∙ c.if-not-in_range.false

pub returns-then-not-in_range : goal.returns-then-not-in_range
returns-then-not-in_range c =
    let a = c.args in
    none_put _ SettingsOutOfRange a.out.now (settings_refused current a.asked (length a.out.now) (sym c.in_range.ensures ∙ c.if-not-in_range.true))

pub returns-then-out-lt-FIRST_SIZE : goal.returns-then-out-lt-FIRST_SIZE
returns-then-out-lt-FIRST_SIZE c =
    let a = c.args in
    none_put _ AreaTooShort a.out.now (settings_short current a.asked (length a.out.now) (ranged (goal.at.returns-then-out-lt-FIRST_SIZE c).Else-not-in_range) c.if-out-lt-FIRST_SIZE.true)

pub returns : goal.returns
returns c =
    let a = c.args in
    bytes_put _ (settings_bytes a.asked) a.out.now _ 7 (settings_put_lem current a.asked (length a.out.now) (ranged (goal.at.returns c).Else-not-in_range) c.if-out-lt-FIRST_SIZE.false) (length_settings a.asked) c.lay_settings.ensures
