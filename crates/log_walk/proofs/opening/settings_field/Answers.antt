use mathlib.Core.Path.{◌≡◌, sym, ap, ◌∙◌}
use Rattle.std.specs.Prelude.{Ok}
use native.Mathlib.Omega.{arith}
use Rattle.rtp.specs.Editions.{current}
use Rattle.rtp.specs.Ranges.{in_range}
use Rattle.log_fields.specs.Fields.{settings_in}
use Rattle.log_walk.proofs.FieldLaws.{settings_length, settings_in_range, settings_out_of_range}
use Rattle.log_walk.proofs.opening.settings_field.Goals.{After-in_range}
use Rattle.log_walk.proofs.opening.settings_field.Goals as goal

-- what was asked is of the settings in the field
asked : (c : After-in_range) → in_range current (settings_in c.args.s.now) ≡ c.in_range.result
asked c =
    ap (in_range current) (sym c.settings_in-found.ensures) ∙ sym c.in_range.ensures

pub returns-then-n-ne-SETTINGS_SIZE : goal.returns-then-n-ne-SETTINGS_SIZE
returns-then-n-ne-SETTINGS_SIZE c =
    sym (settings_length current _ _ c.if-n-ne-SETTINGS_SIZE.true)

pub returns-then-in_range : goal.returns-then-in_range
returns-then-in_range c =
    ap Ok c.settings_in-found.ensures ∙ sym (settings_in_range current _ _ (omega arith) (asked (goal.at.returns-then-in_range c).After-in_range ∙ c.if-in_range.true))

pub returns : goal.returns
returns c =
    sym (settings_out_of_range current _ _ (omega arith) (asked (goal.at.returns c).After-in_range ∙ c.if-in_range.false))
