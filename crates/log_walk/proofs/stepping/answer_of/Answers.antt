use mathlib.Core.Path.{◌≡◌, sym, ap, ◌∙◌}
use Rattle.std.specs.Prelude.{Err}
use mathlib.Core.Bool.{true}
use lib.ListN.{length}
use Rattle.rtp.specs.Editions.{current}
use Rattle.rtp.specs.Ranges.{in_range}
use Rattle.log_walk.specs.Stepping.{cursor_fits}
use Rattle.log_walk.proofs.WalkLaws.{step_out, step_unfit, step_walks, fits_is}
use Rattle.log_walk.proofs.stepping.answer_of.Goals.{Else-not-cursor_fits, Else-not-in_range}
use Rattle.log_walk.proofs.stepping.answer_of.Goals as goal

-- what was asked held
ranged : (c : Else-not-in_range) → in_range current c.args.cursor.settings ≡ true
ranged c =
    sym c.in_range.ensures ∙ c.if-not-in_range.false

fits : (c : Else-not-cursor_fits) → let a = c.args in cursor_fits a.cursor (length a.log.now) ≡ true
fits c =
    sym c.cursor_fits.ensures ∙ c.if-not-cursor_fits.false

pub returns-then-not-in_range : goal.returns-then-not-in_range
returns-then-not-in_range c =
    ap Err c.into.ensures ∙ sym (step_out current _ _ (sym c.in_range.ensures ∙ c.if-not-in_range.true))

pub returns-then-not-cursor_fits : goal.returns-then-not-cursor_fits
returns-then-not-cursor_fits c =
    ap Err c.into-then-not-cursor_fits.ensures ∙ sym (step_unfit current _ _ (ranged (goal.at.returns-then-not-cursor_fits c).Else-not-in_range) (sym c.cursor_fits.ensures ∙ c.if-not-cursor_fits.true))

pub walk_from-requires : goal.walk_from-requires
walk_from-requires c =
    (fits_is c.args.cursor _ (fits (goal.at.walk_from-requires c).Else-not-cursor_fits)).1

pub returns : goal.returns
returns c =
    c.walk_from.ensures ∙ sym (step_walks current _ _ (ranged (goal.at.returns c).Else-not-in_range) (fits (goal.at.returns c).Else-not-cursor_fits))
