use mathlib.Core.Path.{◌≡◌, sym, ap, ◌∙◌}
use Rattle.std.specs.Prelude.{Err}
use native.Mathlib.Omega.{arith}
use borrow.Author.Tests.{eq-eqb, ne_eqb}
use Rattle.log_fields.specs.declared.fields.Field.{Field}
use Rattle.log_fields.specs.Fields.{settings_tag, frame_tag, end_tag, field_of}
use Rattle.log_fields.proofs.FieldLaws.{whole_inside}
use Rattle.log_fields.proofs.NumberLaws.{same_field}
use Rattle.log_walk.proofs.FieldLaws.{next_by_lem}
use Rattle.log_walk.proofs.frames.next_field.Goals.{After-field_of}
use Rattle.log_walk.proofs.frames.next_field.Goals as goal

-- the field at the front, by its case
front : (c : After-field_of) (f : Field) → c.field_of.result ≡ f → field_of c.args.s.now ≡ f
front c f e = sym (same_field _ _ c.field_of.ensures) ∙ e

pub returns-in-Stopped : goal.returns-in-Stopped
returns-in-Stopped c =
    ap Err c.into.ensures ∙ rw (next_by_lem _ _ _ _ (front (goal.at.returns-in-Stopped c).After-field_of _ c.in-Stopped.is))

pub returns-in-Cut-eq1 : goal.returns-in-Cut-eq1
returns-in-Cut-eq1 c =
    ap Err c.into-in-Cut-eq1.ensures
    ∙ rw (next_by_lem _ _ _ _ (front (goal.at.returns-in-Cut-eq1 c).After-field_of _ c.in-Cut-eq1.is), eq-eqb _ _ c.in-Cut-eq1.field-0-test)

pub returns-in-Cut : goal.returns-in-Cut
returns-in-Cut c =
    ap Err c.into-in-Cut.ensures ∙ rw (next_by_lem _ _ _ _ (front (goal.at.returns-in-Cut c).After-field_of _ c.in-Cut.is), ne_eqb _ _ c.in-Cut.field-0-test.1)

pub returns-in-1 : goal.returns-in-1
returns-in-1 c =
    ap Err c.into-in-1.ensures ∙ rw (next_by_lem _ _ _ _ (front (goal.at.returns-in-1 c).After-field_of _ c.in-Whole.is), eq-eqb _ _ c.in-1.is)

pub frame_field-requires : goal.frame_field-requires
frame_field-requires c =
    whole_inside _ _ (front (goal.at.frame_field-requires c).After-field_of _ c.in-Whole.is)

pub returns-in-2 : goal.returns-in-2
returns-in-2 c =
    c.frame_field.ensures ∙ rw (next_by_lem _ _ _ _ (front (goal.at.returns-in-2 c).After-field_of _ c.in-Whole.is), c.in-2.is)

pub end_field-requires : goal.end_field-requires
end_field-requires c =
    whole_inside _ _ (front (goal.at.end_field-requires c).After-field_of _ c.in-Whole.is)

pub returns-in-3 : goal.returns-in-3
returns-in-3 c =
    c.end_field.ensures ∙ rw (next_by_lem _ _ _ _ (front (goal.at.returns-in-3 c).After-field_of _ c.in-Whole.is), c.in-3.is)

pub returns-in_default : goal.returns-in_default
returns-in_default c =
    rw (
      next_by_lem _ _ _ _ (front (goal.at.returns-in_default c).After-field_of _ c.in-Whole.is),
      ne_eqb c.in-Whole.head.tag settings_tag (λ e. omega arith),
      ne_eqb c.in-Whole.head.tag frame_tag (λ e. omega arith),
      ne_eqb c.in-Whole.head.tag end_tag (λ e. omega arith),
    )
