use mathlib.Core.Path.{◌≡◌, sym, ◌∙◌}
use borrow.Author.Tests.{eq-eqb, ne_eqb}
use Rattle.rtp.specs.Editions.{current}
use Rattle.log_fields.specs.declared.fields.Field.{Field}
use Rattle.log_fields.specs.Fields.{field_of}
use Rattle.log_fields.proofs.FieldLaws.{whole_inside}
use Rattle.log_fields.proofs.NumberLaws.{same_field}
use Rattle.log_walk.proofs.FieldLaws.{opening_by}
use Rattle.log_walk.proofs.opening.first_field.Goals.{In-Cut, In-Whole}
use Rattle.log_walk.proofs.opening.first_field.Goals as goal

-- the first field, by its case
cut : (c : In-Cut) → field_of c.args.s.now ≡ Field.Cut c.in-Cut.tag
cut c =
    sym (same_field _ _ c.field_of.ensures) ∙ c.in-Cut.is

whole : (c : In-Whole) → field_of c.args.s.now ≡ Field.Whole c.in-Whole.head
whole c =
    sym (same_field _ _ c.field_of.ensures) ∙ c.in-Whole.is

pub returns-then-tag-eq-SETTINGS_TAG : goal.returns-then-tag-eq-SETTINGS_TAG
returns-then-tag-eq-SETTINGS_TAG c =
    rw (opening_by current _ _ (cut (goal.at.returns-then-tag-eq-SETTINGS_TAG c).In-Cut), eq-eqb _ _ c.if-tag-eq-SETTINGS_TAG.true)

pub settings_field-requires : goal.settings_field-requires
settings_field-requires c =
    whole_inside _ _ (whole (goal.at.settings_field-requires c).In-Whole)

pub returns-then-head-eq-SETTINGS_TAG : goal.returns-then-head-eq-SETTINGS_TAG
returns-then-head-eq-SETTINGS_TAG c =
    c.settings_field.ensures ∙ rw (opening_by current _ _ (whole (goal.at.returns-then-head-eq-SETTINGS_TAG c).In-Whole), eq-eqb _ _ c.if-head-eq-SETTINGS_TAG.true)

pub returns-in-Stopped : goal.returns-in-Stopped
returns-in-Stopped c =
    rw (opening_by current _ _ (sym (same_field _ _ c.field_of.ensures) ∙ c.in-Stopped.is))

pub returns-else-tag-eq-SETTINGS_TAG : goal.returns-else-tag-eq-SETTINGS_TAG
returns-else-tag-eq-SETTINGS_TAG c =
    rw (opening_by current _ _ (cut (goal.at.returns-else-tag-eq-SETTINGS_TAG c).In-Cut), ne_eqb _ _ c.if-tag-eq-SETTINGS_TAG.false)

pub returns-else-head-eq-SETTINGS_TAG : goal.returns-else-head-eq-SETTINGS_TAG
returns-else-head-eq-SETTINGS_TAG c =
    rw (opening_by current _ _ (whole (goal.at.returns-else-head-eq-SETTINGS_TAG c).In-Whole), ne_eqb _ _ c.if-head-eq-SETTINGS_TAG.false)
