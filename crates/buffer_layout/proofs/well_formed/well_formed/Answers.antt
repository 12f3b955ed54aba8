use mathlib.Core.Path.{◌∙◌, sym}
use Rattle.buffer_layout.proofs.PassLaws.{last_not, rest_not, formed_entries}
use Rattle.buffer_layout.proofs.well_formed.well_formed.Goals as goal

pub returns-then-not-last_kept : goal.returns-then-not-last_kept
returns-then-not-last_kept c =
    sym (last_not _ _ _ _ _ _ (sym c.last_kept.ensures.0 ∙ c.if-not-last_kept.true))

pub returns-else-unused_zero : goal.returns-else-unused_zero
returns-else-unused_zero c =
    c.if-unused_zero.false ∙ sym (rest_not _ _ _ _ _ _ _ c.held_in-n.ensures.0 (sym c.last_kept.ensures.0 ∙ c.if-not-last_kept.false) (sym c.unused_zero.ensures ∙ c.if-unused_zero.false))

pub returns-then-unused_zero : goal.returns-then-unused_zero
returns-then-unused_zero c =
    c.entries_pass.ensures
    ∙ sym (formed_entries _ _ _ _ _ _ _ c.held_in-n.ensures.0 (sym c.last_kept.ensures.0 ∙ c.if-not-last_kept.false) (sym c.unused_zero.ensures ∙ c.if-unused_zero.true))
