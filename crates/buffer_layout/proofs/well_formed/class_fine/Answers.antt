use mathlib.Core.Path.{◌≡◌, ap, ◌∙◌}
use Prim.Native.Nat.{ℕ}
use Rattle.row_tags.specs.Tags.{tag_class}
use Rattle.frame_codes.specs.Allowed.{allowed, allowed_in}
use Rattle.frame_codes.proofs.AllowedLaws.{allowed_in_lem}
use Rattle.buffer_layout.proofs.well_formed.class_fine.Goals.{After-is_allowed}
use Rattle.buffer_layout.proofs.well_formed.class_fine.Goals as goal

allowed_at : (c : After-is_allowed) → let a = c.args in c.is_allowed.result ≡ allowed a.fixed.settings.format (tag_class a.tag) a.length
allowed_at c =
    let a = c.args in
    c.is_allowed.ensures ∙ ap (λ (k : ℕ). allowed_in a.table k a.length) c.tag_class.ensures
    ∙ allowed_in_lem a.fixed.settings.format (tag_class a.tag) a.length a.table c.requires

pub returns-then-is_allowed : goal.returns-then-is_allowed
returns-then-is_allowed c =
    rw (← (allowed_at (goal.at.returns-then-is_allowed c).After-is_allowed), c.if-is_allowed.true, ← c.tag_channel.ensures.0)

pub returns-else-is_allowed : goal.returns-else-is_allowed
returns-else-is_allowed c =
    rw (← (allowed_at (goal.at.returns-else-is_allowed c).After-is_allowed), c.if-is_allowed.false)
