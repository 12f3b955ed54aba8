use native.Mathlib.Omega.{arith}
use Rattle.row_tags.proofs.TagLaws.{joined_other, joined_own}
use Rattle.row_tags.proofs.tagging.join_mark.Goals as goal

pub returns-then-tag_mark-eq0 : goal.returns-then-tag_mark-eq0
returns-then-tag_mark-eq0 c =
    joined_other _ _ _ (omega (arith, c.tag_mark.ensures.0, c.if-tag_mark-eq0.true)) c.tag_mark-then-tag_mark-eq0.ensures.0

pub returns-else-tag_mark-eq0 : goal.returns-else-tag_mark-eq0
returns-else-tag_mark-eq0 c =
    joined_own _ _ (λ e. c.if-tag_mark-eq0.false (omega (arith, c.tag_mark.ensures.0, e)))
