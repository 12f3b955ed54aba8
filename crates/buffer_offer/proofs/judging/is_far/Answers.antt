use mathlib.Core.Path.{◌∙◌, ap}
use mathlib.Core.Bool.{not}
use borrow.Author.Tests.{eq-eqb, ne_eqb}
use Rattle.buffer_layout.specs.Columns.{fits_from}
use Rattle.buffer_columns.proofs.BoundLaws.{used_is}
use Rattle.buffer_offer.proofs.judging.is_far.Goals as goal

pub returns-then-buffer-eq0 : goal.returns-then-buffer-eq0
returns-then-buffer-eq0 c =
    let a = c.args in
    rw (eq-eqb _ _ c.if-buffer-eq0.true) (ap not (c.in_stretch.ensures ∙ ap (fits_from a.buffer.now.times a.time) (used_is a.n c.requires)))

pub returns-else-buffer-eq0 : goal.returns-else-buffer-eq0
returns-else-buffer-eq0 c =
    rw (ne_eqb _ _ c.if-buffer-eq0.false)
