use mathlib.Core.Path.{◌≡◌, ap, ◌∙◌}
use borrow.Author.Tests.{eq-eqb, ne_eqb}
use Rattle.formats.specs.Frames.{good_class}
use Rattle.frame_codes.specs.Codes.{graded_code}
use Rattle.frame_codes.proofs.amr_codes.graded_code.Goals as goal
use Rattle.frame_codes.proofs.amr_codes.graded_code.Goals.{After-good_class-good}

-- a good frame's class is that of the type
good : (c : After-good_class-good) → c.good_class-good.result ≡ good_class c.args.sid c.args.kind
good c =
    c.good_class-good.ensures.0 ∙ ap (good_class c.args.sid) c.from.ensures

pub returns-then-kind-eq-NO_TYPE : goal.returns-then-kind-eq-NO_TYPE
unfolding graded_code
returns-then-kind-eq-NO_TYPE c =
    simp (eq-eqb _ _ c.if-kind-eq-NO_TYPE.true)

pub returns-then-class-eq0 : goal.returns-then-class-eq0
unfolding graded_code
returns-then-class-eq0 c =
    simp (ne_eqb _ _ c.if-kind-eq-NO_TYPE.false, eq-eqb _ _ c.if-kind-eq-NO_DATA_TYPE.true, eq-eqb _ _ c.if-class-eq0.true)

pub returns-else-class-eq0 : goal.returns-else-class-eq0
unfolding graded_code
returns-else-class-eq0 c =
    simp (ne_eqb _ _ c.if-kind-eq-NO_TYPE.false, eq-eqb _ _ c.if-kind-eq-NO_DATA_TYPE.true, ne_eqb _ _ c.if-class-eq0.false)

pub returns-then-class-good : goal.returns-then-class-good
unfolding graded_code
returns-then-class-good c =
    let g = good (goal.at.returns-then-class-good c).After-good_class-good in
    simp (c.from-then-class-good.ensures, ne_eqb _ _ c.if-kind-eq-NO_TYPE.false, ne_eqb _ _ c.if-kind-eq-NO_DATA_TYPE.false, ← g, eq-eqb _ _ c.if-class-good.true)

pub returns-then-class-good-2 : goal.returns-then-class-good-2
unfolding graded_code
returns-then-class-good-2 c =
    let g = good (goal.at.returns-then-class-good-2 c).After-good_class-good in
    simp (c.from-then-class-good-2.ensures, ne_eqb _ _ c.if-kind-eq-NO_TYPE.false, ne_eqb _ _ c.if-kind-eq-NO_DATA_TYPE.false, ← g, ne_eqb _ _ c.if-class-good.false, eq-eqb _ _ c.if-class-good-2.true)

pub returns : goal.returns
unfolding graded_code
returns c =
    let g = good (goal.at.returns c).After-good_class-good in
    simp (ne_eqb _ _ c.if-kind-eq-NO_TYPE.false, ne_eqb _ _ c.if-kind-eq-NO_DATA_TYPE.false, ← g, ne_eqb _ _ c.if-class-good.false, ne_eqb _ _ c.if-class-good-2.false)
