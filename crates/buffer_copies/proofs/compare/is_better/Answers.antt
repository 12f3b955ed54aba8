use mathlib.Core.Path.{ap, sym, ◌∙◌}
use Rattle.buffer_copies.specs.Copies.{quality, soundness}
use Rattle.buffer_copies.proofs.RankLaws.{Alike, greater_cmp, quality_differs, soundness_differs, length_differs, length_same}
use Rattle.buffer_copies.proofs.compare.is_better.Goals.{Else-good-other_good, Joined-class-other, then-class-other+else-good-other_good+else-sound-other_sound, else-class-other}
use Rattle.buffer_copies.proofs.compare.is_better.Goals as goal

-- past the tests of the classes
alike : (c : Joined-class-other) → Alike c.args.class c.args.other
alike c =
    elim c.if-class-other.branch [
      | then-class-other+else-good-other_good+else-sound-other_sound w ↦
          (sym w.quality_of-good.ensures ∙ w.if-good-other_good.false ∙ w.quality_of-other_good.ensures, sym w.soundness_of-sound.ensures ∙ w.if-sound-other_sound.false ∙ w.soundness_of-other_sound.ensures)
      | else-class-other w ↦ (ap quality w.if-class-other.false, ap soundness w.if-class-other.false)
    ]

pub returns-then-good-other_good : goal.returns-then-good-other_good
returns-then-good-other_good c =
    rw (c.quality_of-good.ensures, c.quality_of-other_good.ensures) (quality_differs _ _ _ _ (rw (← c.quality_of-good.ensures, ← c.quality_of-other_good.ensures) c.if-good-other_good.true))

pub returns-then-sound-other_sound : goal.returns-then-sound-other_sound
returns-then-sound-other_sound c =
    rw (c.soundness_of-sound.ensures, c.soundness_of-other_sound.ensures)
    (soundness_differs _ _ _ _ (sym c.quality_of-good.ensures ∙ c.if-good-other_good.false ∙ c.quality_of-other_good.ensures) (rw (← c.soundness_of-sound.ensures, ← c.soundness_of-other_sound.ensures) c.if-sound-other_sound.true))

pub returns-then-a-b : goal.returns-then-a-b
returns-then-a-b c =
    length_differs _ _ _ _ (alike (goal.at.returns-then-a-b c).Joined-class-other) c.if-a-b.true

pub returns : goal.returns
returns c =
    c.is_gt.ensures ∙ greater_cmp c.args.a.now c.args.b.now c.cmp.result c.cmp.ensures
    ∙ sym (length_same c.args.class c.args.a.now c.args.other c.args.b.now (alike (goal.at.returns c).Joined-class-other) c.if-a-b.false)
