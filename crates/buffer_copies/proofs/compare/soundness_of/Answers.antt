use borrow.Author.Tests.{eq-eqb, ne_eqb}
use Rattle.formats.specs.Frames.{sound, damaged_sound}
use Rattle.buffer_copies.specs.Copies.{soundness}
use Rattle.buffer_copies.proofs.compare.soundness_of.Goals.{then-class-eq-SOUND-via-then-class-eq-SOUND, then-class-eq-SOUND-via-else-class-eq-SOUND+then-class-eq-DAMAGED_SOUND}
use Rattle.buffer_copies.proofs.compare.soundness_of.Goals as goal

pub returns-then-class-eq-SOUND : goal.returns-then-class-eq-SOUND
unfolding soundness
returns-then-class-eq-SOUND c =
    elim c.then-class-eq-SOUND.branch [
      | then-class-eq-SOUND-via-then-class-eq-SOUND w ↦ rw (eq-eqb _ sound w.if-class-eq-SOUND.true)
      | then-class-eq-SOUND-via-else-class-eq-SOUND+then-class-eq-DAMAGED_SOUND w ↦
          rw (ne_eqb _ sound w.if-class-eq-SOUND.false, eq-eqb _ damaged_sound w.if-class-eq-DAMAGED_SOUND.true)
    ]

pub returns : goal.returns
unfolding soundness
returns c =
    rw (ne_eqb _ sound c.if-class-eq-SOUND.false, ne_eqb _ damaged_sound c.if-class-eq-DAMAGED_SOUND.false)
