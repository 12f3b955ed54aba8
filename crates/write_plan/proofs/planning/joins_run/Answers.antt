use mathlib.Core.Path.{sym, ◌∙◌}
use Rattle.write_plan.proofs.planning.joins_run.Goals.{then-format_of, else-format_of, then-tag_class-class, else-tag_class-class}
use Rattle.write_plan.proofs.planning.joins_run.Goals as goal

pub returns-then-row-length : goal.returns-then-row-length
returns-then-row-length c =
    elim c.if-tag_class-class.branch [
      | then-tag_class-class v ↦ elim c.if-format_of.branch [
        | then-format_of w ↦ simp (← c.format_of.ensures, w.if-format_of.true, ← w.tag_class.ensures, ← w.value-is, v.if-tag_class-class.true, ← v.value-is, c.if-row-length.true, ← c.max_gap.ensures)
        | else-format_of w ↦ let z = sym w.value-is ∙ v.if-tag_class-class.true in cc
      ]
      | else-tag_class-class v ↦ let z = sym v.value-is ∙ c.if-row-length.true in cc
    ]

pub returns-else-row-length : goal.returns-else-row-length
returns-else-row-length c =
    elim c.if-tag_class-class.branch [
      | then-tag_class-class v ↦ elim c.if-format_of.branch [
        | then-format_of w ↦ simp (← c.format_of.ensures, w.if-format_of.true, ← w.tag_class.ensures, ← w.value-is, v.if-tag_class-class.true, ← v.value-is, c.if-row-length.false)
        | else-format_of w ↦ let z = sym w.value-is ∙ v.if-tag_class-class.true in cc
      ]
      | else-tag_class-class v ↦ elim c.if-format_of.branch [
        | then-format_of w ↦ simp (← c.format_of.ensures, w.if-format_of.true, ← w.tag_class.ensures, ← w.value-is, v.if-tag_class-class.false, c.if-row-length.false)
        | else-format_of w ↦ simp (← c.format_of.ensures, w.if-format_of.false, c.if-row-length.false)
      ]
    ]
