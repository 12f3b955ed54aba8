use mathlib.Core.Path.{◌≡◌, sym, ap, ◌∙◌}
use mathlib.Core.List.{◌∷◌}
use Prim.Native.Nat.{ℕ, ◌+◌}
use native.Mathlib.Omega.{arith}
use lib.ListN.{set, drop}
use Rattle.examples_text.proofs.LineLaws.{slice_from}
use Rattle.examples_text.specs.Values.{with_digits, number_room, numbers_of}
use Rattle.examples_text.proofs.ValueLaws.{value_or_zero, numbers_space, numbers_other, numbers_end, left_as, left_same, left_next, left_none, left_full}
use Rattle.examples_text.proofs.values.put_numbers.Goals as goal
use Rattle.examples_text.proofs.values.put_numbers.Goals.{then-byte-eq-SPACE+else-to-ge-NUMBERS, else-byte-eq-SPACE}

pub returns-then-to-ge-NUMBERS : goal.returns-then-to-ge-NUMBERS
returns-then-to-ge-NUMBERS c =
    let l = c.loop-i in
    let a = c.args in
    let s = a.line.now in
    left_full number_room a.area.now a.at (numbers_of s) l.area l.to (numbers_of (drop l.i s)) l.invariant (omega arith)

pub loop-i-preserved : goal.loop-i-preserved
loop-i-preserved c =
    let l = c.loop-i in
    let a = c.args in
    let s = a.line.now in
    let rest = numbers_of (drop (l.i + 1) s) in
    elim c.if-byte-eq-SPACE.branch [
      | then-byte-eq-SPACE+else-to-ge-NUMBERS w ↦
          let v = w.or_malformed.result in
          let first : numbers_of (drop l.i s) ≡ v ∷ rest =
          numbers_space s l.i (omega arith) w.if-byte-eq-SPACE.true ∙ ap (λ (x : ℕ). x ∷ rest) (sym (value_or_zero w.decimal.result v _ w.or_malformed.ensures (w.decimal.ensures ∙ ap (with_digits 0) (slice_from s (l.i + 1))))) in
          left_as number_room a.area.now a.at (numbers_of s) (set l.area l.to v) (l.to + 1) rest c.if-byte-eq-SPACE.area c.if-byte-eq-SPACE.to
          (left_next number_room a.area.now a.at (numbers_of s) l.area l.to (numbers_of (drop l.i s)) v rest l.invariant first (omega arith))
          w.area-is
          w.to-is
      | else-byte-eq-SPACE w ↦
          left_as number_room a.area.now a.at (numbers_of s) l.area l.to rest c.if-byte-eq-SPACE.area c.if-byte-eq-SPACE.to
          (left_same number_room a.area.now a.at (numbers_of s) l.area l.to (numbers_of (drop l.i s)) rest l.invariant (numbers_other s l.i (omega arith) w.if-byte-eq-SPACE.false))
          w.area-is
          w.to-is
    ]

pub returns : goal.returns
returns c =
    let l = c.loop-i in
    let a = c.args in
    let s = a.line.now in
    left_none number_room a.area.now a.at (numbers_of s) l.area l.to (numbers_of (drop l.i s)) l.invariant (numbers_end s l.i (omega arith))
