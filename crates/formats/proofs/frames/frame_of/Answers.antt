use Prim.Native.Nat.{ℕ, ◌+◌, ◌<◌}
use mathlib.Core.Path.{◌≡◌, sym, subst, ap}
use native.Mathlib.Omega.{arith}
use borrow.Author.Tests.{eq-eqb, ne_eqb}
use Rattle.formats.specs.declared.facts.Format.{Format}
use Rattle.formats.specs.Formats.{format_of}
use Rattle.formats.specs.Frames.{reserved, length_in, type_of, damage_of, good_class, frame, frame_in, coded_numbers}
use Rattle.formats.specs.Room.{InTable}
use Rattle.formats.proofs.FormatLaws.{in_table, beyond}
use Rattle.formats.proofs.frames.frame_of.Goals as goal

-- a frame that has bytes
bytes : (g f : Format) (code t l d k : ℕ) → g ≡ f → t ≡ type_of g.graded code → l ≡ length_in g.table t → (l ≡ reserved → ⊥) → (l ≡ 0 → ⊥) → d ≡ damage_of g.graded code → k ≡ good_class g.sid t → frame (d + k) l ≡ frame_in f code
unfolding frame_in
bytes g f code t l d k e h1 h2 r z h3 h4 = subst (λ (x : Format). frame (d + k) l ≡ frame_in x code) e (rw (← h1, ← h2, ne_eqb l reserved r, ne_eqb l 0 z, ← h3, ← h4))

pub returns-then-facts-code : goal.returns-then-facts-code
returns-then-facts-code c =
    ap coded_numbers (sym (beyond c.args.format c.args.code
    (omega (arith, ap (λ (f : Format). f.codes) c.format_of-facts.ensures, c.if-facts-code.true))))

pub length_in-length-requires : goal.length_in-length-requires
length_in-length-requires c =
    let a = c.args in
    let e = c.format_of-facts.ensures in
    let l : a.code < (format_of a.format).codes = omega (arith, ap (λ (f : Format). f.codes) e, c.if-facts-code.false) in
    rw c.type_of-kind.ensures (subst (λ (f : Format). InTable f.table (type_of f.graded a.code)) (sym e) (in_table a.format a.code l))

pub returns-then-length-eq-RESERVED : goal.returns-then-length-eq-RESERVED
unfolding frame_in
returns-then-length-eq-RESERVED c =
    simp (← c.format_of-facts.ensures, ← c.type_of-kind.ensures, ← c.length_in-length.ensures, eq-eqb _ _ c.if-length-eq-RESERVED.true)

pub returns-then-length-eq0 : goal.returns-then-length-eq0
unfolding frame_in
returns-then-length-eq0 c =
    rw c.if-length-eq0.true (simp (← c.format_of-facts.ensures, ← c.type_of-kind.ensures, ← c.length_in-length.ensures, ne_eqb _ _ c.if-length-eq-RESERVED.false, eq-eqb _ _ c.if-length-eq0.true))

pub returns : goal.returns
returns c =
    ap coded_numbers
    (bytes _ _ _ _ _ _ _ c.format_of-facts.ensures c.type_of-kind.ensures c.length_in-length.ensures
    c.if-length-eq-RESERVED.false c.if-length-eq0.false c.damage_of.ensures.0 c.good_class.ensures.0)
