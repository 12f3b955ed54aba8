use mathlib.Core.Path.{◌≡◌, ap, sym, ◌∙◌}
use native.Mathlib.Omega.{arith}
use lib.ListN.{drop, length-drop}
use Rattle.rtp.proofs.AreaLaws.{part_to_end}
use Rattle.read_rows.specs.Rows.{rows_in}
use Rattle.write_parts.specs.Parts.{primary_time}
use Rattle.write_parts.proofs.ListsLaws.{primary_none, primary_one, primary_more}
use Prim.Native.Nat.{ℕ}
use Rattle.write_parts.proofs.sizes.+primary_time.Goals.{After-first_words-n}
use Rattle.write_parts.proofs.sizes.+primary_time.Goals as goal

more-at : (t : ℕ) (c : After-first_words-n t) → let a = c.args in
    primary_time a.counts.now (rows_in a.rows.now) ≡ primary_time (drop 1 a.counts.now) (rows_in (drop c.first_words-n.result a.rows.now))
more-at t c =
    let a = c.args in
    primary_more a.counts.now a.rows.now c.if-counts-lt2.false ∙ ap (λ (n : ℕ). primary_time (drop 1 a.counts.now) (rows_in (drop n a.rows.now))) (sym c.first_words-n.ensures.0)

pub returns-then-counts-eq0 : goal.returns-then-counts-eq0
returns-then-counts-eq0 t c =
    let a = c.args in sym (primary_none a.counts.now a.rows.now c.if-counts-eq0.true)

pub returns-then-counts-lt2 : goal.returns-then-counts-lt2
returns-then-counts-lt2 t c =
    let a = c.args in c.first_time.ensures ∙ sym (primary_one a.counts.now a.rows.now c.if-counts-lt2.true (omega (arith, c.if-counts-eq0.false)))

pub offset_bounds-rows-n : goal.offset_bounds-rows-n
offset_bounds-rows-n t c =
    omega (arith, c.first_words-n.ensures.1)

pub slice_bounds-primary_time-count-2 : goal.slice_bounds-primary_time-count-2
slice_bounds-primary_time-count-2 t c =
    c.first_words-n.ensures.1

pub slice_bounds-primary_time-start-2 : goal.slice_bounds-primary_time-start-2
slice_bounds-primary_time-start-2 t c =
    omega (arith, c.first_words-n.ensures.1)

pub primary_time-requires : goal.primary_time-requires
primary_time-requires t c =
    (rw (part_to_end 1 c.args.counts.now, length-drop) (omega (arith, c.if-counts-lt2.false)), c.requires)

pub returns : goal.returns
returns t c =
    let a = c.args in c.primary_time.ensures ∙ rw (part_to_end 1 a.counts.now, part_to_end c.first_words-n.result a.rows.now) (sym (more-at t (goal.at.returns t c).After-first_words-n))
