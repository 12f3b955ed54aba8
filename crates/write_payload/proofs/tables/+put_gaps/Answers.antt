use mathlib.Core.Path.{ap, ◌∙◌}
use mathlib.Core.List.{List}
use native.Mathlib.Omega.{arith}
use lib.ListN.{length, get_or, take, drop, set, length-set}
use Rattle.rtp.specs.Areas.{over}
use Rattle.rtp.proofs.AreaLaws.{part_length, part_to_end}
use Rattle.formats.specs.Formats.{step_of}
use Rattle.write_plan.specs.Plans.{gap_between}
use Rattle.write_payload.specs.Bytes.{halves}
use Rattle.write_payload.specs.Room.{block_gaps, GapRoom}
use Rattle.write_payload.proofs.GapLaws.{one_words, one_small, two_words, two_small, two_rest, put_no_gap, put_one_gap, put_two_gaps}
use Prim.Native.Nat.{ℕ, ◌+◌, ◌-◌, ◌*◌, ◌≤◌, ◌<◌}
use Rattle.write_payload.proofs.tables.+put_gaps.Goals.{After-gap_between, After-gap_between-high, After-shared_slice_known-2-1, Else-blocks-eq1}
use Rattle.write_payload.proofs.tables.+put_gaps.Goals as goal

-- the room at the first frame-block, and at two
words-at : (t : ℕ) (c : After-shared_slice_known-2-1 t) → c.args.width ≤ length c.args.rows.now
words-at t c =
    let a = c.args in one_words a.format a.width a.blocks a.previous a.rows.now (length a.out.now) c.requires c.if-blocks-eq0.false

small_at : (t : ℕ) (c : After-gap_between-high t) → c.gap_between-high.result < 16
small_at t c =
    let a = c.args in omega (arith, c.gap_between-high.ensures, one_small a.format a.width a.blocks a.previous a.rows.now (length a.out.now) c.requires c.if-blocks-eq0.false)

two_at : (t : ℕ) (c : Else-blocks-eq1 t) → 2 * c.args.width ≤ length c.args.rows.now
two_at t c =
    let a = c.args in two_words a.format a.width a.blocks a.previous a.rows.now (length a.out.now) c.requires c.if-blocks-eq0.false c.if-blocks-eq1.false

both_at : (t : ℕ) (c : After-gap_between t) → 16 * c.gap_between-high.result + c.gap_between.result < 256
both_at t c =
    let small_at : c.gap_between-high.result < 16 = let a = c.args in omega (arith, c.gap_between-high.ensures, one_small a.format a.width a.blocks a.previous a.rows.now (length a.out.now) c.requires c.if-blocks-eq0.false) in
    let a = c.args in omega (arith, small_at, c.gap_between.ensures, two_small a.format a.width a.blocks a.previous a.rows.now (length a.out.now) c.requires c.if-blocks-eq0.false c.if-blocks-eq1.false)

rest_at : (t : ℕ) (c : Else-blocks-eq1 t) → let a = c.args in
    GapRoom a.format a.width (a.blocks - 2) (get_or a.rows.now a.width 0) (drop (2 * a.width) a.rows.now) (length a.out.now - 1)
rest_at t c =
    let a = c.args in two_rest a.format a.width a.blocks a.previous a.rows.now (length a.out.now) c.requires c.if-blocks-eq0.false c.if-blocks-eq1.false

pub returns-then-blocks-eq0 : goal.returns-then-blocks-eq0
returns-then-blocks-eq0 t c =
    let a = c.args in put_no_gap (step_of a.format) a.width a.blocks a.previous a.rows.now a.out.now c.if-blocks-eq0.true

pub bounds-rows-0 : goal.bounds-rows-0
bounds-rows-0 t c =
    let words : c.args.width ≤ length c.args.rows.now =
    let a = c.args in one_words a.format a.width a.blocks a.previous a.rows.now (length a.out.now) c.requires c.if-blocks-eq0.false in
    omega (arith, words, c.requires.wide)

pub overflow_mul-high : goal.overflow_mul-high
overflow_mul-high t c =
    omega (arith, small_at t c)

pub overflow_cast-out : goal.overflow_cast-out
overflow_cast-out t c =
    omega (arith, small_at t (goal.at.overflow_cast-out t c).After-gap_between-high)

pub bounds-out-0 : goal.bounds-out-0
bounds-out-0 t c =
    omega (arith, c.requires.room, c.if-blocks-eq1.true)

pub returns-then-blocks-eq1 : goal.returns-then-blocks-eq1
returns-then-blocks-eq1 t c =
    let a = c.args in put_one_gap (step_of a.format) a.width a.blocks a.previous a.rows.now a.out.now c.if-blocks-eq1.true _ (ap (λ (n : ℕ). 16 * n) c.gap_between-high.ensures) (omega (arith, c.requires.room, c.if-blocks-eq1.true))

pub offset_bounds-rows-width : goal.offset_bounds-rows-width
offset_bounds-rows-width t c =
    omega (arith, words-at t (goal.at.offset_bounds-rows-width t c).After-shared_slice_known-2-1)

pub bounds-rows-width : goal.bounds-rows-width
bounds-rows-width t c =
    omega (arith, two_at t (goal.at.bounds-rows-width t c).Else-blocks-eq1, c.requires.wide)

pub overflow_add-out : goal.overflow_add-out
overflow_add-out t c =
    omega (arith, both_at t c)

pub overflow_cast-out-2 : goal.overflow_cast-out-2
overflow_cast-out-2 t c =
    omega (arith, both_at t c)

pub bounds-out-0-2 : goal.bounds-out-0-2
bounds-out-0-2 t c =
    omega (arith, c.requires.room, c.if-blocks-eq1.false, c.if-blocks-eq0.false)

pub overflow_mul-two : goal.overflow_mul-two
overflow_mul-two t c =
    omega (arith, two_at t (goal.at.overflow_mul-two t c).Else-blocks-eq1)

pub overflow_sub-blocks : goal.overflow_sub-blocks
overflow_sub-blocks t c =
    omega (arith, c.if-blocks-eq1.false, c.if-blocks-eq0.false)

pub offset_bounds-rows-two : goal.offset_bounds-rows-two
offset_bounds-rows-two t c =
    omega (arith, two_at t (goal.at.offset_bounds-rows-two t c).Else-blocks-eq1)

pub slice_bounds-put_gaps-count : goal.slice_bounds-put_gaps-count
slice_bounds-put_gaps-count t c =
    omega (arith, two_at t (goal.at.slice_bounds-put_gaps-count t c).Else-blocks-eq1)

pub slice_bounds-put_gaps-start : goal.slice_bounds-put_gaps-start
slice_bounds-put_gaps-start t c =
    omega (arith, two_at t (goal.at.slice_bounds-put_gaps-start t c).Else-blocks-eq1)

pub slice_bounds-put_gaps-count-2 : goal.slice_bounds-put_gaps-count-2
slice_bounds-put_gaps-count-2 t c =
    simp length-set (omega (arith, c.requires.room, c.if-blocks-eq1.false, c.if-blocks-eq0.false))

pub slice_bounds-put_gaps-start-2 : goal.slice_bounds-put_gaps-start-2
slice_bounds-put_gaps-start-2 t c =
    simp length-set (omega (arith, c.requires.room, c.if-blocks-eq1.false, c.if-blocks-eq0.false))

pub put_gaps-requires : goal.put_gaps-requires
put_gaps-requires t c =
    let a = c.args in
    let v = 16 * c.gap_between-high.result + c.gap_between.result in
    (omega (arith, c.if-blocks-eq1.false, c.if-blocks-eq0.false), rw (part_length (set a.out.now 0 v) a.out.now 1 (length-set a.out.now 0 v), part_to_end (2 * a.width) a.rows.now) (rest_at t (goal.at.put_gaps-requires t c).Else-blocks-eq1))

pub shape_of-out : goal.shape_of-out
shape_of-out t c =
    omega (arith, length-set c.args.out.now 0 (16 * c.gap_between-high.result + c.gap_between.result))

pub returns : goal.returns
returns t c =
    let a = c.args in
    let v = 16 * c.gap_between-high.result + c.gap_between.result in
    put_two_gaps (step_of a.format) a.width a.blocks a.previous a.rows.now a.out.now c.if-blocks-eq0.false c.if-blocks-eq1.false v
    (ap (λ (n : ℕ). 16 * n + c.gap_between.result) c.gap_between-high.ensures ∙ ap (λ (n : ℕ). 16 * gap_between (step_of a.format) a.previous (get_or a.rows.now 0 0) + n) c.gap_between.ensures)
    (omega (arith, c.requires.room, c.if-blocks-eq1.false, c.if-blocks-eq0.false)) _
    (c.put_gaps.ensures ∙ ap (λ (l : List ℕ). over (halves (block_gaps (step_of a.format) a.width (a.blocks - 2) (get_or a.rows.now a.width 0) l)) (take (length (set a.out.now 0 v) - 1) (drop 1 (set a.out.now 0 v)))) (part_to_end (2 * a.width) a.rows.now))
