use mathlib.Core.Path.{◌≡◌, ap, sym, subst, ◌∙◌}
use Prim.Native.Nat.{ℕ, ◌-◌, ◌≤◌}
use native.Mathlib.Omega.{arith}
use lib.ListN.{length}
use Rattle.rtp.specs.Areas.{over}
use Rattle.rtp.proofs.AreaLaws.{part_length}
use Rattle.formats.specs.declared.facts.Format.{Format}
use Rattle.row_tags.specs.Tags.{tag_class}
use Rattle.write_plan.specs.declared.lists.RowWords.{RowWords}
use Rattle.write_payload.specs.Bytes.{start_bytes}
use Rattle.write_plan.specs.Room.{row_as, words_at}
use Rattle.write_payload.specs.Room.{GapRoom, StartRoom}
use Rattle.write_payload.proofs.EntryLaws.{room_start, room_gaps, put_plain, put_displaced}
use Rattle.write_payload.proofs.tables.put_entry.Goals.{After-min_entry-start, After-put_start}
use Rattle.write_payload.proofs.tables.put_entry.Goals as goal

-- the bytes before the displacements, as the list has them
start-at : (c : After-put_start) → let a = c.args in let ws = a.rows.now in
    c.put_start.new.out ≡ over (start_bytes a.format a.more (row_as (words_at ws 0)).class (row_as (words_at ws 0)).length a.blocks) a.out.now
start-at c =
    let a = c.args in
    c.put_start.ensures
    ∙ ap (λ (k : ℕ). over (start_bytes a.format a.more k c.first_row-row.result.length a.blocks) a.out.now) c.tag_class.ensures
    ∙ ap (λ (w : RowWords). over (start_bytes a.format a.more (tag_class w.tag) w.length a.blocks) a.out.now) c.first_row-row.ensures

-- the displacements come after them
within-at : (c : After-min_entry-start) → c.min_entry-start.result ≤ length c.put_start.new.out
within-at c =
    let a = c.args in omega (arith, c.min_entry-start.ensures, c.put_start.auto.out, (room_start a.format a.width a.blocks a.previous a.rows.now (length a.out.now) c.requires).room)

pub put_start-requires : goal.put_start-requires
put_start-requires c =
    let a = c.args in subst (λ (k : ℕ). StartRoom a.format k c.first_row-row.result.length a.blocks (length a.out.now)) (sym c.tag_class.ensures)
    (subst (λ (w : RowWords). StartRoom a.format (tag_class w.tag) w.length a.blocks (length a.out.now)) (sym c.first_row-row.ensures) (room_start a.format a.width a.blocks a.previous a.rows.now (length a.out.now) c.requires))

pub slice_bounds-put_gaps-count : goal.slice_bounds-put_gaps-count
slice_bounds-put_gaps-count c =
    within-at c

pub slice_bounds-put_gaps-start : goal.slice_bounds-put_gaps-start
slice_bounds-put_gaps-start c =
    omega (arith, within-at c)

pub put_gaps-requires : goal.put_gaps-requires
put_gaps-requires c =
    let a = c.args in rw (part_length c.put_start.new.out a.out.now c.min_entry-start.result c.put_start.auto.out)
    (subst (λ (k : ℕ). GapRoom a.format a.width a.blocks a.previous a.rows.now (length a.out.now - k)) (sym c.min_entry-start.ensures) (room_gaps a.format a.width a.blocks a.previous a.rows.now (length a.out.now) c.requires (ap (λ (f : Format). f.displaced) (sym c.format_of.ensures) ∙ c.if-format_of.true)))

pub returns-then-format_of : goal.returns-then-format_of
returns-then-format_of c =
    let a = c.args in put_displaced a.format a.width a.blocks a.previous a.rows.now a.more a.out.now c.put_start.new.out (start-at (goal.at.returns-then-format_of c).After-put_start) (ap (λ (f : Format). f.displaced) (sym c.format_of.ensures) ∙ c.if-format_of.true) _ c.min_entry-start.ensures _ c.put_gaps.ensures

pub returns-else-format_of : goal.returns-else-format_of
returns-else-format_of c =
    let a = c.args in put_plain a.format a.width a.blocks a.previous a.rows.now a.more a.out.now c.put_start.new.out (start-at (goal.at.returns-else-format_of c).After-put_start) (ap (λ (f : Format). f.displaced) (sym c.format_of.ensures) ∙ c.if-format_of.false)
