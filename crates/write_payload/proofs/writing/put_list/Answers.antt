use mathlib.Core.Path.{◌≡◌, ap, subst, sym, ◌∙◌}
use Prim.Native.Nat.{ℕ}
use native.Mathlib.Omega.{arith}
use lib.ListN.{length, get_or}
use Rattle.rtp.specs.Editions.{current}
use Rattle.rtp.specs.Time.{difference}
use Rattle.rtp.specs.Areas.{over}
use Rattle.rtp.proofs.AreaLaws.{part_length}
use Rattle.formats.specs.Formats.{step_of}
use Rattle.write_plan.specs.Lists.{rows_in}
use Rattle.write_plan.specs.Entries.{in_entries}
use Rattle.write_plan.specs.Plans.{plan_from}
use Rattle.write_payload.specs.Room.{timed, TableRoom, plan_bytes}
use Rattle.write_payload.proofs.PayloadLaws.{payload_row, payload_table, table_room, frames_room, put_both}
use Rattle.write_payload.proofs.writing.put_list.Goals.{After-difference-previous}
use Rattle.write_payload.proofs.writing.put_list.Goals as goal

-- the place before the list's first frame-block
previous-is : (c : After-difference-previous) → let a = c.args in c.difference-previous.result ≡ difference (get_or a.rows.now 0 0) (step_of a.asked.format)
previous-is c =
    let a = c.args in c.difference-previous.ensures ∙ ap (difference (get_or a.rows.now 0 0)) c.step_of.ensures

pub bounds-rows-0 : goal.bounds-rows-0
bounds-rows-0 c =
    let a = c.args in omega (arith, payload_row current a.asked.format a.asked.channels a.table a.rows.now a.bytes.now (length a.out.now) c.requires)

pub put_table-requires : goal.put_table-requires
put_table-requires c =
    let a = c.args in subst (λ (n : ℕ). TableRoom current a.asked.format a.asked.channels n a.rows.now (length a.out.now)) (sym (previous-is (goal.at.put_table-requires c).After-difference-previous)) (table_room current a.asked.format a.asked.channels a.table a.rows.now a.bytes.now (length a.out.now) c.requires)

pub slice_bounds-put_frames-count : goal.slice_bounds-put_frames-count
slice_bounds-put_frames-count c =
    let a = c.args in omega (arith, payload_table current a.asked.format a.asked.channels a.table a.rows.now a.bytes.now (length a.out.now) c.requires, c.put_table.auto.out)

pub slice_bounds-put_frames-start : goal.slice_bounds-put_frames-start
slice_bounds-put_frames-start c =
    let a = c.args in omega (arith, payload_table current a.asked.format a.asked.channels a.table a.rows.now a.bytes.now (length a.out.now) c.requires, c.put_table.auto.out)

pub put_frames-requires : goal.put_frames-requires
put_frames-requires c =
    let a = c.args in rw (part_length c.put_table.new.out a.out.now a.table c.put_table.auto.out) (frames_room current a.asked.format a.asked.channels a.table a.rows.now a.bytes.now (length a.out.now) c.requires)

pub returns : goal.returns
returns c =
    let a = c.args in
    put_both current a.asked.format a.asked.channels a.table a.rows.now a.bytes.now (length a.out.now) c.requires a.out.now c.put_table.new.out _
    (c.put_table.ensures ∙ ap (λ (n : ℕ). over (plan_bytes a.asked.format (in_entries (plan_from a.asked.format a.asked.channels 0 (timed n) (rows_in a.rows.now)))) a.out.now) (previous-is (goal.at.returns c).After-difference-previous)) c.put_frames.ensures
