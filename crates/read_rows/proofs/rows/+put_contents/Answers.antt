use Rattle.rtp.specs.Editions.{current}
use Rattle.std.specs.Prelude.{Ok}
use Rattle.formats.specs.Frames.{max_class}
use Rattle.std.proofs.Common.{◌≡◌, ℕ, ◌+◌, ◌-◌, ◌*◌, ◌<◌, ◌≤◌, true, length, take, drop, sym, ◌∙◌, arith}
use Rattle.rtp.specs.Sizes.{row_width, max_rows}
use Rattle.rtp.proofs.AreaLaws.{part_length, part_to_end}
use Rattle.read_contents.specs.Contents.{entry_of, contents, sizes_answer}
use Rattle.read_rows.specs.Room.{GroupRoom, TableRoom}
use Rattle.read_contents.proofs.EntryLaws.{fair}
use Rattle.read_contents.proofs.ContentsLaws.{shorter}
use Rattle.read_rows.proofs.TableLaws.{room_few, room_group, room_rest, put_refused, put_last, put_more}
use Rattle.read_contents.proofs.NumberLaws.{same_entry}
use Rattle.read_rows.proofs.rows.+put_contents.Goals.{In-Ok}
use Rattle.read_rows.proofs.rows.+put_contents.Goals as goal

-- the entry that was read, and the room that is there
read_at : (t : ℕ) (c : In-Ok t) → entry_of c.args.payload.now.format c.args.s.now ≡ Ok c.in-Ok.entry
read_at t c =
    sym (same_entry _ _ c.read_entry.ensures) ∙ c.in-Ok.is

few-at : (t : ℕ) (c : In-Ok t) → let a = c.args in a.done + c.in-Ok.entry.blocks * a.payload.now.channels ≤ max_rows current
few-at t c =
    let a = c.args in room_few current a.payload.now.format a.payload.now.channels a.done a.start (length a.rows.now) a.s.now _ (read_at t c) c.requires

room_at : (t : ℕ) (c : In-Ok t) → let a = c.args in let e = c.in-Ok.entry in
    GroupRoom e.blocks a.payload.now.channels a.start e.length (length a.rows.now)
room_at t c =
    let a = c.args in room_group current a.payload.now.format a.payload.now.channels a.done a.start (length a.rows.now) a.s.now _ (read_at t c) c.requires

rest_at : (t : ℕ) (c : In-Ok t) → c.in-Ok.entry.more ≡ true → let a = c.args in let e = c.in-Ok.entry in
    TableRoom a.payload.now.channels (a.start + e.blocks * a.payload.now.channels * e.length) (length a.rows.now - row_width * (e.blocks * a.payload.now.channels))
    (sizes_answer a.payload.now.format a.payload.now.channels (contents current a.payload.now.format a.payload.now.channels (a.done + e.blocks * a.payload.now.channels) (drop e.size a.s.now)))
rest_at t c m =
    let a = c.args in room_rest current a.payload.now.format a.payload.now.channels a.done a.start (length a.rows.now) a.s.now _ (read_at t c) c.requires m

-- the entry's class is one of the paper's
class-at : (t : ℕ) (c : In-Ok t) → c.in-Ok.entry.class ≤ max_class
class-at t c =
    (fair _ _ _ (read_at t c)).classes

pub overflow_cast-frame : goal.overflow_cast-frame
overflow_cast-frame t c =
    omega (arith, class-at t (goal.at.overflow_cast-frame t c).In-Ok)

pub put_group-next-requires : goal.put_group-next-requires
put_group-next-requires t c =
    room_at t (goal.at.put_group-next-requires t c).In-Ok

pub overflow_mul-here : goal.overflow_mul-here
overflow_mul-here t c =
    omega (arith, few-at t (goal.at.overflow_mul-here t c).In-Ok)

pub overflow_mul-width : goal.overflow_mul-width
overflow_mul-width t c =
    omega (arith, few-at t (goal.at.overflow_mul-width t c).In-Ok)

pub offset_bounds-rows-width : goal.offset_bounds-rows-width
offset_bounds-rows-width t c =
    omega (arith, few-at t (goal.at.offset_bounds-rows-width t c).In-Ok)

pub slice_bounds-put_contents-count : goal.slice_bounds-put_contents-count
slice_bounds-put_contents-count t c =
    let r = room_at t (goal.at.slice_bounds-put_contents-count t c).In-Ok in omega (arith, r.area_fits, c.put_group-next.auto.rows)

pub slice_bounds-put_contents-start : goal.slice_bounds-put_contents-start
slice_bounds-put_contents-start t c =
    let r = room_at t (goal.at.slice_bounds-put_contents-start t c).In-Ok in omega (arith, r.area_fits, c.put_group-next.auto.rows)

pub slice_bounds-put_contents-count-then-entry : goal.slice_bounds-put_contents-count-then-entry
slice_bounds-put_contents-count-then-entry t c =
    (fair _ _ _ (read_at t (goal.at.slice_bounds-put_contents-count-then-entry t c).In-Ok)).within

pub slice_bounds-put_contents-start-then-entry : goal.slice_bounds-put_contents-start-then-entry
slice_bounds-put_contents-start-then-entry t c =
    omega (arith, (fair _ _ _ (read_at t (goal.at.slice_bounds-put_contents-start-then-entry t c).In-Ok)).within)

pub overflow_add-done : goal.overflow_add-done
overflow_add-done t c =
    omega (arith, few-at t (goal.at.overflow_add-done t c).In-Ok)

pub overflow_mul-here-then-entry : goal.overflow_mul-here-then-entry
overflow_mul-here-then-entry t c =
    let r = room_at t (goal.at.overflow_mul-here-then-entry t c).In-Ok in omega (arith, r.frames_fit)

pub overflow_add-start : goal.overflow_add-start
overflow_add-start t c =
    let r = room_at t (goal.at.overflow_add-start t c).In-Ok in omega (arith, r.frames_fit)

pub put_contents-requires : goal.put_contents-requires
put_contents-requires t c =
    let a = c.args in
    let e = c.in-Ok.entry in
    let q : length (take (length a.s.now - e.size) (drop e.size a.s.now)) < length a.s.now =
    rw part_to_end (shorter a.payload.now.format a.s.now e (read_at t (goal.at.put_contents-requires t c).In-Ok)) in (
      omega (arith, q),
      rw (part_length c.put_group-next.new.rows a.rows.now (row_width * (e.blocks * a.payload.now.channels)) c.put_group-next.auto.rows, part_to_end e.size a.s.now) (rest_at t (goal.at.put_contents-requires t c).In-Ok c.if-entry.true),
    )

pub returns-in_default : goal.returns-in_default
returns-in_default t c =
    let a = c.args in put_refused current a.payload.now.mark a.payload.now.format a.payload.now.channels a.time a.start a.done a.s.now a.rows.now _ (sym (same_entry _ _ c.read_entry.ensures) ∙ c.in_default.is)

pub returns-then-entry : goal.returns-then-entry
returns-then-entry t c =
    let a = c.args in
    let e = c.in-Ok.entry in
    put_more current a.payload.now.mark a.payload.now.format a.payload.now.channels a.time a.start a.done a.s.now a.rows.now e (read_at t (goal.at.returns-then-entry t c).In-Ok) (few-at t (goal.at.returns-then-entry t c).In-Ok) _ c.put_group-next.ensures.1
    c.if-entry.true _ c.put_group-next.result _ (rest_at t (goal.at.returns-then-entry t c).In-Ok c.if-entry.true) c.put_group-next.ensures.0 c.put_contents.ensures

pub returns-else-entry : goal.returns-else-entry
returns-else-entry t c =
    let a = c.args in
    let e = c.in-Ok.entry in
    put_last current a.payload.now.mark a.payload.now.format a.payload.now.channels a.time a.start a.done a.s.now a.rows.now e (read_at t (goal.at.returns-else-entry t c).In-Ok) (few-at t (goal.at.returns-else-entry t c).In-Ok) _ c.put_group-next.ensures.1 c.if-entry.false
