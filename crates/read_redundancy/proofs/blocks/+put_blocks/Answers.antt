use Rattle.rtp.specs.Editions.{current}
use Rattle.std.specs.Prelude.{Ok}
use Rattle.row_tags.specs.Tags.{redundant_mark}
use lib.ListN.{length, take, drop, length-take}
use mathlib.Core.Path.{◌≡◌, ap, sym, ◌∙◌}
use native.Mathlib.Omega.{arith}
use Rattle.rtp.specs.Areas.{over}
use Rattle.rtp.specs.Sizes.{row_width, max_packet, max_rows}
use Rattle.read_headers.specs.Redundancy.{block_header}
use Rattle.read_headers.specs.declared.redundancy.BlockHeader.{BlockHeader}
use Rattle.rtp.proofs.AreaLaws.{part_length, part_to_end}
use Rattle.read_headers.proofs.RedundancyLaws.{fair, shorter}
use Rattle.read_payload.specs.Payloads.{Rows, rows_answer, rows_words}
use Rattle.read_payload.proofs.PayloadLaws.{words_none}
use Rattle.read_redundancy.specs.Room.{asked_block}
use Rattle.read_redundancy.proofs.BlockLaws.{from_refused, block_in, first_few, first_taken, asked_primary, room_rest, put_rest}
use Rattle.read_headers.proofs.NumberLaws.{same_block}
use Prim.Native.Nat.{ℕ, ◌+◌, ◌-◌, ◌*◌, ◌<◌, ◌≤◌}
use Rattle.read_redundancy.proofs.blocks.+put_blocks.Goals.{After-put_block-in-Ok-Redundant, In-Ok-Redundant, In-Ok}
use Rattle.read_redundancy.proofs.blocks.+put_blocks.Goals as goal

-- the block header that was read
read_at : (t : ℕ) (c : In-Ok-Redundant t) → block_header c.args.headers.now ≡ Ok (BlockHeader.Redundant c.in-Ok-Redundant.block)
read_at t c =
    sym (same_block _ _ c.read_block_header.ensures) ∙ c.in-Ok-Redundant.is ∙ ap Ok c.in-Ok-Redundant.field-0-is

block_at : (t : ℕ) (c : In-Ok-Redundant t) → c.in-Ok-Redundant.block.length ≤ length c.args.s.now
block_at t c =
    let a = c.args in block_in current a.settings a.place.done (length a.rows.now) a.place.time a.place.at a.headers.now a.s.now c.requires.asked c.requires.area_fits _ (read_at t c)

inside-at : (t : ℕ) (c : In-Ok-Redundant t) → c.args.place.at + c.in-Ok-Redundant.block.length ≤ max_packet
inside-at t c =
    omega (arith, block_at t c, c.requires.asked.inside)

-- the rows of its block
here_at : (t : ℕ) (c : In-Ok t) → let a = c.args in let e = c.in-Ok-Redundant.block in
    rows_answer (asked_block current redundant_mark a.settings a.place.done (length a.rows.now) a.place.time e.payload_type e.offset a.place.at (take e.length a.s.now)) ≡ Ok c.in-Ok.here
here_at t c =
    sym c.put_block-in-Ok-Redundant.ensures.0 ∙ c.in-Ok.is

few-at : (t : ℕ) (c : In-Ok t) → block_header c.args.headers.now ≡ Ok (BlockHeader.Redundant c.in-Ok-Redundant.block) → c.args.place.done + c.in-Ok.here ≤ max_rows current
few-at t c h =
    let a = c.args in first_few current a.settings a.place.done (length a.rows.now) a.place.time a.place.at a.headers.now a.s.now c.requires.asked c.requires.area_fits _ h _ _ (here_at t c)

kept_at : (t : ℕ) (c : After-put_block-in-Ok-Redundant t) → length ((c.put_block-in-Ok-Redundant.new.rows)) ≡ length c.args.rows.now
kept_at t c =
    c.put_block-in-Ok-Redundant.auto.rows

pub slice_bounds-put_block-end : goal.slice_bounds-put_block-end
slice_bounds-put_block-end t c =
    simp length-take (omega (arith, block_at t c))

pub overflow_mul-width : goal.overflow_mul-width
overflow_mul-width t c =
    omega (arith, few-at t c (read_at t (goal.at.overflow_mul-width t c).In-Ok-Redundant))

pub overflow_add-next : goal.overflow_add-next
overflow_add-next t c =
    let p = goal.at.overflow_add-next t c in omega (arith, few-at t p.In-Ok (read_at t p.In-Ok-Redundant))

pub overflow_cast-next : goal.overflow_cast-next
overflow_cast-next t c =
    omega (arith, inside-at t (goal.at.overflow_cast-next t c).In-Ok-Redundant)

pub overflow_add-next-in-Ok : goal.overflow_add-next-in-Ok
overflow_add-next-in-Ok t c =
    omega (arith, inside-at t (goal.at.overflow_add-next-in-Ok t c).In-Ok-Redundant)

pub slice_bounds-put_blocks-count : goal.slice_bounds-put_blocks-count
slice_bounds-put_blocks-count t c =
    (fair _ _ (read_at t (goal.at.slice_bounds-put_blocks-count t c).In-Ok-Redundant)).within

pub slice_bounds-put_blocks-start : goal.slice_bounds-put_blocks-start
slice_bounds-put_blocks-start t c =
    omega (arith, (fair _ _ (read_at t (goal.at.slice_bounds-put_blocks-start t c).In-Ok-Redundant)).within)

pub slice_bounds-put_blocks-count-in-Ok : goal.slice_bounds-put_blocks-count-in-Ok
slice_bounds-put_blocks-count-in-Ok t c =
    block_at t (goal.at.slice_bounds-put_blocks-count-in-Ok t c).In-Ok-Redundant

pub slice_bounds-put_blocks-start-in-Ok : goal.slice_bounds-put_blocks-start-in-Ok
slice_bounds-put_blocks-start-in-Ok t c =
    omega (arith, block_at t (goal.at.slice_bounds-put_blocks-start-in-Ok t c).In-Ok-Redundant)

pub offset_bounds-rows-width : goal.offset_bounds-rows-width
offset_bounds-rows-width t c =
    let p = goal.at.offset_bounds-rows-width t c in omega (arith, few-at t p.In-Ok (read_at t p.In-Ok-Redundant))

pub slice_bounds-put_blocks-count-in-Ok-2 : goal.slice_bounds-put_blocks-count-in-Ok-2
slice_bounds-put_blocks-count-in-Ok-2 t c =
    let p = goal.at.slice_bounds-put_blocks-count-in-Ok-2 t c in omega (arith, few-at t p.In-Ok (read_at t p.In-Ok-Redundant), c.requires.area_fits, kept_at t p.After-put_block-in-Ok-Redundant)

pub slice_bounds-put_blocks-start-in-Ok-2 : goal.slice_bounds-put_blocks-start-in-Ok-2
slice_bounds-put_blocks-start-in-Ok-2 t c =
    let p = goal.at.slice_bounds-put_blocks-start-in-Ok-2 t c in omega (arith, few-at t p.In-Ok (read_at t p.In-Ok-Redundant), c.requires.area_fits, kept_at t p.After-put_block-in-Ok-Redundant)

pub put_blocks-requires : goal.put_blocks-requires
put_blocks-requires t c =
    let a = c.args in
    let e = c.in-Ok-Redundant.block in
    let n = c.in-Ok.here in
    let q : length (take (length a.headers.now - 4) (drop 4 a.headers.now)) < length a.headers.now = rw part_to_end (shorter _ e (read_at t (goal.at.put_blocks-requires t c).In-Ok-Redundant)) in (
      omega (arith, q),
      rw (part_to_end 4 a.headers.now, part_to_end e.length a.s.now, part_length ((c.put_block-in-Ok-Redundant.new.rows)) a.rows.now (row_width * n) (kept_at t (goal.at.put_blocks-requires t c).After-put_block-in-Ok-Redundant))
          (room_rest current a.settings a.place.done a.place.time a.place.at (length a.rows.now) a.headers.now a.s.now c.requires e (read_at t (goal.at.put_blocks-requires t c).In-Ok-Redundant) n (here_at t (goal.at.put_blocks-requires t c).In-Ok)),
    )

pub returns-in-Err : goal.returns-in-Err
returns-in-Err t c =
    let a = c.args in words_none _ _ a.rows.now (from_refused current a.settings a.place.done a.place.time a.place.at a.headers.now a.s.now _ (sym (same_block _ _ c.read_block_header.ensures) ∙ c.in-Err.is))

pub returns-in-Ok-Primary : goal.returns-in-Ok-Primary
returns-in-Ok-Primary t c =
    let a = c.args in c.put_block.ensures.1 ∙ ap (λ (x : Rows). over (rows_words x) a.rows.now) (asked_primary current a.settings a.place.done (length a.rows.now) a.place.time a.place.at a.headers.now a.s.now c.requires.asked c.requires.area_fits _ (sym (same_block _ _ c.read_block_header.ensures) ∙ c.in-Ok-Primary.is ∙ ap Ok c.in-Ok-Primary.field-0-is))

pub returns-in_default : goal.returns-in_default
returns-in_default t c =
    let a = c.args in absurd (first_taken current a.settings a.place.done a.place.time a.place.at (length a.rows.now) a.headers.now a.s.now c.requires _ (read_at t (goal.at.returns-in_default t c).In-Ok-Redundant) _ (sym c.put_block-in-Ok-Redundant.ensures.0 ∙ c.in_default.is))

pub returns-in-Ok : goal.returns-in-Ok
returns-in-Ok t c =
    let a = c.args in
    let p = goal.at.returns-in-Ok t c in
    let e = c.in-Ok-Redundant.block in
    put_rest current a.settings a.place.done a.place.time a.place.at (length a.rows.now) a.headers.now a.s.now c.requires e (read_at t p.In-Ok-Redundant) _ (here_at t p.In-Ok) a.rows.now ((c.put_block-in-Ok-Redundant.new.rows)) _ c.put_block-in-Ok-Redundant.ensures.1
    (rw (part_to_end 4 a.headers.now, part_to_end e.length a.s.now) at c.put_blocks.ensures)
