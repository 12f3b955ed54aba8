use lib.ListN.{length, drop, length-drop}
use Rattle.std.specs.Prelude.{Err, Ok, Result}
use Rattle.rtp.specs.declared.refusal.Fault.{Fault}
use Rattle.std.specs.Prelude.{ℕ}
use mathlib.Core.Path.{◌≡◌, ap, sym, subst, ◌∙◌}
use Prim.Native.Nat.{◌+◌, ◌<◌, ◌^◌}
use native.Mathlib.Omega.{arith}
use Rattle.rtp.specs.Editions.{current}
use Rattle.rtp.specs.Areas.{over}
use Rattle.read_headers.specs.Redundancy.{redundancy_headers, headers_answer}
use Rattle.rtp.proofs.ErrorLaws.{err_is, told_ok, told_err}
use Rattle.rtp.proofs.AreaLaws.{part_to_end}
use Rattle.read_headers.proofs.RedundancyLaws.{Small}
use Rattle.read_payload.specs.Payloads.{Rows, rows_answer, rows_words}
use Rattle.read_redundancy.specs.Blocks.{redundant_rows}
use Rattle.read_redundancy.specs.Room.{blocks_from}
use Rattle.read_redundancy.proofs.AnswerLaws.{gives_none, only_refusal, further, Inside}
use Rattle.read_redundancy.proofs.BlockLaws.{from_inside}
use Rattle.read_redundancy.proofs.SplitLaws.{split_refused, split_place, split_short, split_small, split_blocks, split_answer, split_asked, split_room}
use Rattle.read_headers.proofs.NumberLaws.{headers_is}
use Rattle.read_redundancy.proofs.blocks.read_blocks.Goals.{After-check_blocks, After-shifted, In_ok-sizes}
use Rattle.read_redundancy.proofs.blocks.read_blocks.Goals as goal

-- a place at fault in the block headers
headers_near : (c : After-shifted) → (f : Fault) → c.read_headers.result ≡ Err f → c.args.at + f.offset < 2 ^ 64
headers_near c f h =
    let a = c.args in
    omega (arith, split_place current a.settings a.timestamp a.at a.s.now c.requires.2 _ (sym (headers_is _ _ c.read_headers.ensures) ∙ h), c.requires.2)

-- the sizes of the block headers that were read
sizes-at : (c : In_ok-sizes) → ((f : Fault) → c.read_headers.result ≡ Err f → c.args.at + f.offset < 2 ^ 64) → headers_answer (redundancy_headers c.args.s.now) ≡ Ok c.in_ok-sizes.sizes
sizes-at c k =
    sym (headers_is _ _ c.read_headers.ensures) ∙ told_ok _ _ _ _ c.shifted.ensures k c.in_ok-sizes.was

small_at : (c : In_ok-sizes) → headers_answer (redundancy_headers c.args.s.now) ≡ Ok c.in_ok-sizes.sizes → Small (length c.args.s.now) c.in_ok-sizes.sizes
small_at c h =
    let a = c.args in split_small current a.settings a.timestamp a.at a.s.now c.requires.2 _ h (λ i. (c.shared_slice_known-1.given i).fits)

-- the answer, as the call of check_blocks found it
checked-at : (c : After-check_blocks) → let a = c.args in
    c.check_blocks.result ≡ rows_answer (blocks_from current a.settings 0 0 0 a.s.now (drop c.in_ok-sizes.sizes.size a.s.now))
checked-at c =
    c.check_blocks.ensures ∙ rw (part_to_end c.in_ok-sizes.sizes.size c.args.s.now)

answer_at : (c : After-check_blocks) → headers_answer (redundancy_headers c.args.s.now) ≡ Ok c.in_ok-sizes.sizes → let a = c.args in
    rows_answer (redundant_rows current a.settings a.timestamp a.at a.s.now) ≡ further (a.at + c.in_ok-sizes.sizes.size) c.check_blocks.result
answer_at c h =
    let a = c.args in split_answer current a.settings a.timestamp a.at a.s.now c.requires.2 _ h c.if-s-size.false ∙ ap (further (a.at + c.in_ok-sizes.sizes.size)) (sym (checked-at c))

-- a place at fault in the blocks
blocks_near : (c : After-check_blocks) → headers_answer (redundancy_headers c.args.s.now) ≡ Ok c.in_ok-sizes.sizes → Small (length c.args.s.now) c.in_ok-sizes.sizes
    → (f : Fault) → c.check_blocks.result ≡ Err f → c.args.at + c.in_ok-sizes.sizes.size + f.offset < 2 ^ 64
blocks_near c h small f k =
    let a = c.args in
    let z = c.in_ok-sizes.sizes in
    let asked = split_asked current a.settings a.timestamp a.at a.s.now c.requires.2 z h c.if-s-size.false c.requires.0 small.within 0 (omega arith) in
    let w : Inside (0 + length (drop z.size a.s.now)) (Err f) = subst (λ (p : Result ℕ Fault). Inside (0 + length (drop z.size a.s.now)) p) (sym (checked-at c) ∙ k)
    (from_inside current a.settings 0 0 0 a.s.now (drop z.size a.s.now) asked.headed) in
    omega (arith, w, length-drop z.size a.s.now, small.within, c.requires.2)

pub overflow_add-front : goal.overflow_add-front
overflow_add-front c =
    let p = goal.at.overflow_add-front c in
    omega (arith, (small_at p.In_ok-sizes (sizes-at p.In_ok-sizes (headers_near p.After-shifted))).within, c.requires.2)

pub overflow_sub-s : goal.overflow_sub-s
overflow_sub-s c =
    let p = goal.at.overflow_sub-s c in
    (small_at p.In_ok-sizes (sizes-at p.In_ok-sizes (headers_near p.After-shifted))).within

pub returns-then-s-size : goal.returns-then-s-size
returns-then-s-size c =
    let a = c.args in
    let p = goal.at.returns-then-s-size c in
    gives_none _ a.rows.now _ (split_short current a.settings a.timestamp a.at a.s.now c.requires.2 _ (sizes-at p.In_ok-sizes (headers_near p.After-shifted)) c.if-s-size.true)

pub slice_bounds-check_blocks-count : goal.slice_bounds-check_blocks-count
slice_bounds-check_blocks-count c =
    let p = goal.at.slice_bounds-check_blocks-count c in
    (small_at p.In_ok-sizes (sizes-at p.In_ok-sizes (headers_near p.After-shifted))).within

pub slice_bounds-check_blocks-start : goal.slice_bounds-check_blocks-start
slice_bounds-check_blocks-start c =
    let p = goal.at.slice_bounds-check_blocks-start c in
    omega (arith, (small_at p.In_ok-sizes (sizes-at p.In_ok-sizes (headers_near p.After-shifted))).within)

pub check_blocks-requires : goal.check_blocks-requires
check_blocks-requires c =
    let a = c.args in
    let p = goal.at.check_blocks-requires c in
    let h = sizes-at p.In_ok-sizes (headers_near p.After-shifted) in
    rw (part_to_end c.in_ok-sizes.sizes.size a.s.now)
    (split_asked current a.settings a.timestamp a.at a.s.now c.requires.2 _ h c.if-s-size.false c.requires.0 (small_at p.In_ok-sizes h).within 0 (omega arith))

pub overflow_cast-first : goal.overflow_cast-first
overflow_cast-first c =
    let p = goal.at.overflow_cast-first c in
    omega (arith, (small_at p.In_ok-sizes (sizes-at p.In_ok-sizes (headers_near p.After-shifted))).within, c.requires.2)

pub overflow_add-first : goal.overflow_add-first
overflow_add-first c =
    let p = goal.at.overflow_add-first c in
    omega (arith, (small_at p.In_ok-sizes (sizes-at p.In_ok-sizes (headers_near p.After-shifted))).within, c.requires.2)

pub slice_bounds-put_blocks-count : goal.slice_bounds-put_blocks-count
slice_bounds-put_blocks-count c =
    let p = goal.at.slice_bounds-put_blocks-count c in
    (small_at p.In_ok-sizes (sizes-at p.In_ok-sizes (headers_near p.After-shifted))).within

pub slice_bounds-put_blocks-start : goal.slice_bounds-put_blocks-start
slice_bounds-put_blocks-start c =
    let p = goal.at.slice_bounds-put_blocks-start c in
    omega (arith, (small_at p.In_ok-sizes (sizes-at p.In_ok-sizes (headers_near p.After-shifted))).within)

pub put_blocks-requires : goal.put_blocks-requires
put_blocks-requires c =
    let a = c.args in
    let p = goal.at.put_blocks-requires c in
    let h = sizes-at p.In_ok-sizes (headers_near p.After-shifted) in
    let small = small_at p.In_ok-sizes h in
    rw (part_to_end c.in_ok-sizes.sizes.size a.s.now)
    (split_room current a.settings a.timestamp a.at a.s.now c.requires.2 _ h c.if-s-size.false c.requires.0 small.within _ _ c.requires.1
    (sym (checked-at p.After-check_blocks) ∙ told_ok _ _ _ _ c.shifted-2.ensures (blocks_near p.After-check_blocks h small) c.in_ok-count.was))

pub returns-in_err-sizes : goal.returns-in_err-sizes
returns-in_err-sizes c =
    let a = c.args in
    let p = goal.at.returns-in_err-sizes c in
    let m = told_err _ _ _ _ c.shifted.ensures (headers_near p.After-shifted) c.in_err-sizes.was in
    rw (err_is _ _ c.from_residual.ensures.1 ∙ ap Err m.2)
    (gives_none _ a.rows.now _ (split_refused current a.settings a.timestamp a.at a.s.now _ (sym (headers_is _ _ c.read_headers.ensures) ∙ m.1)))

pub returns-in_err-count : goal.returns-in_err-count
returns-in_err-count c =
    let a = c.args in
    let p = goal.at.returns-in_err-count c in
    let h = sizes-at p.In_ok-sizes (headers_near p.After-shifted) in
    let m = told_err _ _ _ _ c.shifted-2.ensures (blocks_near p.After-check_blocks h (small_at p.In_ok-sizes h)) c.in_err-count.was in
    rw (err_is _ _ c.from_residual-in_err-count.ensures.1 ∙ ap Err m.2)
    (gives_none _ a.rows.now _ (only_refusal _ _ (answer_at p.After-check_blocks h ∙ ap (further (a.at + c.in_ok-sizes.sizes.size)) m.1)))

pub returns : goal.returns
returns c =
    let a = c.args in
    let p = goal.at.returns c in
    let z = c.in_ok-sizes.sizes in
    let h = sizes-at p.In_ok-sizes (headers_near p.After-shifted) in
    let k = told_ok _ _ _ _ c.shifted-2.ensures (blocks_near p.After-check_blocks h (small_at p.In_ok-sizes h)) c.in_ok-count.was in (
      sym (answer_at p.After-check_blocks h ∙ ap (further (a.at + z.size)) k),
      (rw (part_to_end z.size a.s.now) at c.put_blocks.ensures) ∙ ap (λ (x : Rows). over (rows_words x) a.rows.now) (sym (split_blocks current a.settings a.timestamp a.at a.s.now c.requires.2 _ h c.if-s-size.false)),
    )
