use Rattle.rtp.specs.Editions.{current}
use Rattle.std.specs.Prelude.{Ok, Err, Result}
use Rattle.rtp.specs.declared.refusal.Fault.{Fault}
use Rattle.row_tags.specs.Tags.{redundant_mark}
use lib.ListN.{length, take, drop, length-take, length-drop}
use mathlib.Core.Path.{◌≡◌, ap, subst, sym, ◌∙◌}
use native.Mathlib.Omega.{arith}
use Rattle.rtp.specs.Sizes.{row_area, max_rows}
use Rattle.read_headers.specs.Redundancy.{block_header}
use Rattle.read_headers.specs.declared.redundancy.BlockHeader.{BlockHeader}
use Rattle.rtp.proofs.ErrorLaws.{err_is, told_ok, told_err}
use Rattle.rtp.proofs.AreaLaws.{part_to_end}
use Rattle.read_headers.proofs.RedundancyLaws.{fair, shorter}
use Rattle.read_payload.specs.Payloads.{rows_answer}
use Rattle.read_payload.proofs.PayloadLaws.{answer_none}
use Rattle.read_redundancy.specs.Room.{asked_block, blocks_from}
use Rattle.read_redundancy.proofs.AnswerLaws.{add_answer, then_answer, Few, further, Inside}
use Rattle.read_redundancy.proofs.BlockLaws.{from_few, from_refused, block_in, first_few, checked_primary, asked_rest, checked, from_inside}
use Rattle.read_headers.proofs.NumberLaws.{same_block}
use Prim.Native.Nat.{ℕ, ◌+◌, ◌-◌, ◌<◌, ◌≤◌, ◌^◌}
use Rattle.read_redundancy.proofs.blocks.+check_blocks.Goals.{After-shifted, In-Redundant, In_ok-here-in-Redundant}
use Rattle.read_redundancy.proofs.blocks.+check_blocks.Goals as goal

-- the block header that was read
read_at : (t : ℕ) (c : In-Redundant t) → block_header c.args.headers.now ≡ Ok (BlockHeader.Redundant c.in-Redundant.block)
read_at t c =
    sym (same_block _ _ c.read_block_header.ensures) ∙ c.in_ok-block_type.was ∙ ap Ok c.in-Redundant.is

block_at : (t : ℕ) (c : In-Redundant t) → c.in-Redundant.block.length ≤ length c.args.s.now
block_at t c =
    let a = c.args in block_in current a.settings a.done (row_area current) 0 0 a.headers.now a.s.now c.requires (omega arith) _ (read_at t c)

-- the rows of its block
here_at : (t : ℕ) (c : In_ok-here-in-Redundant t) → let a = c.args in let e = c.in-Redundant.block in
    rows_answer (asked_block current redundant_mark a.settings a.done (row_area current) 0 e.payload_type 0 0 (take e.length a.s.now)) ≡ Ok c.in_ok-here-in-Redundant.here
here_at t c =
    sym c.check_block-in-Redundant.ensures ∙ c.in_ok-here-in-Redundant.was

few-at : (t : ℕ) (c : In_ok-here-in-Redundant t) → block_header c.args.headers.now ≡ Ok (BlockHeader.Redundant c.in-Redundant.block) → c.args.done + c.in_ok-here-in-Redundant.here ≤ max_rows current
few-at t c h =
    let a = c.args in first_few current a.settings a.done (row_area current) 0 0 a.headers.now a.s.now c.requires (omega arith) _ h 0 _ (here_at t c)

-- what follows, as the call of itself read it
rest_at : (t : ℕ) (c : After-shifted t) → let a = c.args in let e = c.in-Redundant.block in
    c.check_blocks.result ≡ rows_answer (blocks_from current a.settings (a.done + c.in_ok-here-in-Redundant.here) 0 0 (drop 4 a.headers.now) (drop e.length a.s.now))
rest_at t c =
    let a = c.args in
    c.check_blocks.ensures ∙ rw (part_to_end 4 a.headers.now, part_to_end c.in-Redundant.block.length a.s.now)

whole-at : (t : ℕ) (c : After-shifted t) → block_header c.args.headers.now ≡ Ok (BlockHeader.Redundant c.in-Redundant.block) → let a = c.args in let e = c.in-Redundant.block in
    rows_answer (blocks_from current a.settings a.done 0 0 a.headers.now a.s.now) ≡ add_answer c.in_ok-here-in-Redundant.here (further e.length c.check_blocks.result)
whole-at t c h =
    let a = c.args in
    let e = c.in-Redundant.block in
    checked current a.settings a.done a.headers.now a.s.now c.requires e h
    ∙ ap (λ (p : Result ℕ Fault). then_answer p (λ n. further e.length (rows_answer (blocks_from current a.settings (a.done + n) 0 0 (drop 4 a.headers.now) (drop e.length a.s.now))))) (sym c.check_block-in-Redundant.ensures ∙ c.in_ok-here-in-Redundant.was)
    ∙ ap (λ (p : Result ℕ Fault). add_answer c.in_ok-here-in-Redundant.here (further e.length p)) (sym (rest_at t c))

-- a place at fault in it
near_at : (t : ℕ) (c : After-shifted t) → block_header c.args.headers.now ≡ Ok (BlockHeader.Redundant c.in-Redundant.block) → c.args.done + c.in_ok-here-in-Redundant.here ≤ max_rows current
    → c.in-Redundant.block.length ≤ length c.args.s.now → (f : Fault) → c.check_blocks.result ≡ Err f → c.in-Redundant.block.length + f.offset < 2 ^ 64
near_at t c h few b f k =
    let a = c.args in
    let e = c.in-Redundant.block in
    let n = c.in_ok-here-in-Redundant.here in
    let rest = asked_rest current a.settings a.done (row_area current) 0 0 a.headers.now a.s.now c.requires (omega arith) e h n 0 few (omega arith) in
    let w : Inside (0 + length (drop e.length a.s.now)) (Err f) = subst (λ (p : Result ℕ Fault). Inside (0 + length (drop e.length a.s.now)) p) (sym (rest_at t c) ∙ k)
    (from_inside current a.settings (a.done + n) 0 0 (drop 4 a.headers.now) (drop e.length a.s.now) rest.headed) in
    omega (arith, w, b, length-drop e.length a.s.now, c.well_formed)

pub slice_bounds-check_block-end : goal.slice_bounds-check_block-end
slice_bounds-check_block-end t c =
    simp length-take (omega (arith, block_at t c))

pub overflow_add-done : goal.overflow_add-done
overflow_add-done t c =
    let p = goal.at.overflow_add-done t c in
    omega (arith, few-at t p.In_ok-here-in-Redundant (read_at t p.In-Redundant))

pub slice_bounds-check_blocks-count : goal.slice_bounds-check_blocks-count
slice_bounds-check_blocks-count t c =
    (fair _ _ (read_at t (goal.at.slice_bounds-check_blocks-count t c).In-Redundant)).within

pub slice_bounds-check_blocks-start : goal.slice_bounds-check_blocks-start
slice_bounds-check_blocks-start t c =
    omega (arith, (fair _ _ (read_at t (goal.at.slice_bounds-check_blocks-start t c).In-Redundant)).within)

pub slice_bounds-check_blocks-count-in-Redundant : goal.slice_bounds-check_blocks-count-in-Redundant
slice_bounds-check_blocks-count-in-Redundant t c =
    block_at t (goal.at.slice_bounds-check_blocks-count-in-Redundant t c).In-Redundant

pub slice_bounds-check_blocks-start-in-Redundant : goal.slice_bounds-check_blocks-start-in-Redundant
slice_bounds-check_blocks-start-in-Redundant t c =
    omega (arith, block_at t (goal.at.slice_bounds-check_blocks-start-in-Redundant t c).In-Redundant)

pub check_blocks-requires : goal.check_blocks-requires
check_blocks-requires t c =
    let a = c.args in
    let p = goal.at.check_blocks-requires t c in
    let e = c.in-Redundant.block in
    let r = read_at t p.In-Redundant in
    let q : length (take (length a.headers.now - 4) (drop 4 a.headers.now)) < length a.headers.now = rw part_to_end (shorter _ e r) in (
      omega (arith, q),
      rw (part_to_end 4 a.headers.now, part_to_end e.length a.s.now)
          (asked_rest current a.settings a.done (row_area current) 0 0 a.headers.now a.s.now c.requires (omega arith) e r _ 0 (few-at t p.In_ok-here-in-Redundant r) (omega arith)),
    )

pub overflow_add-result : goal.overflow_add-result
overflow_add-result t c =
    let a = c.args in
    let p = goal.at.overflow_add-result t c in
    let e = c.in-Redundant.block in
    let n = c.in_ok-here-in-Redundant.here in
    let r = read_at t p.In-Redundant in
    let few = few-at t p.In_ok-here-in-Redundant r in
    let f = from_few current a.settings (a.done + n) 0 0 (drop 4 a.headers.now) (drop e.length a.s.now) few in
    let k = told_ok _ _ _ _ c.shifted.ensures (near_at t p.After-shifted r few (block_at t p.In-Redundant)) c.in_ok-rest-in-Redundant.was in
    omega (arith, subst (λ (p : Result ℕ Fault). Few current (a.done + n) p) (sym (rest_at t p.After-shifted) ∙ k) f)

pub returns-in_err-block_type : goal.returns-in_err-block_type
returns-in_err-block_type t c =
    let a = c.args in
    err_is _ _ c.from_residual.ensures.1
    ∙ answer_none _ _ (from_refused current a.settings a.done 0 0 a.headers.now a.s.now _ (sym (same_block _ _ c.read_block_header.ensures) ∙ c.in_err-block_type.was))

pub returns-in-Primary : goal.returns-in-Primary
returns-in-Primary t c =
    let a = c.args in c.check_block.ensures ∙ checked_primary current a.settings a.done a.headers.now a.s.now c.requires _ (sym (same_block _ _ c.read_block_header.ensures) ∙ c.in_ok-block_type.was ∙ ap Ok c.in-Primary.is)

pub returns-in_err-here-in-Redundant : goal.returns-in_err-here-in-Redundant
returns-in_err-here-in-Redundant t c =
    let a = c.args in
    let e = c.in-Redundant.block in
    err_is _ _ c.from_residual-in_err-here-in-Redundant.ensures.1
    ∙ sym (checked current a.settings a.done a.headers.now a.s.now c.requires e (read_at t (goal.at.returns-in_err-here-in-Redundant t c).In-Redundant)
    ∙ ap (λ (p : Result ℕ Fault). then_answer p (λ n. further e.length (rows_answer (blocks_from current a.settings (a.done + n) 0 0 (drop 4 a.headers.now) (drop e.length a.s.now))))) (sym c.check_block-in-Redundant.ensures ∙ c.in_err-here-in-Redundant.was))

pub returns-in_err-rest-in-Redundant : goal.returns-in_err-rest-in-Redundant
returns-in_err-rest-in-Redundant t c =
    let p = goal.at.returns-in_err-rest-in-Redundant t c in
    let r = read_at t p.In-Redundant in
    let m = told_err _ _ _ _ c.shifted.ensures (near_at t p.After-shifted r (few-at t p.In_ok-here-in-Redundant r) (block_at t p.In-Redundant)) c.in_err-rest-in-Redundant.was in
    err_is _ _ c.from_residual-in_err-rest-in-Redundant.ensures.1 ∙ ap Err m.2
    ∙ sym (whole-at t p.After-shifted r ∙ ap (λ (p : Result ℕ Fault). add_answer c.in_ok-here-in-Redundant.here (further c.in-Redundant.block.length p)) m.1)

pub returns-in_ok-rest-in-Redundant : goal.returns-in_ok-rest-in-Redundant
returns-in_ok-rest-in-Redundant t c =
    let p = goal.at.returns-in_ok-rest-in-Redundant t c in
    let r = read_at t p.In-Redundant in
    let k = told_ok _ _ _ _ c.shifted.ensures (near_at t p.After-shifted r (few-at t p.In_ok-here-in-Redundant r) (block_at t p.In-Redundant)) c.in_ok-rest-in-Redundant.was in
    sym (whole-at t p.After-shifted r ∙ ap (λ (p : Result ℕ Fault). add_answer c.in_ok-here-in-Redundant.here (further c.in-Redundant.block.length p)) k)
