use lib.ListN.{length, take, drop, length-take}
use Rattle.std.specs.Prelude.{Ok}
use mathlib.Core.Path.{◌≡◌, ap, sym, ◌∙◌}
use mathlib.Core.List.{List}
use native.Mathlib.Omega.{arith}
use Rattle.read_headers.specs.Redundancy.{block_header}
use Rattle.read_headers.specs.declared.redundancy.BlockHeader.{BlockHeader}
use Rattle.rtp.proofs.AreaLaws.{part_to_end}
use Rattle.read_headers.proofs.RedundancyLaws.{fair, shorter}
use Rattle.read_headers.proofs.NumberLaws.{same_block}
use Rattle.read_mode_request.specs.Requests.{block_request}
use Rattle.read_mode_request.specs.Walks.{request_from}
use Rattle.read_mode_request.proofs.RequestLaws.{from_refused, from_primary, from_redundant}
use Prim.Native.Nat.{ℕ, ◌-◌, ◌<◌}
use Rattle.read_mode_request.proofs.requests.+blocks_request.Goals.{In-Ok-Redundant}
use Rattle.read_mode_request.proofs.requests.+blocks_request.Goals as goal

-- the block header that was read
read_at : (t : ℕ) (c : In-Ok-Redundant t) → block_header c.args.headers.now ≡ Ok (BlockHeader.Redundant c.in-Ok-Redundant.block)
read_at t c =
    sym (same_block _ _ c.read_block_header.ensures) ∙ c.in-Ok-Redundant.is ∙ ap Ok c.in-Ok-Redundant.field-0-is

pub slice_bounds-block_request-end : goal.slice_bounds-block_request-end
slice_bounds-block_request-end t c =
    simp length-take (omega (arith, c.end_of-end.ensures.0))

pub slice_bounds-blocks_request-count : goal.slice_bounds-blocks_request-count
slice_bounds-blocks_request-count t c =
    omega (arith, (fair _ _ (read_at t (goal.at.slice_bounds-blocks_request-count t c).In-Ok-Redundant)).within)

pub slice_bounds-blocks_request-start : goal.slice_bounds-blocks_request-start
slice_bounds-blocks_request-start t c =
    omega (arith, (fair _ _ (read_at t (goal.at.slice_bounds-blocks_request-start t c).In-Ok-Redundant)).within)

pub slice_bounds-blocks_request-count-in-Ok-Redundant : goal.slice_bounds-blocks_request-count-in-Ok-Redundant
slice_bounds-blocks_request-count-in-Ok-Redundant t c =
    omega (arith, c.end_of-end.ensures.0)

pub slice_bounds-blocks_request-start-in-Ok-Redundant : goal.slice_bounds-blocks_request-start-in-Ok-Redundant
slice_bounds-blocks_request-start-in-Ok-Redundant t c =
    omega (arith, c.end_of-end.ensures.0)

pub blocks_request-requires : goal.blocks_request-requires
blocks_request-requires t c =
    let a = c.args in
    let e = c.in-Ok-Redundant.block in
    let q : length (take (length a.headers.now - 4) (drop 4 a.headers.now)) < length a.headers.now = rw part_to_end (shorter _ e (read_at t (goal.at.blocks_request-requires t c).In-Ok-Redundant)) in
    (omega (arith, q), tt)

pub returns-in-Err : goal.returns-in-Err
returns-in-Err t c =
    let a = c.args in sym (from_refused a.settings a.found a.headers.now a.s.now _ (sym (same_block _ _ c.read_block_header.ensures) ∙ c.in-Err.is))

pub returns-in-Ok-Primary : goal.returns-in-Ok-Primary
returns-in-Ok-Primary t c =
    let a = c.args in c.block_request.ensures ∙ sym (from_primary a.settings a.found a.headers.now a.s.now _ (sym (same_block _ _ c.read_block_header.ensures) ∙ c.in-Ok-Primary.is ∙ ap Ok c.in-Ok-Primary.field-0-is))

pub returns-in-Ok-Redundant : goal.returns-in-Ok-Redundant
returns-in-Ok-Redundant t c =
    let a = c.args in
    let h = a.headers.now in
    let s = a.s.now in
    let e = c.in-Ok-Redundant.block in
    let w = c.end_of-end.ensures in
    let n = c.end_of-end.result in
    let last = c.block_request-last.result in
    c.blocks_request.ensures
    ∙ ap (λ (x : List ℕ). request_from a.settings last x (take (length s - n) (drop n s))) (part_to_end 4 h)
    ∙ ap (λ (x : List ℕ). request_from a.settings last (drop 4 h) x) (part_to_end n s ∙ w.2)
    ∙ ap (λ (x : ℕ). request_from a.settings x (drop 4 h) (drop e.length s)) (c.block_request-last.ensures ∙ ap (block_request a.settings a.found e.payload_type) w.1)
    ∙ sym (from_redundant a.settings a.found h s e (read_at t (goal.at.returns-in-Ok-Redundant t c).In-Ok-Redundant))
