use lib.ListN.{length}
use Rattle.std.specs.Prelude.{Ok}
use mathlib.Core.Path.{◌≡◌, sym, ◌∙◌}
use native.Mathlib.Omega.{arith}
use Rattle.read_headers.specs.Redundancy.{redundancy_headers, headers_answer}
use Rattle.rtp.proofs.AreaLaws.{part_to_end}
use Rattle.read_headers.proofs.NumberLaws.{headers_is}
use Rattle.read_headers.proofs.RedundancyLaws.{Small}
use Rattle.read_mode_request.proofs.RequestLaws.{redundant_none, redundant_small, redundant_from}
use Rattle.read_mode_request.proofs.requests.redundant_request.Goals.{In-Ok}
use Rattle.read_mode_request.proofs.requests.redundant_request.Goals as goal

-- the sizes of the block headers that were read
sizes-at : (c : In-Ok) → headers_answer (redundancy_headers c.args.s.now) ≡ Ok c.in-Ok.sizes
sizes-at c =
    sym (headers_is _ _ c.read_headers.ensures) ∙ c.in-Ok.is

small_at : (c : In-Ok) → Small (length c.args.s.now) c.in-Ok.sizes
small_at c =
    let sizes-at : headers_answer (redundancy_headers c.args.s.now) ≡ Ok c.in-Ok.sizes = sym (headers_is _ _ c.read_headers.ensures) ∙ c.in-Ok.is in
    let a = c.args in redundant_small a.settings a.s.now _ (sizes-at) (λ i. (c.shared_slice_known-1.given i).fits)

pub slice_bounds-blocks_request-count : goal.slice_bounds-blocks_request-count
slice_bounds-blocks_request-count c =
    (small_at c).within

pub slice_bounds-blocks_request-start : goal.slice_bounds-blocks_request-start
slice_bounds-blocks_request-start c =
    omega (arith, (small_at c).within)

pub returns-in-Err : goal.returns-in-Err
returns-in-Err c =
    let a = c.args in sym (redundant_none a.settings a.s.now _ (sym (headers_is _ _ c.read_headers.ensures) ∙ c.in-Err.is))

pub returns-in-Ok : goal.returns-in-Ok
returns-in-Ok c =
    let a = c.args in
    (rw (part_to_end c.in-Ok.sizes.size a.s.now) at c.blocks_request.ensures) ∙ sym (redundant_from a.settings a.s.now _ (sizes-at (goal.at.returns-in-Ok c).In-Ok))
