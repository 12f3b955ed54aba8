use lib.ListN.{length, take, drop, length-drop}
use Rattle.std.specs.Prelude.{Result, Ok, Err}
use Rattle.rtp.specs.declared.refusal.Fault.{Fault}
use Rattle.read_headers.specs.declared.redundancy.HeaderSizes.{HeaderSizes}
use mathlib.Core.List.{List}
use mathlib.Core.Path.{◌≡◌, ap, subst, sym, ◌∙◌}
use native.Mathlib.Omega.{arith}
use Rattle.read_headers.specs.declared.redundancy.BlockHeader.{BlockHeader}
use Rattle.read_headers.specs.Redundancy.{block_header, headers, headers_answer}
use Rattle.rtp.proofs.AreaLaws.{part_to_end}
use Rattle.rtp.proofs.ByteLaws.{bytes_drop}
use Rattle.read_headers.proofs.RedundancyLaws.{fair, shorter, at_refused, at_primary, at_redundant, ahead, within, Within, Small, InFront, front}
use Rattle.rtp.proofs.ErrorLaws.{err_is, told_ok, told_err}
use Rattle.read_headers.proofs.NumberLaws.{same_block}
use Prim.Native.Nat.{ℕ, ◌+◌, ◌-◌, ◌<◌, ◌≤◌, ◌^◌}
use Rattle.read_headers.proofs.redundancy.+headers_from.Goals.{After-shifted, In-Redundant}
use Rattle.read_headers.proofs.redundancy.+headers_from.Goals as goal

-- the block header that was read
read_at : (t : ℕ) (c : In-Redundant t) → block_header c.args.s.now ≡ Ok (BlockHeader.Redundant c.in-Redundant.block)
read_at t c =
    sym (same_block _ _ c.read_block_header.ensures) ∙ c.in_ok-read_block_header.was ∙ ap Ok c.in-Redundant.is

-- what the other headers answer
answer_at : (t : ℕ) (c : After-shifted t) → c.headers_from.result ≡ headers_answer (headers (drop 4 c.args.s.now))
answer_at t c =
    c.headers_from.ensures ∙ ap (λ (l : List ℕ). headers_answer (headers l)) (part_to_end 4 c.args.s.now)

near_at : (t : ℕ) (c : After-shifted t) (f : Fault) → c.headers_from.result ≡ Err f → 4 + f.offset < 2 ^ 64
near_at t c f h =
    let s = drop 4 c.args.s.now in
    let w : InFront (length s) (Err f) = subst (λ (r : Result HeaderSizes Fault). InFront (length s) r) (sym (answer_at t c) ∙ h) (front s) in
    omega (arith, w, length-drop 4 c.args.s.now, c.requires)

rest_at : (t : ℕ) (c : After-shifted t) (r : HeaderSizes) → c.shifted.result ≡ Ok r → c.headers_from.result ≡ Ok r
rest_at t c r h =
    told_ok _ _ _ _ c.shifted.ensures (near_at t c) h

small_at : (t : ℕ) (c : After-shifted t) (r : HeaderSizes) → c.shifted.result ≡ Ok r → Small (length (drop 4 c.args.s.now)) r
small_at t c r h =
    let s = c.args.s.now in
    subst (λ (r : Result HeaderSizes Fault). Within (length (drop 4 s)) r) (sym (answer_at t c) ∙ rest_at t c r h)
    (within (drop 4 s) (bytes_drop 4 s (λ i. (c.shared_slice_known-1.given i).fits)))

whole-at : (t : ℕ) (c : After-shifted t) → block_header c.args.s.now ≡ Ok (BlockHeader.Redundant c.in-Redundant.block) → headers_answer (headers c.args.s.now) ≡ ahead c.in-Redundant.block c.headers_from.result
whole-at t c h =
    at_redundant c.args.s.now c.in-Redundant.block h ∙ ap (ahead c.in-Redundant.block) (sym (answer_at t c))

pub slice_bounds-headers_from-count : goal.slice_bounds-headers_from-count
slice_bounds-headers_from-count t c =
    (fair _ _ (read_at t c)).within

pub slice_bounds-headers_from-start : goal.slice_bounds-headers_from-start
slice_bounds-headers_from-start t c =
    omega (arith, (fair _ _ (read_at t c)).within)

pub headers_from-requires : goal.headers_from-requires
headers_from-requires t c =
    let s = c.args.s.now in
    let q : length (take (length s - 4) (drop 4 s)) < length s = rw part_to_end (shorter s _ (read_at t (goal.at.headers_from-requires t c).In-Redundant)) in
    (omega (arith, q, c.requires), omega (arith, q, c.requires))

pub overflow_add-result : goal.overflow_add-result
overflow_add-result t c =
    omega (arith, (small_at t (goal.at.overflow_add-result t c).After-shifted _ c.in_ok-rest-in-Redundant.was).within, length-drop 4 c.args.s.now, c.requires)

pub overflow_add-result-in-Redundant : goal.overflow_add-result-in-Redundant
overflow_add-result-in-Redundant t c =
    let p = goal.at.overflow_add-result-in-Redundant t c in
    let s = c.args.s.now in
    let k = (fair s _ (read_at t p.In-Redundant)).short (λ i. (c.shared_slice_known-1.given i).fits) in
    omega (arith, k, small_at t p.After-shifted _ c.in_ok-rest-in-Redundant.was, length-drop 4 s, c.requires)

pub returns-in_err-read_block_header : goal.returns-in_err-read_block_header
returns-in_err-read_block_header t c =
    err_is _ _ c.from_residual.ensures.1 ∙ sym (at_refused c.args.s.now _ (sym (same_block _ _ c.read_block_header.ensures) ∙ c.in_err-read_block_header.was))

pub returns-in-Primary : goal.returns-in-Primary
returns-in-Primary t c =
    sym (at_primary c.args.s.now _ (sym (same_block _ _ c.read_block_header.ensures) ∙ c.in_ok-read_block_header.was ∙ ap Ok c.in-Primary.is))

pub returns-in_err-rest-in-Redundant : goal.returns-in_err-rest-in-Redundant
returns-in_err-rest-in-Redundant t c =
    let p = goal.at.returns-in_err-rest-in-Redundant t c in
    let m = told_err _ _ _ _ c.shifted.ensures (near_at t p.After-shifted) c.in_err-rest-in-Redundant.was in
    err_is _ _ c.from_residual-in_err-rest-in-Redundant.ensures.1 ∙ ap Err m.2
    ∙ sym (whole-at t p.After-shifted (read_at t p.In-Redundant) ∙ ap (ahead c.in-Redundant.block) m.1)

pub returns-in_ok-rest-in-Redundant : goal.returns-in_ok-rest-in-Redundant
returns-in_ok-rest-in-Redundant t c =
    let p = goal.at.returns-in_ok-rest-in-Redundant t c in
    sym (whole-at t p.After-shifted (read_at t p.In-Redundant) ∙ ap (ahead c.in-Redundant.block) (rest_at t p.After-shifted _ c.in_ok-rest-in-Redundant.was))
