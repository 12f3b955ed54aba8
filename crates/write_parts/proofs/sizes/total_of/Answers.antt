use Rattle.std.proofs.Common.{◌≡◌, ◌≤◌, ◌^◌, ◌∙◌, sym, refl, arith, rules, List, ℕ}
use Rattle.std.specs.List.{sum}
use Rattle.std.proofs.lemmas.List.Recursion.{is_sum_by}
use Rattle.std.proofs.lemmas.List.Elements.{All-from_get_or}
use Rattle.std.proofs.lemmas.List.Sums.{sum_by-le}
use Rattle.std.proofs.iter.runs.Sources.{sums}
use Rattle.write_parts.specs.Parts.{total}
use Rattle.write_parts.proofs.sizes.total_of.Goals as goal

total_sum : (counts : List ℕ) → total counts ≡ sum counts
unfolding total
total_sum = is_sum_by total (λ x. x) refl (λ _ _. refl)

pub returns : goal.returns
returns c =
    let s = c.args.counts.now in
    let all : c.sum.result ≡ sum s = search (rules, sums) in
    let most = sum_by-le (λ x. x) (2 ^ 32) s (All-from_get_or (λ x. x ≤ 2 ^ 32) s 0 (λ i _. omega (arith, c.type_inv.counts i))) in
    (all ∙ sym (total_sum s), omega (arith, all, most))
