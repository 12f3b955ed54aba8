use mathlib.Core.Path.{◌≡◌, ap, sym, ◌∙◌, subst}
use native.Mathlib.Omega.{arith}
use lib.ListN.{take, drop, length-take, length-drop}
use Rattle.rtp.specs.Editions.{current}
use Rattle.rtp.proofs.AreaLaws.{part_to_end}
use Rattle.write_sizes.specs.Measures.{Numbers, written_numbers}
use Rattle.write_parts.specs.ListSizes.{redundant_numbers, add_numbers, lists_numbers}
use Rattle.write_parts.proofs.ListsLaws.{told_none, told_bytes, lists_one, lists_rest, add_none, add_rest, add_both, redundant_small, lists_small}
use Prim.Native.Nat.{ℕ}
use Rattle.write_parts.proofs.sizes.+measure_lists.Goals.{After-first_words-n, After-measure_lists, In-Ok, In-Ok-measure_lists}
use Rattle.write_parts.proofs.sizes.+measure_lists.Goals as goal

more-at : (t : ℕ) (c : After-first_words-n t) → let a = c.args in lists_numbers current a.asked a.time a.counts.now a.rows.now ≡ add_numbers ((let a = c.args in redundant_numbers current a.asked a.time (take c.first_words-n.result a.rows.now))) ((let a = c.args in lists_numbers current a.asked a.time (drop 1 a.counts.now) (drop c.first_words-n.result a.rows.now)))
more-at t c =
    let a = c.args in
    subst (λ (n : ℕ). lists_numbers current a.asked a.time a.counts.now a.rows.now ≡ add_numbers (redundant_numbers current a.asked a.time (take n a.rows.now)) (lists_numbers current a.asked a.time (drop 1 a.counts.now) (drop n a.rows.now)))
    (sym c.first_words-n.ensures.0) (lists_rest current a.asked a.time a.counts.now a.rows.now c.if-counts-lt2.false)

size-at : (t : ℕ) (c : In-Ok t) → (let a = c.args in redundant_numbers current a.asked a.time (take c.first_words-n.result a.rows.now)) ≡ record { refusal = 0; count = c.in-Ok.size }
size-at t c =
    told_bytes _ _ _ c.in-Ok.is c.measure_redundant.ensures

told_at : (t : ℕ) (c : After-measure_lists t) → written_numbers c.measure_lists.result ≡ (let a = c.args in lists_numbers current a.asked a.time (drop 1 a.counts.now) (drop c.first_words-n.result a.rows.now))
told_at t c =
    let a = c.args in c.measure_lists.ensures ∙ rw (part_to_end 1 a.counts.now, part_to_end c.first_words-n.result a.rows.now)

rest_at : (t : ℕ) (c : In-Ok-measure_lists t) → (let a = c.args in lists_numbers current a.asked a.time (drop 1 a.counts.now) (drop c.first_words-n.result a.rows.now)) ≡ record { refusal = 0; count = c.in-Ok-measure_lists.rest }
rest_at t c =
    let told_at : written_numbers c.measure_lists.result ≡ (let a = c.args in lists_numbers current a.asked a.time (drop 1 a.counts.now) (drop c.first_words-n.result a.rows.now)) = let a = c.args in c.measure_lists.ensures ∙ rw (part_to_end 1 a.counts.now, part_to_end c.first_words-n.result a.rows.now) in
    told_bytes _ _ _ c.in-Ok-measure_lists.is (told_at)

pub returns-then-counts-lt2 : goal.returns-then-counts-lt2
returns-then-counts-lt2 t c =
    let a = c.args in c.measure_payload.ensures ∙ sym (lists_one current a.asked a.time a.counts.now a.rows.now c.if-counts-lt2.true)

pub slice_bounds-measure_redundant-end : goal.slice_bounds-measure_redundant-end
slice_bounds-measure_redundant-end t c =
    simp length-take (omega (arith, c.first_words-n.ensures.1))

pub measure_lists-requires : goal.measure_lists-requires
measure_lists-requires t c =
    let a = c.args in (
      rw (part_to_end 1 a.counts.now, length-drop) (omega (arith, c.if-counts-lt2.false)),
      rw (part_to_end 1 a.counts.now, length-drop) (omega (arith, c.requires)),
    )

pub overflow_add-result : goal.overflow_add-result
overflow_add-result t c =
    let a = c.args in
    let s = redundant_small current a.asked a.time (take c.first_words-n.result a.rows.now) in
    let r = lists_small current a.asked a.time (drop 1 a.counts.now) (drop c.first_words-n.result a.rows.now) in
    let i = ap (λ (n : Numbers). n.count) (size-at t (goal.at.overflow_add-result t c).In-Ok) in
    let j = ap (λ (n : Numbers). n.count) (rest_at t c) in
    omega (arith, length-drop 1 a.counts.now, c.requires)

pub returns-in_default : goal.returns-in_default
returns-in_default t c =
    add_none ((let a = c.args in redundant_numbers current a.asked a.time (take c.first_words-n.result a.rows.now))) ((let a = c.args in lists_numbers current a.asked a.time (drop 1 a.counts.now) (drop c.first_words-n.result a.rows.now))) (told_none _ _ _ c.in_default.is c.measure_redundant.ensures) ∙ sym (more-at t (goal.at.returns-in_default t c).After-first_words-n)

pub returns-in_default-measure_lists : goal.returns-in_default-measure_lists
returns-in_default-measure_lists t c =
    add_rest ((let a = c.args in redundant_numbers current a.asked a.time (take c.first_words-n.result a.rows.now))) ((let a = c.args in lists_numbers current a.asked a.time (drop 1 a.counts.now) (drop c.first_words-n.result a.rows.now))) (told_none _ _ _ c.in_default-measure_lists.is (told_at t (goal.at.returns-in_default-measure_lists t c).After-measure_lists)) ∙ sym (more-at t (goal.at.returns-in_default-measure_lists t c).After-first_words-n)

pub returns : goal.returns
returns t c =
    add_both ((let a = c.args in redundant_numbers current a.asked a.time (take c.first_words-n.result a.rows.now))) ((let a = c.args in lists_numbers current a.asked a.time (drop 1 a.counts.now) (drop c.first_words-n.result a.rows.now))) _ _ (size-at t (goal.at.returns t c).In-Ok) (rest_at t c) ∙ sym (more-at t (goal.at.returns t c).After-first_words-n)
