use mathlib.Core.List.{List}
use Rattle.std.specs.Prelude.{Ok, Result}
use Rattle.read_contents.specs.declared.entries.Sizes.{Sizes}
use Rattle.rtp.specs.declared.refusal.Fault.{Fault}
use mathlib.Core.Path.{◌≡◌, ap, subst, sym, ◌∙◌}
use native.Mathlib.Omega.{arith}
use native.Mathlib.Nat.{mul-le-mul_left}
use Rattle.rtp.specs.Editions.{current}
use Rattle.rtp.proofs.AreaLaws.{part_to_end}
use Rattle.read_contents.specs.Contents.{entry_of, contents, sizes_answer}
use Rattle.std.specs.Prelude.{Result, Err}
use Rattle.std.proofs.lemmas.Bool.{not-true, not-false}
use Rattle.rtp.proofs.ErrorLaws.{err_is, told_ok, told_err}
use Rattle.read_contents.specs.declared.entries.Sizes.{Sizes}
use Rattle.read_contents.proofs.EntryLaws.{Fair, fair}
use Rattle.read_contents.proofs.ContentsLaws.{at_refused, at_many, at_last, at_more, ahead, within, Within, Small, shorter}
use Rattle.read_contents.proofs.NumberLaws.{same_entry, contents_is, contents_has}
use lib.ListN.{length, take, drop, length-drop}
use borrow.Author.Rules.{rules}
use Prim.Native.Nat.{ℕ, ◌<◌, ◌*◌, ◌+◌, ◌≤◌, ◌-◌, ◌^◌}
use Rattle.read_contents.proofs.entries.+read_contents.Goals.{After-shifted, In_ok-entry}
use Rattle.read_contents.proofs.entries.+read_contents.Goals as goal

-- the entry that was read, and what it says of itself
read_at : (t : ℕ) (c : In_ok-entry t) → entry_of c.args.format c.args.s.now ≡ Ok c.in_ok-entry.entry
read_at t c =
    sym (same_entry _ _ c.read_entry.ensures ∙ ap (entry_of c.args.format) (part_to_end 0 c.args.s.now)) ∙ c.in_ok-entry.was

fair-at : (t : ℕ) (c : In_ok-entry t) → Fair c.args.format c.args.s.now c.in_ok-entry.entry
fair-at t c =
    let read_at : entry_of c.args.format c.args.s.now ≡ Ok c.in_ok-entry.entry = sym (same_entry _ _ c.read_entry.ensures ∙ ap (entry_of c.args.format) (part_to_end 0 c.args.s.now)) ∙ c.in_ok-entry.was in
    fair _ _ _ (read_at)

here_at : (t : ℕ) (c : In_ok-entry t) → c.in_ok-entry.entry.blocks * c.args.channels ≤ 65280
here_at t c =
    let read_at : entry_of c.args.format c.args.s.now ≡ Ok c.in_ok-entry.entry = sym (same_entry _ _ c.read_entry.ensures ∙ ap (entry_of c.args.format) (part_to_end 0 c.args.s.now)) ∙ c.in_ok-entry.was in
    let fair-at : Fair c.args.format c.args.s.now c.in_ok-entry.entry = fair _ _ _ (read_at) in
    let few = (fair-at).few (λ i. (c.shared_slice_known-1.given i).fits) in
    let e = c.in_ok-entry.entry.blocks in
    let n : c.args.channels ≤ 255 = omega (arith, c.ranges.channels) in
    omega (arith, few, mul-le-mul_left e n)

-- what the rest of the table answers, and how far it reaches
answer_at : (t : ℕ) (c : After-shifted t) → let a = c.args in let e = c.in_ok-entry.entry in
    c.read_contents.result ≡ sizes_answer a.format a.channels (contents current a.format a.channels (a.rows + e.blocks * a.channels) (drop e.size a.s.now))
answer_at t c =
    let a = c.args in
    let e = c.in_ok-entry.entry in
    contents_is _ _ _ _ c.read_contents.ensures ∙ ap (λ (l : List ℕ). sizes_answer a.format a.channels (contents current a.format a.channels (a.rows + e.blocks * a.channels) l)) (part_to_end e.size a.s.now)

within_at : (t : ℕ) (c : After-shifted t) (r : Result Sizes Fault) → c.read_contents.result ≡ r → let a = c.args in let e = c.in_ok-entry.entry in
    Within current (a.rows + e.blocks * a.channels) (length (drop e.size a.s.now)) r
within_at t c r h =
    let a = c.args in
    let e = c.in_ok-entry.entry in
    subst (λ (r : Result Sizes Fault). Within current (a.rows + e.blocks * a.channels) (length (drop e.size a.s.now)) r)
    (sym (answer_at t c) ∙ h)
    (within current a.format a.channels (a.rows + e.blocks * a.channels) (drop e.size a.s.now))

near_at : (t : ℕ) (c : After-shifted t) → Fair c.args.format c.args.s.now c.in_ok-entry.entry → (f : Fault) → c.read_contents.result ≡ Err f → c.in_ok-entry.entry.size + f.offset < 2 ^ 64
near_at t c k f h =
    omega (arith, within_at t c (Err f) h, length-drop c.in_ok-entry.entry.size c.args.s.now, k.within, c.well_formed)

rest_at : (t : ℕ) (c : After-shifted t) → Fair c.args.format c.args.s.now c.in_ok-entry.entry → (r : Sizes) → c.shifted.result ≡ Ok r → c.read_contents.result ≡ Ok r
rest_at t c k r h =
    told_ok _ _ _ _ c.shifted.ensures (near_at t c k) h

small_at : (t : ℕ) (c : After-shifted t) → Fair c.args.format c.args.s.now c.in_ok-entry.entry → (r : Sizes) → c.shifted.result ≡ Ok r → let a = c.args in let e = c.in_ok-entry.entry in
    Small current (a.rows + e.blocks * a.channels) (length (drop e.size a.s.now)) r
small_at t c k r h =
    within_at t c (Ok r) (rest_at t c k r h)

whole-at : (t : ℕ) (c : After-shifted t) → entry_of c.args.format c.args.s.now ≡ Ok c.in_ok-entry.entry → let a = c.args in let e = c.in_ok-entry.entry in
    sizes_answer a.format a.channels (contents current a.format a.channels a.rows a.s.now) ≡ ahead a.channels e c.read_contents.result
whole-at t c h =
    let a = c.args in
    let e = c.in_ok-entry.entry in
    at_more current a.format a.channels a.rows a.s.now e h c.if-so_far-gt-MAX_ROWS.false (not-false _ c.if-not-entry.false)
    ∙ ap (ahead a.channels e) (sym (answer_at t c))

pub overflow_mul-here : goal.overflow_mul-here
overflow_mul-here t c =
    omega (arith, here_at t (goal.at.overflow_mul-here t c).In_ok-entry)

pub overflow_add-so_far : goal.overflow_add-so_far
overflow_add-so_far t c =
    omega (arith, here_at t (goal.at.overflow_add-so_far t c).In_ok-entry, c.ranges.rows)

pub returns-then-so_far-gt-MAX_ROWS : goal.returns-then-so_far-gt-MAX_ROWS
returns-then-so_far-gt-MAX_ROWS t c =
    let a = c.args in rw c.from.ensures (contents_has _ _ _ _ (sym (at_many current a.format a.channels a.rows a.s.now _ (read_at t (goal.at.returns-then-so_far-gt-MAX_ROWS t c).In_ok-entry) c.if-so_far-gt-MAX_ROWS.true)))

pub overflow_mul-frames : goal.overflow_mul-frames
overflow_mul-frames t c =
    let k = fair-at t (goal.at.overflow_mul-frames t c).In_ok-entry in
    omega (arith, here_at t (goal.at.overflow_mul-frames t c).In_ok-entry, mul-le-mul_left (c.in_ok-entry.entry.blocks * c.args.channels) k.short)

pub slice_bounds-read_contents-count : goal.slice_bounds-read_contents-count
slice_bounds-read_contents-count t c =
    (fair-at t (goal.at.slice_bounds-read_contents-count t c).In_ok-entry).within

pub slice_bounds-read_contents-start : goal.slice_bounds-read_contents-start
slice_bounds-read_contents-start t c =
    omega (arith, (fair-at t (goal.at.slice_bounds-read_contents-start t c).In_ok-entry).within)

pub read_contents-requires : goal.read_contents-requires
read_contents-requires t c =
    let a = c.args in
    let e = c.in_ok-entry.entry in
    let q : length (take (length a.s.now - e.size) (drop e.size a.s.now)) < length a.s.now =
    rw part_to_end (shorter a.format a.s.now e (read_at t (goal.at.read_contents-requires t c).In_ok-entry)) in
    (omega (arith, q), search rules)

pub overflow_add-result : goal.overflow_add-result
overflow_add-result t c =
    let p = goal.at.overflow_add-result t c in
    omega (arith, (small_at t p.After-shifted (fair-at t p.In_ok-entry) _ c.in_ok-rest.was).few)

pub overflow_add-result-2 : goal.overflow_add-result-2
overflow_add-result-2 t c =
    let p = goal.at.overflow_add-result-2 t c in
    let k = fair-at t p.In_ok-entry in
    omega (arith, (small_at t p.After-shifted k _ c.in_ok-rest.was).within, length-drop c.in_ok-entry.entry.size c.args.s.now, k.within, c.well_formed)

pub overflow_add-result-3 : goal.overflow_add-result-3
overflow_add-result-3 t c =
    let p = goal.at.overflow_add-result-3 t c in
    let a = c.args in
    let e = c.in_ok-entry.entry in
    let k = fair-at t p.In_ok-entry in
    omega (arith, small_at t p.After-shifted k _ c.in_ok-rest.was, here_at t p.In_ok-entry, mul-le-mul_left (e.blocks * a.channels) k.short)

pub returns-in_err-entry : goal.returns-in_err-entry
returns-in_err-entry t c =
    let a = c.args in
    let e : entry_of a.format a.s.now ≡ Err c.in_err-entry.field-0.0 = sym (same_entry _ _ c.read_entry.ensures ∙ ap (entry_of a.format) (part_to_end 0 a.s.now)) ∙ c.in_err-entry.was in
    contents_has _ _ _ _ (err_is _ _ c.from_residual.ensures.1 ∙ sym (at_refused current a.format a.channels a.rows a.s.now _ e))

pub returns-then-not-entry : goal.returns-then-not-entry
returns-then-not-entry t c =
    let a = c.args in
    contents_has _ _ _ _ (sym (at_last current a.format a.channels a.rows a.s.now _ (read_at t (goal.at.returns-then-not-entry t c).In_ok-entry) c.if-so_far-gt-MAX_ROWS.false (not-true _ c.if-not-entry.true)))

pub returns-in_err-rest : goal.returns-in_err-rest
returns-in_err-rest t c =
    let p = goal.at.returns-in_err-rest t c in
    let m = told_err _ _ _ _ c.shifted.ensures (near_at t p.After-shifted (fair-at t p.In_ok-entry)) c.in_err-rest.was in
    contents_has _ _ _ _ (err_is _ _ c.from_residual-in_err-rest.ensures.1 ∙ ap Err m.2
    ∙ sym (whole-at t p.After-shifted (read_at t p.In_ok-entry) ∙ ap (ahead c.args.channels c.in_ok-entry.entry) m.1))

pub returns : goal.returns
returns t c =
    let p = goal.at.returns t c in
    contents_has _ _ _ _ (sym (whole-at t p.After-shifted (read_at t p.In_ok-entry)
    ∙ ap (ahead c.args.channels c.in_ok-entry.entry) (rest_at t p.After-shifted (fair-at t p.In_ok-entry) _ c.in_ok-rest.was)))
