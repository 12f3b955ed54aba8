use Prim.Native.Nat.{ℕ, ◌+◌, ◌^◌, ◌<◌}
use lib.Dec.{eqb}
use lib.ListN.{get_or}
use Rattle.row_tags.specs.Tags.{tag_channel}
use mathlib.Core.Path.{◌≡◌, ◌∙◌, sym, ap, ap₂, subst}
use native.Mathlib.Numerals.{add-one}
use native.Mathlib.Omega.{arith}
use Rattle.buffer_layout.specs.Checks.{base_of, position_of}
use Rattle.buffer_layout.proofs.PositionLaws.{turn_early, turn_far, turn_fine, told_next}
use Rattle.buffer_layout.proofs.CheckLaws.{claimed_free, rest_fine, fine_end, fine_class, fine_turn, fine_taken, fine_more}
use Rattle.buffer_layout.proofs.well_formed.entries_pass.Goals as goal

pub returns-then-not-class_fine : goal.returns-then-not-class_fine
returns-then-not-class_fine c =
    let l = c.loop-i in
    sym (fine_class _ _ _ _ _ _ _ l.i l.seen (omega arith) (sym c.class_fine.ensures ∙ c.if-not-class_fine.true)) ∙ l.invariant.1

pub returns-then-at-least : goal.returns-then-at-least
returns-then-at-least c =
    let l = c.loop-i in
    let a = c.args in
    let f = a.fixed in
    let bo = c.base_of-base.ensures in
    let lb : base_of f (get_or a.times.now 0 0) < 2 ^ 32 = subst (λ (b : ℕ). b < 2 ^ 32) bo c.position-at.ensures.1 in
    let p : c.position-at.result ≡ position_of (base_of f (get_or a.times.now 0 0)) (get_or a.times.now l.i 0) (tag_channel (get_or a.tags.now l.i 0)) = c.position-at.ensures.0 ∙ ap₂ (λ (b d : ℕ). position_of b (get_or a.times.now l.i 0) d) bo c.tag_channel.ensures.0 in
    sym (fine_turn _ _ _ _ _ _ _ l.i l.seen (omega arith) (sym c.class_fine.ensures ∙ c.if-not-class_fine.false)
    (turn_early (eqb f.drawn 0) f.last_time f.last_channel a.times.now a.tags.now c.requires.1 lb l.i l.least c.position-at.result l.invariant.2 c.position-at.ensures.2 p c.if-at-least.true)) ∙ l.invariant.1

pub returns-then-at-ge-STRETCH : goal.returns-then-at-ge-STRETCH
returns-then-at-ge-STRETCH c =
    let l = c.loop-i in
    let a = c.args in
    let f = a.fixed in
    let bo = c.base_of-base.ensures in
    let lb : base_of f (get_or a.times.now 0 0) < 2 ^ 32 = subst (λ (b : ℕ). b < 2 ^ 32) bo c.position-at.ensures.1 in
    let p : c.position-at.result ≡ position_of (base_of f (get_or a.times.now 0 0)) (get_or a.times.now l.i 0) (tag_channel (get_or a.tags.now l.i 0)) = c.position-at.ensures.0 ∙ ap₂ (λ (b d : ℕ). position_of b (get_or a.times.now l.i 0) d) bo c.tag_channel.ensures.0 in
    sym (fine_turn _ _ _ _ _ _ _ l.i l.seen (omega arith) (sym c.class_fine.ensures ∙ c.if-not-class_fine.false)
    (turn_far (eqb f.drawn 0) f.last_time f.last_channel a.times.now a.tags.now c.requires.1 lb l.i l.least c.position-at.result l.invariant.2 c.position-at.ensures.2 p (omega (arith, c.if-at-ge-STRETCH.true)))) ∙ l.invariant.1

pub returns-then-not-claim : goal.returns-then-not-claim
returns-then-not-claim c =
    let l = c.loop-i in
    let a = c.args in
    let f = a.fixed in
    let bo = c.base_of-base.ensures in
    let lb : base_of f (get_or a.times.now 0 0) < 2 ^ 32 = subst (λ (b : ℕ). b < 2 ^ 32) bo c.position-at.ensures.1 in
    let p : c.position-at.result ≡ position_of (base_of f (get_or a.times.now 0 0)) (get_or a.times.now l.i 0) (tag_channel (get_or a.tags.now l.i 0)) = c.position-at.ensures.0 ∙ ap₂ (λ (b d : ℕ). position_of b (get_or a.times.now l.i 0) d) bo c.tag_channel.ensures.0 in
    sym (fine_taken _ _ _ _ _ _ _ l.i l.seen (omega arith) (sym c.class_fine.ensures ∙ c.if-not-class_fine.false)
    (turn_fine (eqb f.drawn 0) f.last_time f.last_channel a.times.now a.tags.now c.requires.1 lb l.i l.least c.position-at.result l.invariant.2 c.position-at.ensures.2 p c.if-at-least.false (omega (arith, c.if-at-ge-STRETCH.false))) (sym c.claim.ensures.value ∙ c.if-not-claim.true)) ∙ l.invariant.1

pub loop-i-preserved : goal.loop-i-preserved
loop-i-preserved c =
    let l = c.loop-i in
    let a = c.args in
    let f = a.fixed in
    let bo = c.base_of-base.ensures in
    let lb : base_of f (get_or a.times.now 0 0) < 2 ^ 32 = subst (λ (b : ℕ). b < 2 ^ 32) bo c.position-at.ensures.1 in
    let p : c.position-at.result ≡ position_of (base_of f (get_or a.times.now 0 0)) (get_or a.times.now l.i 0) (tag_channel (get_or a.tags.now l.i 0)) = c.position-at.ensures.0 ∙ ap₂ (λ (b d : ℕ). position_of b (get_or a.times.now l.i 0) d) bo c.tag_channel.ensures.0 in
    let g = sym c.claim.ensures.value ∙ c.if-not-claim.false in (
      omega arith,
      ap (rest_fine a.times.now a.tags.now a.lengths.now a.slots.now a.occupied a.fixed a.n (l.i + 1)) (c.claim.ensures.words_after ∙ claimed_free l.seen _ g)
          ∙ sym (fine_more _ _ _ _ _ _ _ l.i l.seen (omega arith) (sym c.class_fine.ensures ∙ c.if-not-class_fine.false)
          (turn_fine (eqb f.drawn 0) f.last_time f.last_channel a.times.now a.tags.now c.requires.1 lb l.i l.least c.position-at.result l.invariant.2 c.position-at.ensures.2 p c.if-at-least.false (omega (arith, c.if-at-ge-STRETCH.false))) g) ∙ l.invariant.1,
      rw (add-one l.i) (told_next (eqb f.drawn 0) f.last_time f.last_channel a.times.now a.tags.now c.requires.1 lb l.i l.least c.position-at.result l.invariant.2 c.position-at.ensures.2 p c.if-at-least.false (omega (arith, c.if-at-ge-STRETCH.false))),
    )

pub returns : goal.returns
returns c =
    let l = c.loop-i in
    c.same_words.ensures ∙ sym (fine_end _ _ _ _ _ _ _ l.i l.seen c.loop-i-test.false) ∙ l.invariant.1
