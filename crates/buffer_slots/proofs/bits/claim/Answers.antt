use Prim.Native.Nat.{◌/◌, ◌%◌}
use mathlib.Core.Path.{◌≡◌, ◌∙◌, sym}
use native.Mathlib.Omega.{arith}
use lib.ListN.{get_or}
use borrow.Author.Tests.{lt-ltb, eq-eqb, ne_eqb}
use Rattle.buffer_slots.specs.Bits.{mark_of}
use Rattle.buffer_slots.proofs.BitLaws.{bit_shift}
use Rattle.buffer_slots.proofs.bits.claim.Goals as goal

pub with_bit-requires : goal.with_bit-requires
with_bit-requires c =
    let a = c.args in
    (omega arith, sym (bit_shift (a.slot % 64) (get_or a.words.now (a.slot / 64) 0)) ∙ c.if-shifted-eq0.true)

pub returns-then-shifted-eq0 : goal.returns-then-shifted-eq0
returns-then-shifted-eq0 c =
    let a = c.args in
    let z = sym (bit_shift (a.slot % 64) (get_or a.words.now (a.slot / 64) 0)) ∙ c.if-shifted-eq0.true in
    record { value = rw (lt-ltb _ _ c.if-slot-ge-SLOTS.false, eq-eqb _ _ z); words_after = rw (lt-ltb _ _ c.if-slot-ge-SLOTS.false, eq-eqb _ _ z, c.with_bit.ensures) }

pub returns : goal.returns
returns c =
    let a = c.args in
    let z : mark_of a.words.now a.slot ≡ 0 → ⊥ = λ h. c.if-shifted-eq0.false (bit_shift (a.slot % 64) (get_or a.words.now (a.slot / 64) 0) ∙ h) in
    record { value = rw (lt-ltb _ _ c.if-slot-ge-SLOTS.false, ne_eqb _ _ z); words_after = rw (lt-ltb _ _ c.if-slot-ge-SLOTS.false, ne_eqb _ _ z) }
