use mathlib.Core.Path.{◌≡◌, subst}
use Prim.Native.Nat.{ℕ, ◌≤◌, ◌<◌}
use Rattle.rtp.specs.Editions.{current}
use Rattle.write_sizes.specs.Measures.{measured}
use Rattle.write_parts.specs.Parts.{max_offset}
use Rattle.write_parts.proofs.ListsLaws.{told_none, told_bytes, redundant_none, redundant_long, redundant_far, redundant_all}
use Rattle.write_parts.proofs.sizes.measure_redundant.Goals.{In-Ok}
use Rattle.write_parts.proofs.sizes.measure_redundant.Goals as goal

size-at : (c : In-Ok) → measured current c.args.asked c.args.rows.now ≡ record { refusal = 0; count = c.in-Ok.size }
size-at c =
    told_bytes _ _ _ c.in-Ok.is c.measure_payload.ensures

pub returns-then-size-gt-MAX_BLOCK : goal.returns-then-size-gt-MAX_BLOCK
returns-then-size-gt-MAX_BLOCK c =
    let a = c.args in redundant_long current a.asked a.time a.rows.now _ (size-at (goal.at.returns-then-size-gt-MAX_BLOCK c).In-Ok) c.if-size-gt-MAX_BLOCK.true

pub returns-then-offset_of-gt-MAX_OFFSET : goal.returns-then-offset_of-gt-MAX_OFFSET
returns-then-offset_of-gt-MAX_OFFSET c =
    let a = c.args in redundant_far current a.asked a.time a.rows.now _ (size-at (goal.at.returns-then-offset_of-gt-MAX_OFFSET c).In-Ok) c.if-size-gt-MAX_BLOCK.false (subst (λ (n : ℕ). max_offset < n) c.offset_of.ensures c.if-offset_of-gt-MAX_OFFSET.true)

pub returns-in_default : goal.returns-in_default
returns-in_default c =
    let a = c.args in redundant_none current a.asked a.time a.rows.now (told_none _ _ _ c.in_default.is c.measure_payload.ensures)

pub returns : goal.returns
returns c =
    let a = c.args in redundant_all current a.asked a.time a.rows.now _ (size-at (goal.at.returns c).In-Ok) c.if-size-gt-MAX_BLOCK.false (subst (λ (n : ℕ). n ≤ max_offset) c.offset_of.ensures c.if-offset_of-gt-MAX_OFFSET.false)
