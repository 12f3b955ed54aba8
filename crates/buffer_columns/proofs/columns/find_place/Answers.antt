use Prim.Native.Nat.{ℕ}
use Rattle.std.specs.declared.cmp.Ordering.{Ordering as Side}
use Rattle.std.specs.declared.cmp.Ordering.TheVariants.{Less, Equal, Greater}
use mathlib.Core.Path.{◌≡◌, sym, ap, ◌∙◌}
use lib.ListN.{get_or}
use Rattle.buffer_copies.specs.Pairs.{order, side_of}
use native.Mathlib.Omega.{arith}
use Rattle.buffer_columns.specs.Bounds.{used}
use Rattle.buffer_columns.specs.Places.{middle, halving}
use Rattle.buffer_columns.proofs.BoundLaws.{used_few}
use Rattle.buffer_columns.proofs.SearchLaws.{from, left_none, turn, turn_is, answers}
use Rattle.buffer_copies.proofs.SideLaws.{side_is}
use Rattle.buffer_columns.proofs.columns.find_place.Goals.{After-side_of}
use Rattle.buffer_columns.proofs.columns.find_place.Goals as goal

-- the side, by the entry's channel
sided : (c : After-side_of)
    → let l = c.loop-width in
    let a = c.args in
    c.side_of.result ≡ side_of (from a.times.now a.tags.now a.time a.channel (middle l.low l.high))
sided c =
    let l = c.loop-width in
    let a = c.args in
    side_is _ _ c.side_of.ensures
    ∙ ap (λ (d : ℕ). side_of (order a.time a.channel (get_or a.times.now (middle l.low l.high) 0) d)) c.tag_channel-c.ensures.0

-- what a turn leaves, by the side
turned : (c : After-side_of) (s : Side) → c.side_of.result ≡ s
    → let l = c.loop-width in
    let a = c.args in
    turn a.times.now a.tags.now a.time a.channel s l.low l.high l.compared ≡ halving a.times.now a.tags.now a.time a.channel (used a.n)
turned c s e = let l = c.loop-width in turn_is _ _ _ _ s l.low l.high l.compared (omega arith) (sym e ∙ sided c) ∙ l.invariant.3

pub loop-width-preserved-in-Less : goal.loop-width-preserved-in-Less
loop-width-preserved-in-Less c =
    (omega arith, omega arith, omega arith, turned (goal.at.loop-width-preserved-in-Less c).After-side_of Less c.in-Less.is)

pub loop-width-preserved : goal.loop-width-preserved
loop-width-preserved c =
    (omega arith, omega arith, omega arith, turned (goal.at.loop-width-preserved c).After-side_of Greater c.in-Greater.is)

pub returns-then-width-lt1 : goal.returns-then-width-lt1
returns-then-width-lt1 c =
    let n = c.args.n in
    answers _ _ _ _ (used n) (used_few n) _ (sym (left_none _ _ _ _ c.loop-width.low c.loop-width.high c.loop-width.compared (omega arith)) ∙ c.loop-width.invariant.3)

pub returns-in-Equal : goal.returns-in-Equal
returns-in-Equal c =
    let n = c.args.n in answers _ _ _ _ (used n) (used_few n) _ (turned (goal.at.returns-in-Equal c).After-side_of Equal c.in-Equal.is)
