use mathlib.Core.Path.{◌≡◌, sym, ◌∙◌}
use Prim.Native.Nat.{◌+◌, ◌-◌, ◌<◌, ◌^◌}
use native.Mathlib.Omega.{arith}
use mir.Val.{Fits}
use mir.Syntax.{w32}
use borrow.Author.Rules.{rules}
use lib.ListN.{get_or, take, drop}
use Rattle.rtp.specs.Editions.{current}
use Rattle.rtp.proofs.AreaLaws.{part_cut}
use Rattle.formats.specs.Frames.{no_data}
use Rattle.row_tags.specs.Tags.{tag_class}
use Rattle.buffer_insert.specs.declared.laying.FrameHead.{FrameHead}
use Rattle.buffer_offer.specs.Rows.{first_row}
use Rattle.buffer_offer.proofs.RowStepLaws.{skip_asks, skip_gives, copy_asks, next_asks, next_gives}
use Rattle.buffer_offer.proofs.judging.judge_row.Goals.{Else-tag_class-eq0}
use Rattle.buffer_offer.proofs.judging.judge_row.Goals as goal

-- the row has data
some_at : (c : Else-tag_class-eq0) → tag_class (get_or c.args.row.now 1 0) ≡ no_data → ⊥
some_at c z =
    c.if-tag_class-eq0.false (c.tag_class.ensures ∙ z)

pub returns-then-tag_class-eq0 : goal.returns-then-tag_class-eq0
returns-then-tag_class-eq0 c rest p =
    let a = c.args in
    let r = first_row a.row.now in
    record {
      others = skip_asks current a.buffer.now a.packet.now a.tally a.store.now r rest p;
      all = skip_gives current a.buffer.now a.packet.now a.tally a.store.now r rest (sym c.tag_class.ensures ∙ c.if-tag_class-eq0.true);
    }

pub returns-then-packet-end : goal.returns-then-packet-end
returns-then-packet-end c rest p =
    absurd (let o : ⊥ = omega (arith, c.if-packet-end.true, (p.rows.0 (some_at (goal.at.returns-then-packet-end c).Else-tag_class-eq0)).2) in o)

pub returns : goal.returns
returns c rest p =
    let a = c.args in
    let head : FrameHead = record { time = get_or a.row.now 0 0; tag = get_or a.row.now 1 0 } in
    let n = get_or a.row.now 2 0 in
    let k = get_or a.row.now 3 0 in
    let frame = take (n + k - n) (drop n a.packet.now) in
    let cut = part_cut n k a.packet.now in
    let word : head.time < 2 ^ 32 = let f : Fits w32 head.time = search rules in f.fits in
    let z = some_at (goal.at.returns c).Else-tag_class-eq0 in
    let j = c.judge_copy-verdict.ensures (copy_asks current a.buffer.now a.packet.now a.tally a.store.now head n k rest p z frame cut) in
    record {
      others = next_asks current a.buffer.now a.packet.now a.tally a.store.now head n k rest p z frame cut word _ _ _ j _ c.count_verdict.ensures;
      all = next_gives current a.buffer.now a.packet.now a.tally a.store.now head n k rest p z frame cut word _ _ _ j _ c.count_verdict.ensures;
    }
