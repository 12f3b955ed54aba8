use Prim.Native.Nat.{ℕ, ◌-◌, ◌*◌, ◌≤◌}
use mathlib.Core.Path.{◌≡◌, refl, ap, sym, ◌∙◌}
use mathlib.Core.List.{List, ◌++◌}
use native.Mathlib.Omega.{arith}
use lib.ListN.{length, get_or, take, drop, length-take, length-drop}
use Rattle.rtp.specs.Editions.{current}
use Rattle.rtp.specs.Sizes.{row_width}
use Rattle.rtp.specs.Areas.{over}
use Rattle.rtp.proofs.AreaLaws.{part_length, part_to_end}
use Rattle.write_parts.proofs.WordLaws.{words_counted}
use Rattle.write_packet.specs.Room.{list_bytes, lists_payloads, list_header, lists_headers, over_from, BlockRoom}
use Rattle.write_packet.proofs.FromLaws.{from_part, from_both}
use Rattle.write_packet.proofs.PutLaws.{room_one, payloads_split, headers_split, block_first, blocks_rest, blocks_one}
use Rattle.write_packet.proofs.packets.Sent.+put_blocks.Goals.{After-first_words-n, After-put_block-size}
use Rattle.write_packet.proofs.packets.Sent.+put_blocks.Goals as goal

-- the words of the first list
words-at : (t : ℕ) (c : After-first_words-n t) → c.first_words-n.result ≡ row_width * get_or c.args.counts.now 0 0
words-at t c =
    c.first_words-n.ensures.0 ∙ words_counted c.args.counts.now c.args.rows.now (omega (arith, c.if-counts-lt2.false)) c.requires.payloads.counted

-- room for the first block
first-at : (t : ℕ) (c : After-first_words-n t) → let a = c.args in BlockRoom current a.self.now.asked a.self.now.mode_request a.self.now.time a.self.now.bytes.now (take c.first_words-n.result a.rows.now) a.start (length a.out.now)
first-at t c =
    let words-at : c.first_words-n.result ≡ row_width * get_or c.args.counts.now 0 0 = c.first_words-n.ensures.0 ∙ words_counted c.args.counts.now c.args.rows.now (omega (arith, c.if-counts-lt2.false)) c.requires.payloads.counted in
    let a = c.args in
    block_first current a.self.now.asked a.self.now.mode_request a.self.now.time a.self.now.bytes.now a.counts.now a.rows.now a.start (length a.out.now) c.requires c.if-counts-lt2.false c.first_words-n.result (words-at)

-- the first payload's bytes are inside the area
size-at : (t : ℕ) (c : After-put_block-size t) → c.put_block-size.result ≤ length c.args.out.now - c.args.start
size-at t c =
    let words-at : c.first_words-n.result ≡ row_width * get_or c.args.counts.now 0 0 = c.first_words-n.ensures.0 ∙ words_counted c.args.counts.now c.args.rows.now (omega (arith, c.if-counts-lt2.false)) c.requires.payloads.counted in
    let first-at : let a = c.args in BlockRoom current a.self.now.asked a.self.now.mode_request a.self.now.time a.self.now.bytes.now (take c.first_words-n.result a.rows.now) a.start (length a.out.now) = let a = c.args in
    block_first current a.self.now.asked a.self.now.mode_request a.self.now.time a.self.now.bytes.now a.counts.now a.rows.now a.start (length a.out.now) c.requires c.if-counts-lt2.false c.first_words-n.result (words-at) in
    omega (arith, (first-at).list.room, c.put_block-size.ensures.0)

-- the area after the first block
long-at : (t : ℕ) (c : After-put_block-size t) → 4 ≤ length c.put_block-size.new.out
long-at t c =
    let words-at : c.first_words-n.result ≡ row_width * get_or c.args.counts.now 0 0 = c.first_words-n.ensures.0 ∙ words_counted c.args.counts.now c.args.rows.now (omega (arith, c.if-counts-lt2.false)) c.requires.payloads.counted in
    let first-at : let a = c.args in BlockRoom current a.self.now.asked a.self.now.mode_request a.self.now.time a.self.now.bytes.now (take c.first_words-n.result a.rows.now) a.start (length a.out.now) = let a = c.args in
    block_first current a.self.now.asked a.self.now.mode_request a.self.now.time a.self.now.bytes.now a.counts.now a.rows.now a.start (length a.out.now) c.requires c.if-counts-lt2.false c.first_words-n.result (words-at) in
    let b = first-at in omega (arith, b.apart, b.inside, c.put_block-size.auto.out)

pub put_list-requires : goal.put_list-requires
put_list-requires t c =
    let a = c.args in
    rw (part_length a.out.now a.out.now a.start refl)
    (room_one current a.self.now.asked a.self.now.mode_request a.self.now.bytes.now a.counts.now a.rows.now (length a.out.now - a.start) c.requires.payloads c.if-counts-lt2.true)

pub returns-then-counts-lt2 : goal.returns-then-counts-lt2
returns-then-counts-lt2 t c =
    let a = c.args in
    blocks_one current a.self.now.asked a.self.now.mode_request a.self.now.time a.self.now.bytes.now a.counts.now a.rows.now a.start a.out.now _ c.requires c.if-counts-lt2.true
    (from_part (list_bytes current a.self.now.asked a.self.now.mode_request a.self.now.bytes.now a.rows.now) a.out.now _ a.start c.put_list.ensures.1)

pub slice_bounds-put_block-end : goal.slice_bounds-put_block-end
slice_bounds-put_block-end t c =
    simp length-take (omega (arith, c.first_words-n.ensures.1))

pub put_block-size-requires : goal.put_block-size-requires
put_block-size-requires t c =
    first-at t (goal.at.put_block-size-requires t c).After-first_words-n

pub overflow_sub-start : goal.overflow_sub-start
overflow_sub-start t c =
    omega (arith, (first-at t (goal.at.overflow_sub-start t c).After-first_words-n).apart)

pub overflow_add-start : goal.overflow_add-start
overflow_add-start t c =
    omega (arith, (first-at t (goal.at.overflow_add-start t c).After-first_words-n).inside, size-at t (goal.at.overflow_add-start t c).After-put_block-size, c.ranges.start)

pub slice_bounds-put_blocks-count-3 : goal.slice_bounds-put_blocks-count-3
slice_bounds-put_blocks-count-3 t c =
    long-at t (goal.at.slice_bounds-put_blocks-count-3 t c).After-put_block-size

pub slice_bounds-put_blocks-start-3 : goal.slice_bounds-put_blocks-start-3
slice_bounds-put_blocks-start-3 t c =
    omega (arith, long-at t (goal.at.slice_bounds-put_blocks-start-3 t c).After-put_block-size)

pub put_blocks-requires : goal.put_blocks-requires
put_blocks-requires t c =
    let a = c.args in (
      rw (part_to_end 1 a.counts.now, length-drop) (omega (arith, c.if-counts-lt2.false)),
      rw (part_to_end 1 a.counts.now, part_to_end c.first_words-n.result a.rows.now, part_length c.put_block-size.new.out a.out.now 4 c.put_block-size.auto.out)
          (blocks_rest current a.self.now.asked a.self.now.mode_request a.self.now.time a.self.now.bytes.now a.counts.now a.rows.now a.start (length a.out.now) c.requires c.if-counts-lt2.false c.first_words-n.result (words-at t (goal.at.put_blocks-requires t c).After-first_words-n) c.put_block-size.result c.put_block-size.ensures.0),
    )

pub returns : goal.returns
returns t c =
    let a = c.args in
    let n = c.first_words-n.result in
    let p = list_bytes current a.self.now.asked a.self.now.mode_request a.self.now.bytes.now (take n a.rows.now) in
    let ps = lists_payloads current a.self.now.asked a.self.now.mode_request a.self.now.bytes.now (drop 1 a.counts.now) (drop n a.rows.now) in
    from_both (list_header current a.self.now.asked a.self.now.mode_request a.self.now.time a.self.now.bytes.now (take n a.rows.now))
    (lists_headers current a.self.now.asked a.self.now.mode_request a.self.now.time a.self.now.bytes.now (drop 1 a.counts.now) (drop n a.rows.now)) p ps a.out.now c.put_block-size.new.out _ a.start c.put_block-size.result
    refl (first-at t (goal.at.returns t c).After-first_words-n).apart c.requires.inside c.put_block-size.ensures.0 c.put_block-size.ensures.1
    (c.put_blocks.ensures ∙ rw (part_to_end 1 a.counts.now, part_to_end n a.rows.now))
    ∙ ap (λ (x : List ℕ). over x (over_from a.start (p ++ ps) a.out.now)) (sym (headers_split current a.self.now.asked a.self.now.mode_request a.self.now.time a.self.now.bytes.now a.counts.now a.rows.now a.start (length a.out.now) c.requires c.if-counts-lt2.false n (words-at t (goal.at.returns t c).After-first_words-n)))
    ∙ ap (λ (x : List ℕ). over (lists_headers current a.self.now.asked a.self.now.mode_request a.self.now.time a.self.now.bytes.now a.counts.now a.rows.now) (over_from a.start x a.out.now))
    (sym (payloads_split current a.self.now.asked a.self.now.mode_request a.self.now.bytes.now a.counts.now a.rows.now (length a.out.now - a.start) c.requires.payloads c.if-counts-lt2.false n (words-at t (goal.at.returns t c).After-first_words-n)))
