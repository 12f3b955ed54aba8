use mathlib.Core.Path.{sym, ◌∙◌}
use native.Mathlib.Omega.{arith}
use lib.ListN.{length-set}
use Rattle.rtp.proofs.AreaLaws.{over_four}
use Rattle.write_parts.proofs.HeadingLaws.{block_short, block_type, block_far, block_long, block_in}
use Rattle.write_parts.proofs.headers.put_block_header.Goals as goal

pub returns-then-out-lt4 : goal.returns-then-out-lt4
returns-then-out-lt4 c =
    sym (block_short _ _ _ _ c.if-out-lt4.true)

pub returns-then-payload_type-gt127 : goal.returns-then-payload_type-gt127
returns-then-payload_type-gt127 c =
    sym (block_type _ _ _ _ c.if-payload_type-gt127.true)

pub returns-then-offset-gt-MAX_OFFSET : goal.returns-then-offset-gt-MAX_OFFSET
returns-then-offset-gt-MAX_OFFSET c =
    sym (block_far _ _ _ _ c.if-offset-gt-MAX_OFFSET.true)

pub returns-then-size-gt-MAX_BLOCK : goal.returns-then-size-gt-MAX_BLOCK
returns-then-size-gt-MAX_BLOCK c =
    sym (block_long _ _ _ _ c.if-size-gt-MAX_BLOCK.true)

pub bounds-out-1 : goal.bounds-out-1
bounds-out-1 c =
    rw length-set (omega (arith, c.if-out-lt4.false))

pub bounds-out-2 : goal.bounds-out-2
bounds-out-2 c =
    rw (length-set, length-set) (omega (arith, c.if-out-lt4.false))

pub returns : goal.returns
returns c =
    let a = c.args in
    let room = c.if-out-lt4.false in
    over_four a.out.now _ _ _ _ room
    ∙ sym (block_in a.payload_type a.offset a.size a.out.now (omega (arith, c.if-payload_type-gt127.false)) c.if-offset-gt-MAX_OFFSET.false c.if-size-gt-MAX_BLOCK.false room)
