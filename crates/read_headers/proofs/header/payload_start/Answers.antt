use mathlib.Core.Path.{◌≡◌, ◌∙◌}
use Prim.Native.Nat.{◌+◌, ◌*◌, ◌%◌}
use native.Mathlib.Omega.{arith}
use Rattle.rtp.specs.Sizes.{min_packet}
use Rattle.rtp.specs.Numbers.{be16}
use Rattle.rtp.proofs.ByteLaws.{read_two}
use Rattle.read_headers.specs.Header.{payload_start}
use borrow.Author.Tests.{le-ltb, lt-ltb, eq-eqb, ne_eqb}
use Rattle.read_headers.proofs.header.payload_start.Goals.{After-read_u16-words}
use Rattle.read_headers.proofs.header.payload_start.Goals as goal

-- the count of the extension's words
words-at : (c : After-read_u16-words) → c.read_u16-words.result ≡ be16 c.args.packet.now (min_packet + 4 * (c.wide-first.result % 16) + 2)
words-at c =
    c.read_u16-words.ensures
    ∙ read_two c.args.packet.now (min_packet + 4 * (c.wide-first.result % 16) + 2) (omega (arith, c.if-packet-csrc_end-2.false))

pub returns-then-packet-csrc_end : goal.returns-then-packet-csrc_end
unfolding payload_start
returns-then-packet-csrc_end c =
    rw (← c.wide-first.ensures.0, lt-ltb _ _ c.if-packet-csrc_end.true)

pub returns-then-first-eq0 : goal.returns-then-first-eq0
unfolding payload_start
returns-then-first-eq0 c =
    rw (← c.wide-first.ensures.0, le-ltb _ _ c.if-packet-csrc_end.false, eq-eqb _ _ c.if-first-eq0.true)

pub returns-then-packet-csrc_end-2 : goal.returns-then-packet-csrc_end-2
unfolding payload_start
returns-then-packet-csrc_end-2 c =
    rw (← c.wide-first.ensures.0, le-ltb _ _ c.if-packet-csrc_end.false, ne_eqb _ _ c.if-first-eq0.false, lt-ltb _ _ c.if-packet-csrc_end-2.true)

pub returns-then-packet-extension_end : goal.returns-then-packet-extension_end
unfolding payload_start
returns-then-packet-extension_end c =
    rw (← c.wide-first.ensures.0, le-ltb _ _ c.if-packet-csrc_end.false, ne_eqb _ _ c.if-first-eq0.false, le-ltb _ _ c.if-packet-csrc_end-2.false, ← words-at (goal.at.returns-then-packet-extension_end c).After-read_u16-words, lt-ltb _ _ c.if-packet-extension_end.true)

pub returns : goal.returns
unfolding payload_start
returns c =
    rw (← c.wide-first.ensures.0, le-ltb _ _ c.if-packet-csrc_end.false, ne_eqb _ _ c.if-first-eq0.false, le-ltb _ _ c.if-packet-csrc_end-2.false, ← words-at (goal.at.returns c).After-read_u16-words, le-ltb _ _ c.if-packet-extension_end.false)
