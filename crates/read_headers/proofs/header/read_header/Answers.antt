use mathlib.Core.Path.{sym, ◌∙◌}
use Rattle.rtp.proofs.ErrorLaws.{err_is}
use Rattle.read_headers.proofs.HeaderLaws.{start_within}
use Rattle.read_headers.specs.Header.{header}
use borrow.Author.Tests.{le-ltb, lt-ltb, eq-eqb, ne_eqb}
use borrow.Author.Rules.{rules}
use Rattle.read_headers.proofs.header.read_header.Goals as goal

pub returns-then-packet-lt-MIN_PACKET : goal.returns-then-packet-lt-MIN_PACKET
unfolding header
returns-then-packet-lt-MIN_PACKET c =
    simp (lt-ltb _ _ c.if-packet-lt-MIN_PACKET.true)

pub returns-then-packet-gt-MAX_PACKET : goal.returns-then-packet-gt-MAX_PACKET
unfolding header
returns-then-packet-gt-MAX_PACKET c =
    simp (le-ltb _ _ c.if-packet-lt-MIN_PACKET.false, lt-ltb _ _ c.if-packet-gt-MAX_PACKET.true)

pub returns-then-version-ne2 : goal.returns-then-version-ne2
unfolding header
returns-then-version-ne2 c =
    simp (le-ltb _ _ c.if-packet-lt-MIN_PACKET.false, le-ltb _ _ c.if-packet-gt-MAX_PACKET.false, ne_eqb _ _ c.if-version-ne2.true)

pub payload_end-requires : goal.payload_end-requires
payload_end-requires c =
    (search rules, (start_within _ _ (sym c.payload_start.ensures ∙ c.in_ok-start.was)).1)

pub returns-in_err-start : goal.returns-in_err-start
unfolding header
returns-in_err-start c =
    rw (err_is _ _ c.from_residual.ensures.1)
    (simp (le-ltb _ _ c.if-packet-lt-MIN_PACKET.false, le-ltb _ _ c.if-packet-gt-MAX_PACKET.false, eq-eqb _ _ c.if-version-ne2.false, ← c.payload_start.ensures, c.in_err-start.was))

pub returns-in_err-end : goal.returns-in_err-end
unfolding header
returns-in_err-end c =
    rw (err_is _ _ c.from_residual-in_err-end.ensures.1)
    (simp (le-ltb _ _ c.if-packet-lt-MIN_PACKET.false, le-ltb _ _ c.if-packet-gt-MAX_PACKET.false, eq-eqb _ _ c.if-version-ne2.false, ← c.payload_start.ensures, c.in_ok-start.was, ← c.payload_end.ensures, c.in_err-end.was))

pub returns : goal.returns
unfolding header
returns c =
    simp (le-ltb _ _ c.if-packet-lt-MIN_PACKET.false, le-ltb _ _ c.if-packet-gt-MAX_PACKET.false, eq-eqb _ _ c.if-version-ne2.false, ← c.payload_start.ensures, c.in_ok-start.was, ← c.payload_end.ensures, c.in_ok-end.was, ← c.header_fields.ensures)
