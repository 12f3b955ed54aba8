use native.Mathlib.Omega.{arith}
use Rattle.rtp.proofs.ByteLaws.{read_two, read_four}
use Rattle.read_headers.specs.Header.{fields}
use Rattle.read_headers.proofs.header.header_fields.Goals as goal

pub returns : goal.returns
unfolding fields
returns c =
    let a = c.args in
    let long = c.requires in
    rw (c.read_u16.ensures, c.read_u32.ensures, c.read_u32-2.ensures, read_two a.packet.now 2 (omega (arith, long)), read_four a.packet.now 4 (omega (arith, long)), read_four a.packet.now 8 (omega (arith, long)))
