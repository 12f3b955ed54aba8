use mathlib.Core.Path.{◌≡◌}
use Prim.Native.Nat.{◌+◌, ◌*◌, ◌<◌}
use native.Mathlib.Omega.{arith}
use Rattle.write_payload.specs.Bytes.{first_byte}
use Rattle.write_payload.proofs.EntryLaws.{first_small}
use Rattle.write_payload.proofs.tables.first_byte.Goals.{After-struct_known-1}
use Rattle.write_payload.proofs.tables.first_byte.Goals as goal

-- the byte, and that it is one
byte_at : (c : After-struct_known-1) → let a = c.args in
    c.flag_of.result + c.format_of-facts.result.unit * c.code_for-code.result ≡ first_byte a.format a.more a.class a.length
unfolding first_byte
byte_at c =
    simp (c.flag_of.ensures, c.format_of-facts.ensures, c.code_for-code.ensures)

small_at : (c : After-struct_known-1) → c.flag_of.result + c.format_of-facts.result.unit * c.code_for-code.result < 256
unfolding first_byte
small_at c =
    let byte_at : let a = c.args in
    c.flag_of.result + c.format_of-facts.result.unit * c.code_for-code.result ≡ first_byte a.format a.more a.class a.length = simp (c.flag_of.ensures, c.format_of-facts.ensures, c.code_for-code.ensures) in
    let a = c.args in omega (arith, byte_at, first_small a.format a.more a.class a.length c.requires)

pub overflow_mul-result : goal.overflow_mul-result
overflow_mul-result c =
    omega (arith, small_at c)

pub overflow_add-result : goal.overflow_add-result
overflow_add-result c =
    omega (arith, small_at c)

pub overflow_cast-result : goal.overflow_cast-result
overflow_cast-result c =
    omega (arith, small_at c)

pub returns : goal.returns
returns c =
    byte_at c
