use mathlib.Core.Path.{sym, ◌∙◌}
use Prim.Native.Nat.{◌-◌}
use native.Mathlib.Omega.{arith}
use Rattle.write_plan.specs.Entries.{first_part}
use Rattle.write_plan.proofs.EntriesLaws.{size_half, run_one, run_two}
use Rattle.write_plan.proofs.planning.run_size.Goals as goal

pub returns-then-blocks-le-MAX_BLOCKS : goal.returns-then-blocks-le-MAX_BLOCKS
returns-then-blocks-le-MAX_BLOCKS c =
    let a = c.args in c.entry_size.ensures ∙ sym (run_one a.format a.blocks c.if-blocks-le-MAX_BLOCKS.true)

pub overflow_add-result : goal.overflow_add-result
overflow_add-result c =
    let a = c.args in omega (arith, c.entry_size-2.ensures, c.entry_size-first.ensures, size_half a.format first_part, size_half a.format (a.blocks - first_part))

pub returns : goal.returns
returns c =
    let a = c.args in omega (arith, c.entry_size-2.ensures, c.entry_size-first.ensures, run_two a.format a.blocks c.if-blocks-le-MAX_BLOCKS.false)
