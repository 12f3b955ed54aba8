use mathlib.Core.Path.{ap, sym, ◌∙◌}
use Prim.Native.Nat.{◌≤◌}
use native.Mathlib.Omega.{arith}
use lib.ListN.{length, length-set}
use Rattle.formats.specs.declared.facts.Format.{Format}
use Rattle.read_contents.proofs.EntryLaws.{min_some, min_counted}
use Rattle.write_payload.proofs.EntryLaws.{put_single, put_counted}
use Rattle.write_payload.proofs.tables.put_start.Goals.{Then-format_of}
use Rattle.write_payload.proofs.tables.put_start.Goals as goal

-- a counted entry has two bytes
two_at : (c : Then-format_of) → 2 ≤ length c.args.out.now
two_at c =
    omega (arith, c.requires.room, min_counted c.args.format (ap (λ (f : Format). f.counted) (sym c.format_of.ensures) ∙ c.if-format_of.true))

pub bounds-out-0 : goal.bounds-out-0
bounds-out-0 c =
    omega (arith, c.requires.room, min_some c.args.format)

pub bounds-out-1 : goal.bounds-out-1
bounds-out-1 c =
    simp length-set (omega (arith, two_at c))

pub returns-then-format_of : goal.returns-then-format_of
returns-then-format_of c =
    let a = c.args in rw c.first_byte.ensures (put_counted a.format a.more a.class a.size a.blocks a.out.now (ap (λ (f : Format). f.counted) (sym c.format_of.ensures) ∙ c.if-format_of.true) (two_at c))

pub returns-else-format_of : goal.returns-else-format_of
returns-else-format_of c =
    let a = c.args in rw c.first_byte.ensures (put_single a.format a.more a.class a.size a.blocks a.out.now (ap (λ (f : Format). f.counted) (sym c.format_of.ensures) ∙ c.if-format_of.false) (omega (arith, c.requires.room, min_some a.format)))
