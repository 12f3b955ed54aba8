use native.Mathlib.Nat.{mod-lt}
use mathlib.Core.Path.{refl}
use Rattle.formats.proofs.FormatLaws.{code_placed}
use Rattle.read_contents.proofs.entries.code_in.Goals as goal

pub nonzero_div-result : goal.nonzero_div-result
nonzero_div-result c =
    rw c.format_of-facts.ensures (code_placed c.args.format).weighted

pub nonzero_rem-result : goal.nonzero_rem-result
nonzero_rem-result c =
    rw c.format_of-facts.ensures (code_placed c.args.format).some

pub returns : goal.returns
returns c =
    rw c.format_of-facts.ensures (refl, mod-lt _ (code_placed c.args.format).some)
