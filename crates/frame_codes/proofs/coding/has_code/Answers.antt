use mathlib.Core.Path.{◌∙◌, ap, sym}
use Prim.Native.Nat.{ℕ}
use lib.Dec.{ltb}
use Rattle.formats.specs.declared.facts.Format.{Format}
use Rattle.formats.specs.Formats.{no_code}
use Rattle.frame_codes.proofs.CodeLaws.{table_code_lem}
use Rattle.frame_codes.proofs.coding.has_code.Goals as goal

pub returns : goal.returns
returns c =
    let a = c.args in
    c.table_has.ensures ∙ ap (λ (k : ℕ). ltb k no_code) (table_code_lem a.format a.class a.n _ (sym (ap (λ (f : Format). f.table) c.format_of-table.ensures)))
