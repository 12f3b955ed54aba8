use mathlib.Core.Path.{◌∙◌, ap, sym}
use Rattle.formats.specs.declared.facts.Format.{Format}
use Rattle.frame_codes.proofs.CodeLaws.{table_code_lem}
use Rattle.frame_codes.proofs.coding.code_for.Goals as goal

pub returns-in-Some : goal.returns-in-Some
returns-in-Some c =
    c.in-Some.ensures ∙ table_code_lem _ _ _ _ (sym (ap (λ (f : Format). f.table) c.format_of-table.ensures))

pub returns-in-None : goal.returns-in-None
returns-in-None c =
    c.in-None.ensures ∙ table_code_lem _ _ _ _ (sym (ap (λ (f : Format). f.table) c.format_of-table.ensures))
