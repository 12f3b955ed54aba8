use mathlib.Core.Path.{◌∙◌, ap}
use Rattle.formats.specs.declared.facts.Format.{Format}
use Rattle.frame_codes.proofs.AllowedLaws.{allowed_in_lem}
use Rattle.frame_codes.proofs.coding.allowed.Goals as goal

pub returns : goal.returns
returns c =
    let a = c.args in
    c.is_allowed.ensures ∙ allowed_in_lem a.format a.class a.length _ (ap (λ (f : Format). f.table) c.format_of-table.ensures)
