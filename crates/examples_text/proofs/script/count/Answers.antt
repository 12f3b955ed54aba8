use mathlib.Core.Path.{◌≡◌, sym, ◌∙◌}
use lib.Dec.{eqb}
use Rattle.std.proofs.Common.{rules, count_by}
use Rattle.examples_text.proofs.LineLaws.{spaces_counted}
use Rattle.examples_text.proofs.script.count.Goals as goal

pub returns : goal.returns
returns c =
    let counted : c.count.result ≡ count_by (λ byte. eqb byte 32) c.args.line.now = search rules in
    counted ∙ sym (spaces_counted c.args.line.now)
