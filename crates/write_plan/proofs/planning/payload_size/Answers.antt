use mathlib.Core.Path.{◌≡◌, ap}
use native.Mathlib.Omega.{arith}
use Rattle.formats.specs.Formats.{format_of}
use Rattle.formats.specs.declared.facts.Format.{Format}
use Rattle.formats.proofs.FormatLaws.{header_small}
use Rattle.write_plan.proofs.planning.payload_size.Goals.{After-format_of-header}
use Rattle.write_plan.proofs.planning.payload_size.Goals as goal

header_at : (c : After-format_of-header) → c.format_of-header.result.header ≡ (format_of c.args.format).header
header_at c =
    ap (λ (f : Format). f.header) c.format_of-header.ensures

pub overflow_add-result : goal.overflow_add-result
overflow_add-result c =
    omega (arith, header_at c, header_small c.args.format, c.requires)

pub overflow_add-result-2 : goal.overflow_add-result-2
overflow_add-result-2 c =
    omega (arith, header_at c, header_small c.args.format, c.requires)

pub returns : goal.returns
returns c =
    omega (arith, header_at c)
