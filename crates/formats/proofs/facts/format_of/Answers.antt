use Rattle.std.proofs.Common.{sym}
use Rattle.formats.proofs.FormatLaws.{unknown_format}
use Rattle.formats.proofs.facts.format_of.Goals as goal

pub returns-in-Err : goal.returns-in-Err
returns-in-Err c =
    sym (unknown_format _ c.in-Err.ensures.1)
