use mathlib.Core.Path.{sym}
use native.Mathlib.Omega.{arith}
use Rattle.frame_codes.specs.Codes.{no_type}
use Rattle.frame_codes.proofs.AmrLaws.{no_kind}
use Rattle.frame_codes.proofs.amr_codes.code_by_length.Goals as goal

pub returns-in-None : goal.returns-in-None
returns-in-None c =
    sym (no_kind _ _ _ (sym (c.in-None.ensures.lookup.4 (omega arith) no_type)))
