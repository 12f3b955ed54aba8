use mathlib.Core.Path.{◌∙◌}
use Rattle.formats.specs.Frames.{amr_wb_length, length_in}
use Rattle.frame_codes.specs.Codes.{type_below}
use Rattle.frame_codes.proofs.AmrLaws.{amr_wb_code}
use Rattle.frame_codes.proofs.amr_codes.amr_wb_code.Goals as goal

pub returns : goal.returns
unfolding type_below length_in amr_wb_length
returns c =
    c.code_by_length.ensures ∙ amr_wb_code c.args.class c.args.n
