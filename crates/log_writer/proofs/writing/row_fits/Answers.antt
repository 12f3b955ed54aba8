use mathlib.Core.Path.{ap, ◌∙◌}
use Prim.Native.Nat.{ℕ}
use Rattle.row_tags.specs.Tags.{tag_channel}
use Rattle.log_fields.specs.Fields.{frame_fits}
use Rattle.log_writer.proofs.writing.row_fits.Goals as goal

pub returns : goal.returns
returns c =
    let a = c.args in
    c.frame_fits.ensures
    ∙ ap (λ (n : ℕ). frame_fits a.asked n c.tag_class-class.result a.row.length) c.tag_channel-channel.ensures.0
    ∙ ap (λ (n : ℕ). frame_fits a.asked (tag_channel a.row.tag) n a.row.length) c.tag_class-class.ensures
