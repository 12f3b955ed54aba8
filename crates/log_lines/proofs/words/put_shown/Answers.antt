use mathlib.Core.Path.{ap, ◌∙◌}
use mathlib.Core.List.{List}
use Prim.Native.Nat.{ℕ}
use Rattle.console_text.specs.Lines.{gathered, frame_text}
use Rattle.log_lines.specs.LineTexts.{shown_text}
use Rattle.log_lines.proofs.words.put_shown.Goals as goal

pub returns : goal.returns
unfolding shown_text
returns c =
    let a = c.args in
    let f = a.frame in
    c.put_frame.ensures ∙ ap (λ (bs : List ℕ). gathered a.line.now (frame_text f.time f.channel f.class bs)) c.part_at-bytes.ensures
