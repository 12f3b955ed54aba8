use mathlib.Core.Path.{◌∙◌}
use Rattle.console_text.specs.Ascii.{ascii}
use Rattle.console_text.specs.Lines.{counted}
use Rattle.console_text.proofs.LineLaws.{gathered_then}
use Rattle.log_lines.specs.LineTexts.{end_text}
use Rattle.log_lines.proofs.words.put_end.Goals as goal

pub returns : goal.returns
unfolding end_text
returns c =
    let a = c.args in
    c.put_count.ensures ∙ gathered_then a.line.now c.put.new.self (ascii "end, ") (counted a.count (ascii " frame") (ascii " frames")) c.put.ensures.line_after
