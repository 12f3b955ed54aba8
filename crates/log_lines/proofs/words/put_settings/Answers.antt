use mathlib.Core.Path.{ap, ◌∙◌}
use mathlib.Core.List.{List, ◌++◌}
use Prim.Native.Nat.{ℕ}
use Rattle.console_text.specs.Ascii.{ascii}
use Rattle.console_text.specs.Lines.{gathered, decimal, counted}
use Rattle.console_text.proofs.LineLaws.{gathered_then}
use Rattle.log_lines.specs.LineTexts.{format_text, redundancy_text, settings_text}
use Rattle.log_lines.proofs.LineLaws.{four}
use Rattle.log_lines.proofs.words.put_settings.Goals as goal

pub returns : goal.returns
unfolding settings_text
returns c =
    let l = c.args.line.now in
    let st = c.args.settings in
    let t1 : List ℕ = format_text st.format in
    let t2 : List ℕ = counted st.channels (ascii " channel, payload type ") (ascii " channels, payload type ") in
    let t3 : List ℕ = decimal st.payload_type in
    let t4 : List ℕ = redundancy_text st.redundancy_type in
    let e2 = c.put_count.ensures ∙ gathered_then l c.put_format.new.line t1 t2 c.put_format.ensures in
    let e3 = c.put_number.ensures ∙ gathered_then l c.put_count.new.self (t1 ++ t2) t3 e2 in
    let e4 = c.put_redundancy.ensures ∙ gathered_then l c.put_number.new.self ((t1 ++ t2) ++ t3) t4 e3 in
    e4 ∙ ap (gathered l) (four t1 t2 t3 t4)
