use mathlib.Core.Path.{ap, subst, ◌∙◌}
use mathlib.Core.List.{List, ◌++◌}
use Prim.Native.Nat.{ℕ}
use Rattle.console_text.specs.Ascii.{ascii}
use Rattle.console_text.specs.Lines.{gathered, decimal, Continued}
use Rattle.console_text.proofs.LineLaws.{gathered_then}
use Rattle.log_lines.specs.LineTexts.{refusal_text}
use Rattle.log_lines.proofs.LineLaws.{three}
use Rattle.log_lines.proofs.words.put_refusal.Goals as goal

pub returns : goal.returns
unfolding refusal_text
returns c =
    let l = c.args.line.now in
    let n = c.from-number in
    let t : List ℕ = ascii "refusal " ++ decimal n.result in
    let held = c.put.ensures.line_after
    ∙ gathered_then l c.put_number.new.self t (ascii ": ") c.put_number.ensures
    ∙ ap (gathered l) (three (ascii "refusal ") (decimal n.result) (ascii ": "))
    ∙ ap (λ (k : ℕ). gathered l (refusal_text k)) n.ensures in
    subst (λ (m : List ℕ). Continued m c.put_reason.new.line) held c.put_reason.ensures.continued
