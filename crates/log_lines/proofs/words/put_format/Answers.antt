use mathlib.Core.Path.{ap, sym, ◌∙◌}
use Prim.Native.Nat.{ℕ}
use borrow.Author.Tests.{ne_eqb}
use Rattle.rtp.specs.declared.payload_format.PayloadFormat.TheVariants.{G719, G719Interleaved, GsmHr, Amr, AmrWb}
use Rattle.rtp.specs.PayloadFormats.{format_number}
use Rattle.console_text.specs.Lines.{gathered}
use Rattle.log_lines.specs.LineTexts.{format_text}
use Rattle.log_lines.proofs.words.put_format.Goals as goal

pub returns-in-Ok-G719 : goal.returns-in-Ok-G719
unfolding format_text
returns-in-Ok-G719 c =
    let w = c.in-Ok-G719 in
    c.put.ensures.line_after ∙ ap (λ (k : ℕ). gathered c.args.line.now (format_text k)) (ap format_number (sym w.field-0-is) ∙ w.ensures)

pub returns-in-Ok-G719Interleaved : goal.returns-in-Ok-G719Interleaved
unfolding format_text
returns-in-Ok-G719Interleaved c =
    let w = c.in-Ok-G719Interleaved in
    c.put-in-Ok-G719Interleaved.ensures.line_after ∙ ap (λ (k : ℕ). gathered c.args.line.now (format_text k)) (ap format_number (sym w.field-0-is) ∙ w.ensures)

pub returns-in-Ok-GsmHr : goal.returns-in-Ok-GsmHr
unfolding format_text
returns-in-Ok-GsmHr c =
    let w = c.in-Ok-GsmHr in
    c.put-in-Ok-GsmHr.ensures.line_after ∙ ap (λ (k : ℕ). gathered c.args.line.now (format_text k)) (ap format_number (sym w.field-0-is) ∙ w.ensures)

pub returns-in-Ok-Amr : goal.returns-in-Ok-Amr
unfolding format_text
returns-in-Ok-Amr c =
    let w = c.in-Ok-Amr in
    c.put-in-Ok-Amr.ensures.line_after ∙ ap (λ (k : ℕ). gathered c.args.line.now (format_text k)) (ap format_number (sym w.field-0-is) ∙ w.ensures)

pub returns-in-Ok-AmrWb : goal.returns-in-Ok-AmrWb
unfolding format_text
returns-in-Ok-AmrWb c =
    let w = c.in-Ok-AmrWb in
    c.put-in-Ok-AmrWb.ensures.line_after ∙ ap (λ (k : ℕ). gathered c.args.line.now (format_text k)) (ap format_number (sym w.field-0-is) ∙ w.ensures)

pub returns-in-Err : goal.returns-in-Err
unfolding format_text
returns-in-Err c =
    let k = c.args.format in
    let none = c.in-Err.ensures.1 in
    simp (ne_eqb k 1 (λ e. none G719 (sym e)), ne_eqb k 2 (λ e. none G719Interleaved (sym e)), ne_eqb k 3 (λ e. none GsmHr (sym e)), ne_eqb k 4 (λ e. none Amr (sym e)), ne_eqb k 5 (λ e. none AmrWb (sym e))) c.put-in-Err.ensures.line_after
