use mathlib.Core.Path.{ap, sym, subst, ◌∙◌}
use mathlib.Core.List.{List, ◌++◌}
use Prim.Native.Nat.{ℕ, ◌≤◌, ◌<◌}
use native.Mathlib.Omega.{arith}
use borrow.Author.Tests.{leb-true, leb-false}
use Rattle.rtp.specs.Refusals.{number}
use Rattle.console_text.specs.Ascii.{ascii}
use Rattle.console_text.specs.Lines.{gathered, decimal, Continued}
use Rattle.console_text.proofs.LineLaws.{gathered_then}
use Rattle.log_lines.specs.LineTexts.{fault_text, Begun}
use Rattle.log_lines.proofs.LineLaws.{fault_low, fault_high}
use Rattle.log_lines.proofs.words.put_fault.Goals as goal

pub returns-then-not-is_of_field : goal.returns-then-not-is_of_field
returns-then-not-is_of_field c =
    let a = c.args in
    let low : number a.fault.refusal < 17 = leb-false 17 (number a.fault.refusal) (sym c.is_of_field.ensures ∙ c.if-not-is_of_field.true) in
    subst (λ (t : List ℕ). Begun a.line.now t c.put_refusal.new.line) (fault_low (number a.fault.refusal) a.fault.offset low) c.put_refusal.ensures

pub returns : goal.returns
returns c =
    let a = c.args in
    let l = a.line.now in
    let n = c.from-number in
    let o = a.fault.offset in
    let p = c.put_number.new.self in
    let t : List ℕ = ascii "refusal " ++ decimal n.result in
    let u : List ℕ = ascii " at byte " ++ decimal o in
    let high : 17 ≤ number a.fault.refusal = leb-true 17 (number a.fault.refusal) (sym c.is_of_field.ensures ∙ c.if-not-is_of_field.false) in
    let placed = c.put_number-2.ensures ∙ gathered_then l p t u c.put_number.ensures in
    let held = c.put.ensures.line_after
    ∙ gathered_then l c.put_number-2.new.self (t ++ u) (ascii ": ") placed
    ∙ ap (gathered l) (fault_high n.result o (omega (arith, n.ensures, high)))
    ∙ ap (λ (k : ℕ). gathered l (fault_text k o)) n.ensures in
    subst (λ (m : List ℕ). Continued m c.put_reason.new.line) held c.put_reason.ensures.continued
