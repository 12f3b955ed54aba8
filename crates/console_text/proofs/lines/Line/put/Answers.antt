use Rattle.std.proofs.Common.{◌≡◌, ◌+◌, ◌-◌, ◌++◌, List, ℕ, length, take, length-take, ap, ◌∙◌, arith}
use Rattle.std.proofs.lemmas.Slice.{take-put_mid}
use Rattle.console_text.specs.Lines.{gathered}
use Rattle.console_text.proofs.LineLaws.{gathered_put}
use Rattle.console_text.proofs.lines.Line.put.Goals as goal

pub returns-clause-line_after : goal.returns-clause-line_after
returns-clause-line_after c =
    let i = c.self.inside in
    let t = c.args.text.now in
    let n = c.min-n.result in
    let ys = c.copy_from_slice.new.self in
    let held = take i.length i.bytes in
    let size : length held ≡ i.length = omega (arith, length-take i.length i.bytes, c.self.invariant) in
    let laid : length ys ≡ n = omega arith in
    take-put_mid i.length (i.length + n - i.length) i.bytes ys (i.length + n) (omega (arith, laid)) (omega arith)
    ∙ ap (λ (x : List ℕ). held ++ x) c.copy_from_slice.ensures.after
    ∙ gathered_put held t n (omega (arith, size)) (omega (arith, size))
    ∙ ap (λ (l : List ℕ). gathered l t) c.self.view_is
