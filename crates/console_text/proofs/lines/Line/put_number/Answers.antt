use mathlib.Core.Path.{◌∙◌, ap}
use Prim.Native.Nat.{◌<◌, ◌^◌}
use native.Mathlib.Omega.{arith}
use Rattle.console_text.specs.Lines.{gathered, decimal}
use Rattle.console_text.proofs.LineLaws.{gathered_then, decimal_fewest}
use Rattle.console_text.proofs.lines.Line.put_number.Goals as goal

pub returns : goal.returns
returns c =
    let a = c.args in
    let d = c.decimal-k in
    let most : a.n < 10 ^ 20 = omega arith in
    c.put-2.ensures.line_after
    ∙ ap (gathered c.put.new.self) (d.ensures.digits ∙ decimal_fewest a.n d.result most d.ensures.len)
    ∙ gathered_then a.self.now c.put.new.self a.text.now (decimal a.n) c.put.ensures.line_after
