use mathlib.Core.Path.{◌≡◌, sym, ap, ◌∙◌}
use Prim.Native.Nat.{ℕ}
use native.Mathlib.Omega.{arith}
use lib.Dec.{leb}
use lib.ListN.{length, get_or}
use Rattle.examples_text.proofs.LineLaws.{starts_next, starts_differs, starts_end}
use Rattle.examples_text.proofs.script.first_is.Goals as goal

pub returns-then-byte-letter : goal.returns-then-byte-letter
returns-then-byte-letter c =
    let l = c.loop-i in
    let a = c.args in
    sym (l.invariant ∙ starts_differs a.word.now a.line.now l.i (omega arith) (λ e. c.if-byte-letter.true (c.byte.ensures ∙ e)))

pub loop-i-preserved : goal.loop-i-preserved
loop-i-preserved c =
    let l = c.loop-i in
    let a = c.args in
    l.invariant ∙ starts_next a.word.now a.line.now l.i (omega arith) (sym c.byte.ensures ∙ c.if-byte-letter.false)

pub returns : goal.returns
returns c =
    let l = c.loop-i in
    let a = c.args in
    let all : l.i ≡ length a.word.now = omega arith in
    ap (λ (b : ℕ). leb b 32) c.byte-2.ensures
    ∙ ap (λ (k : ℕ). leb (get_or a.line.now k 0) 32) (sym all)
    ∙ sym (l.invariant ∙ starts_end a.word.now a.line.now l.i (omega arith))
