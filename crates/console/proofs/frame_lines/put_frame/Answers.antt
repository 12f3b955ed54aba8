use mathlib.Core.Path.{◌≡◌, ap, ◌∙◌}
use mathlib.Core.List.{List, [], ◌∷◌, ◌++◌, append_assoc}
use Prim.Native.Nat.{ℕ}
use lib.ListN.{length}
use Rattle.console_text.specs.Lines.{gathered, decimal, hexadecimal, class_word, frame_text}
use Rattle.console_text.proofs.LineLaws.{gathered_then}
use Rattle.console.proofs.frame_lines.put_frame.Goals as goal

pieces : (a b c d e : List ℕ) → (((((a ++ b) ++ c) ++ d) ++ (32 ∷ [])) ++ e) ≡ a ++ (b ++ (c ++ (d ++ (32 ∷ e))))
pieces a b c d e = simp append_assoc

pub returns : goal.returns
unfolding frame_text
returns c =
    let a = c.args in
    let l = a.line.now in
    let t1 : List ℕ = decimal a.time in
    let t2 : List ℕ = 32 ∷ decimal a.channel in
    let t3 : List ℕ = 32 ∷ class_word a.class in
    let t4 : List ℕ = 32 ∷ decimal (length a.bytes.now) in
    let t6 : List ℕ = hexadecimal a.bytes.now in
    let e2 = c.put_number-2.ensures ∙ gathered_then l c.put_number.new.self t1 t2 c.put_number.ensures in
    let e3 = c.put_class.ensures ∙ gathered_then l c.put_number-2.new.self (t1 ++ t2) t3 e2 in
    let e4 = c.put_number-3.ensures ∙ gathered_then l c.put_class.new.line ((t1 ++ t2) ++ t3) t4 e3 in
    let e5 = c.put.ensures.line_after ∙ gathered_then l c.put_number-3.new.self (((t1 ++ t2) ++ t3) ++ t4) (32 ∷ []) e4 in
    let e6 = c.put_hex.ensures ∙ gathered_then l c.put.new.self ((((t1 ++ t2) ++ t3) ++ t4) ++ (32 ∷ [])) t6 e5 in
    e6 ∙ ap (gathered l) (pieces t1 t2 t3 t4 t6)
