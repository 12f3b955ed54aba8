use Rattle.std.proofs.Common.{ℕ, ◌/◌, ◌%◌, List, [], ◌∷◌, take, get_or, take_all, sym, ap, ◌∙◌, add-one, arith}
use Rattle.io.specs.Digits.{hex_digit_ascii}
use Rattle.console_text.specs.Lines.{gathered, hexadecimal}
use Rattle.console_text.proofs.LineLaws.{gathered_then, hex_next, hex_none}
use Rattle.console_text.proofs.lines.Line.put_hex.Goals as goal

pub loop-byte-init : goal.loop-byte-init
loop-byte-init c =
    let a = c.args in
    let p = c.put in
    p.ensures.line_after ∙ sym (gathered_then a.self.now p.new.self [] [] p.ensures.line_after) ∙ ap (gathered p.new.self) (hex_none a.bytes.now)

pub loop-byte-preserved : goal.loop-byte-preserved
loop-byte-preserved c =
    let s = c.args.bytes.now in
    let v = c.loop-byte in
    let i = v.byte-index in
    let start = c.put.new.self in
    let pair : List ℕ = hex_digit_ascii (get_or s i 0 / 16) ∷ hex_digit_ascii (get_or s i 0 % 16) ∷ [] in
    let told = c.put-in-loop-byte.ensures.line_after
    ∙ ap (λ (g : ℕ). gathered v.self (g ∷ c.glyph-in-loop-byte.result ∷ [])) c.glyph.ensures
    ∙ ap (λ (g : ℕ). gathered v.self (hex_digit_ascii (get_or s i 0 / 16) ∷ g ∷ [])) c.glyph-in-loop-byte.ensures in
    told
    ∙ gathered_then start v.self (hexadecimal (take i s)) pair v.invariant
    ∙ ap (gathered start) (sym (hex_next s i (omega arith)) ∙ ap (λ (k : ℕ). hexadecimal (take k s)) (sym (add-one i)))

pub returns : goal.returns
returns c =
    let s = c.args.bytes.now in
    let v = c.loop-byte in
    let p = c.put in
    v.invariant
    ∙ ap (λ (t : List ℕ). gathered p.new.self (hexadecimal t)) (take_all v.byte-index s (omega arith))
    ∙ gathered_then c.args.self.now p.new.self [] (hexadecimal s) p.ensures.line_after
