use mathlib.Core.Path.{◌≡◌, sym, ◌∙◌}
use mathlib.Core.Bool.{true, false}
use borrow.Author.Tests.{le-leb, lt-leb}
use Rattle.frame_codes.proofs.CodeLaws.{is_length, sound_code, length_is, sound_code_lem}
use Rattle.frame_codes.proofs.coding.length_code.Goals as goal

pub returns-then-n-le220 : goal.returns-then-n-le220
unfolding sound_code
returns-then-n-le220 c =
    let n = c.args.n in
    let q : is_length n ≡ true = length_is n ∙ sym c.is_length.ensures ∙ c.if-not-is_length.false in
    (rw (q, le-leb n 220 c.if-n-le220.true)) ∙ sound_code_lem n

pub returns-else-n-le220 : goal.returns-else-n-le220
unfolding sound_code
returns-else-n-le220 c =
    let n = c.args.n in
    let q : is_length n ≡ true = length_is n ∙ sym c.is_length.ensures ∙ c.if-not-is_length.false in
    (rw (q, lt-leb n 220 c.if-n-le220.false)) ∙ sound_code_lem n

pub returns-then-not-is_length : goal.returns-then-not-is_length
returns-then-not-is_length c =
    let n = c.args.n in
    let q : is_length n ≡ false = length_is n ∙ sym c.is_length.ensures ∙ c.if-not-is_length.true in
    (rw q) ∙ sound_code_lem n
