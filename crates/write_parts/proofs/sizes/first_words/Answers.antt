use mathlib.Core.Path.{sym, ◌∙◌}
use Prim.Native.Nat.{◌*◌}
use lib.ListN.{length, get_or}
use lib.Dec.{ltb}
use borrow.Author.Tests.{ltb-true, ltb-false}
use Rattle.std.proofs.Math.Nat.{min-eq_left, min-eq_right, min-le_right}
use Rattle.rtp.specs.Sizes.{row_width}
use Rattle.rtp.proofs.TestLaws.{by-test}
use native.Mathlib.Omega.{arith}
use Rattle.write_parts.proofs.WordLaws.{words_none, words_all, words_first}
use Rattle.write_parts.proofs.sizes.first_words.Goals as goal

pub returns-then-counts-eq0 : goal.returns-then-counts-eq0
returns-then-counts-eq0 c =
    (sym (words_none _ _ c.if-counts-eq0.true), omega arith)

pub overflow_cast-words : goal.overflow_cast-words
overflow_cast-words c =
    omega (arith, (c.shared_slice_known-1.given 0).fits)

pub overflow_mul-words : goal.overflow_mul-words
overflow_mul-words c =
    omega (arith, (c.shared_slice_known-1.given 0).fits)

pub returns : goal.returns
returns c =
    let ws = c.args.rows.now in
    let n = row_width * get_or c.args.counts.now 0 0 in (
      by-test (ltb (length ws) n)
          (λ a. let h = ltb-true (length ws) n a in c.min.ensures ∙ min-eq_right (omega (arith, h)) ∙ sym (words_all _ _ h))
          (λ a. let h = ltb-false (length ws) n a in c.min.ensures ∙ min-eq_left h ∙ sym (words_first _ _ h)),
      rw c.min.ensures (min-le_right _ _),
    )
