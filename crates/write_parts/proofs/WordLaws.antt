-- Laws of the lists of a packet as words, one after another.
use mathlib.Core.Path.{◌≡◌, refl, ap, sym, ◌∙◌}
use mathlib.Core.List.{List, [], ◌∷◌}
use mathlib.Core.Bool.{false}
use Prim.Native.Nat.{ℕ, zero, suc, ◌+◌, ◌*◌, ◌%◌, ◌≤◌, ◌<◌}
use native.Mathlib.Omega.{arith}
use lib.ListN.{length, get_or, take, drop, length-drop, drop_of_length-le}
use lib.Seq.{take_all, length-take-le}
use lib.Dec.{ltb}
use borrow.Author.Tests.{lt-ltb, le-ltb, ltb-true}
use Rattle.rtp.specs.Sizes.{row_width}
use Rattle.rtp.proofs.TestLaws.{by-test, neither}
use Rattle.read_rows.specs.Rows.{Row, row_of, rows_in}
use Rattle.write_plan.specs.Lists.{outside}
pub use Rattle.write_plan.proofs.BlockLaws.{rows_drop}
use Rattle.write_parts.specs.Parts.{total}
use Rattle.write_parts.specs.ListSizes.{Counted, first_words}

-- Rows of the first words, and of the others

more_rows : (n : ℕ) → ((ws : List ℕ) → rows_in (take (row_width * n) ws) ≡ take n (rows_in ws)) → (ws : List ℕ)
    → rows_in (take (suc (suc (suc (suc (row_width * n))))) ws) ≡ take (suc n) (rows_in ws)
unfolding rows_in
more_rows n ih [] = refl
more_rows n ih (a ∷ []) = refl
more_rows n ih (a ∷ b ∷ []) = refl
more_rows n ih (a ∷ b ∷ c ∷ []) = refl
more_rows n ih (a ∷ b ∷ c ∷ d ∷ ws) = ap (λ (l : List Row). row_of a b c d ∷ l) (ih ws)

pub rows_take : (n : ℕ) (ws : List ℕ) → rows_in (take (row_width * n) ws) ≡ take n (rows_in ws)
rows_take zero ws = unfold rows_in in refl
rows_take (suc n) ws =
    let e : row_width * suc n ≡ suc (suc (suc (suc (row_width * n)))) = omega arith in
    ap (λ (k : ℕ). rows_in (take k ws)) e ∙ more_rows n (λ l. rows_take n l) ws

-- Rows inside their bytes, some of a list

pub outside_take : (m n : ℕ) (rs : List Row) → outside m rs ≡ false → outside m (take n rs) ≡ false
unfolding outside
outside_take m zero rs h = refl
outside_take m (suc n) [] h = refl
outside_take m (suc n) (r ∷ rs) h =
    let i = neither (ltb m (r.start + r.length)) (outside m rs) h in
    rw i.0 (outside_take m n rs i.1)

pub outside_drop : (m n : ℕ) (rs : List Row) → outside m rs ≡ false → outside m (drop n rs) ≡ false
unfolding outside
outside_drop m zero rs h = h
outside_drop m (suc n) [] h = refl
outside_drop m (suc n) (r ∷ rs) h = outside_drop m n rs (neither (ltb m (r.start + r.length)) (outside m rs) h).1

-- The counts and their words

pub total_first : (counts : List ℕ) → 0 < length counts → total counts ≡ get_or counts 0 0 + total (drop 1 counts)
unfolding total
total_first [] h = absurd (omega arith)
total_first (n ∷ ns) h = refl

module _ (counts ws : List ℕ) (some : 0 < length counts) (counted : Counted counts ws) where
  pub first_fits : row_width * get_or counts 0 0 ≤ length ws
  first_fits = omega (arith, total_first counts some)

  pub counted_rest : (n : ℕ) → n ≡ row_width * get_or counts 0 0 → Counted (drop 1 counts) (drop n ws)
  counted_rest n e = let d = length-drop n ws in omega (arith, total_first counts some)

-- The words of the first list

pub words_none : (counts ws : List ℕ) → length counts ≡ 0 → first_words counts ws ≡ 0
unfolding first_words
words_none [] ws h = rw (le-ltb (length ws) 0 (omega arith))
words_none (n ∷ ns) ws h = absurd (omega arith)

module _ (counts ws : List ℕ) where
  pub words_all : length ws < row_width * get_or counts 0 0 → first_words counts ws ≡ length ws
  unfolding first_words
  words_all h = rw (lt-ltb (length ws) (row_width * get_or counts 0 0) h)

  pub words_first : row_width * get_or counts 0 0 ≤ length ws → first_words counts ws ≡ row_width * get_or counts 0 0
  unfolding first_words
  words_first h = rw (le-ltb (length ws) (row_width * get_or counts 0 0) h)

  pub words_counted : 0 < length counts → Counted counts ws → first_words counts ws ≡ row_width * get_or counts 0 0
  words_counted some counted = words_first (first_fits counts ws some counted)

  -- they are cut off as their number says
  pub take_words : take (first_words counts ws) ws ≡ take (row_width * get_or counts 0 0) ws
  unfolding first_words
  take_words =
      by-test (ltb (length ws) (row_width * get_or counts 0 0))
      (λ a. rw a (take_all (length ws) ws (omega arith) ∙ sym (take_all (row_width * get_or counts 0 0) ws (omega (arith, ltb-true (length ws) (row_width * get_or counts 0 0) a)))))
      (λ a. rw a)

  pub drop_words : drop (first_words counts ws) ws ≡ drop (row_width * get_or counts 0 0) ws
  unfolding first_words
  drop_words =
      by-test (ltb (length ws) (row_width * get_or counts 0 0))
      (λ a. rw a (drop_of_length-le ws {i = length ws} (omega arith) ∙ sym (drop_of_length-le ws {i = row_width * get_or counts 0 0} (omega (arith, ltb-true (length ws) (row_width * get_or counts 0 0) a)))))
      (λ a. rw a)

pub inside_first : (m n k : ℕ) (ws : List ℕ) → n ≡ row_width * k → outside m (rows_in ws) ≡ false → outside m (rows_in (take n ws)) ≡ false
inside_first m n k ws e h = ap (λ (i : ℕ). outside m (rows_in (take i ws))) e ∙ ap (outside m) (rows_take k ws) ∙ outside_take m k (rows_in ws) h

pub inside_rest : (m n k : ℕ) (ws : List ℕ) → n ≡ row_width * k → outside m (rows_in ws) ≡ false → outside m (rows_in (drop n ws)) ≡ false
inside_rest m n k ws e h = ap (λ (i : ℕ). outside m (rows_in (drop i ws))) e ∙ ap (outside m) (rows_drop k ws) ∙ outside_drop m k (rows_in ws) h

pub whole_first : (n k : ℕ) (ws : List ℕ) → n ≡ row_width * k → n ≤ length ws → length (take n ws) % row_width ≡ 0
whole_first n k ws e h = let l = length-take-le n ws h in omega arith
