-- Laws of the rows in a word area.
use mathlib.Core.Path.{◌≡◌, refl}
use mathlib.Core.List.{List, [], ◌∷◌, ◌++◌}
use mathlib.Core.Bool.{true, false}
use Prim.Native.Nat.{ℕ, ◌+◌, ◌≤◌, ◌<◌}
use native.Mathlib.Omega.{arith}
use lib.ListN.{length, get_or}
use borrow.Author.Tests.{lt-ltb, le-ltb}
use Rattle.rtp.specs.Sizes.{row_width}
pub use Rattle.read_rows.proofs.RowLaws.{rows_none, rows_more, length_rows}
use Rattle.read_rows.specs.Rows.{rows_in}
use Rattle.write_plan.specs.Lists.{outside}
use Rattle.write_plan.specs.Room.{words_at, row_as}

-- the next row of words, and the rows behind it
pub next_row : (x t : List ℕ) → length x ≡ row_width → rows_in (x ++ t) ≡ row_as (words_at x 0) ∷ rows_in t
unfolding rows_in
next_row [] t h = absurd (omega arith)
next_row (a ∷ []) t h = absurd (omega arith)
next_row (a ∷ b ∷ []) t h = absurd (omega arith)
next_row (a ∷ b ∷ c ∷ []) t h = absurd (omega arith)
next_row (a ∷ b ∷ c ∷ d ∷ []) t h = refl
next_row (a ∷ b ∷ c ∷ d ∷ e ∷ x) t h = absurd (omega arith)

-- some row is outside
module _ (n : ℕ) (ws : List ℕ) where
  pub outside_none : length ws < row_width → outside n (rows_in ws) ≡ false
  unfolding outside
  outside_none h = rw (rows_none ws h)

  module _ (x t : List ℕ) (e : ws ≡ x ++ t) (h : length x ≡ row_width) where
    pub outside_here : n < get_or x 2 0 + get_or x 3 0 → outside n (rows_in ws) ≡ true
    unfolding outside
    outside_here l = rw (e, next_row x t h, lt-ltb n (get_or x 2 0 + get_or x 3 0) l)

    pub outside_more : get_or x 2 0 + get_or x 3 0 ≤ n → outside n (rows_in ws) ≡ outside n (rows_in t)
    unfolding outside
    outside_more l = rw (e, next_row x t h, le-ltb n (get_or x 2 0 + get_or x 3 0) l)
