-- Document 02, P6: which rows were heard first-hand, and the words of rows but for that mark.
use Rattle.std.specs.Prelude.{ℕ, ◌-◌, ◌*◌, ◌%◌, ◌^◌, ◌≤◌, ◌≡◌, List, [], ◌∷◌, ◌++◌, length, take, drop}
use Rattle.rtp.specs.Sizes.{row_width}
use Rattle.row_tags.specs.Tags.{primary_mark, redundant_mark, tag_mark}
use Rattle.read_rows.specs.Rows.{Row}

-- every row has this mark
abbrev pub AllMarked : ℕ → List Row → Type 0
AllMarked mark [] = Unit {0}
AllMarked mark (r ∷ rs) = (r.primary ≡ mark) × AllMarked mark rs

-- the rows of one or more lists of so many rows each, one after another: those of the last, the primary block's, have the mark, and those of the lists
-- before it, the redundant blocks', have not
abbrev pub PrimaryLast : List ℕ → List Row → Type 0
PrimaryLast [] rs = ⊥
PrimaryLast (n ∷ []) rs = AllMarked primary_mark rs
PrimaryLast (n ∷ m ∷ ns) rs = AllMarked redundant_mark (take n rs) × PrimaryLast (m ∷ ns) (drop n rs)

-- a row's second word with bit 16 cleared
abbrev pub cleared_tag : ℕ → ℕ
cleared_tag tag = tag - 65536 * tag_mark tag

-- the words of rows with bit 16 of each second word cleared
unfoldable pub cleared : List ℕ → List ℕ
cleared [] = []
cleared (a ∷ []) = a ∷ []
cleared (a ∷ b ∷ []) = a ∷ b ∷ []
cleared (a ∷ b ∷ c ∷ []) = a ∷ b ∷ c ∷ []
cleared (a ∷ b ∷ c ∷ d ∷ ws) = a ∷ cleared_tag b ∷ c ∷ d ∷ cleared ws

-- some row's second word has a bit above bit 16
pub record BitAbove (ws : List ℕ) : Type 0 where
  pub before : List ℕ
  pub time : ℕ
  pub tag : ℕ
  pub start : ℕ
  pub size : ℕ
  pub after : List ℕ
  pub is : ws ≡ before ++ time ∷ tag ∷ start ∷ size ∷ after
  pub rows : length before % row_width ≡ 0
  pub above : 2 ^ 17 ≤ tag
