-- The place of a pair among the entries of a buffer: where it is held, or where it belongs.
use Prim.Native.Nat.{Ordering}
use Rattle.std.specs.declared.cmp.Ordering.{Ordering as Side}
use Rattle.std.specs.declared.cmp.Ordering.TheVariants.{Less, Equal, Greater}
use Rattle.std.specs.Prelude.{ℕ, zero, suc, ◌+◌, ◌-◌, ◌/◌, ◌<◌, ◌≡◌, List, cond, ltb, get_or, Err, Ok, Result}
use Rattle.row_tags.specs.Tags.{tag_channel}
use Rattle.buffer_copies.specs.Pairs.{order, side_of}
use Rattle.buffer_columns.specs.declared.columns.Search.{Search}

-- where the pair (t, c) is held or belongs among k entries from the i-th on: at the first that is not before it
abbrev pub place_at : Side → ℕ → Result ℕ ℕ → Result ℕ ℕ
place_at Less i r = Err i
place_at Equal i r = Ok i
place_at Greater i r = r

unfoldable pub place_from : List ℕ → List ℕ → ℕ → ℕ → ℕ → ℕ → Result ℕ ℕ
place_from times tags t c zero i = Err i
place_from times tags t c (suc k) i = place_at (side_of (order t c (get_or times i 0) (tag_channel (get_or tags i 0)))) i (place_from times tags t c k (i + 1))

-- the pair (t, c) parts the first n entries: where it is not before one, it is after all in front of that one; so a search that halves finds the same place
abbrev pub Parted : List ℕ → List ℕ → ℕ → ℕ → ℕ → Type 0
Parted times tags t c n =
    (i j : ℕ) → i < j → j < n → (order t c (get_or times j 0) (tag_channel (get_or tags j 0)) ≡ Ordering.lt → ⊥) → order t c (get_or times i 0) (tag_channel (get_or tags i 0)) ≡ Ordering.gt

-- Document 02, P4: the search halves the range, and counts the entries that it compares with the pair

-- the entry in the middle of those from low on, under high
abbrev pub middle : ℕ → ℕ → ℕ
middle low high = low + (high - low) / 2

-- where the pair lies from the entry at i, the k-th compared: there, or in one of the halves on either side
abbrev pub half_at : Side → ℕ → ℕ → Search → Search → Search
half_at Less i k lower upper = lower
half_at Equal i k lower upper = record { place = Ok i; compared = k }
half_at Greater i k lower upper = upper

-- the search among the entries from low on, under high, with k compared before; no more turns are taken than fuel has
unfoldable pub halve : List ℕ → List ℕ → ℕ → ℕ → ℕ → ℕ → ℕ → ℕ → Search
halve times tags t c zero low high k = record { place = Err low; compared = k }
halve times tags t c (suc fuel) low high k =
    cond (ltb low high)
    (half_at (side_of (order t c (get_or times (middle low high) 0) (tag_channel (get_or tags (middle low high) 0)))) (middle low high) (k + 1)
    (halve times tags t c fuel low (middle low high) (k + 1)) (halve times tags t c fuel (middle low high + 1) high (k + 1)))
    (record { place = Err low; compared = k })

-- the search among the first n entries; each turn leaves fewer, so n turns are enough
abbrev pub halving : List ℕ → List ℕ → ℕ → ℕ → ℕ → Search
halving times tags t c n = halve times tags t c n 0 n 0

-- A place in numbers: 1 where the pair is held and 0 where it belongs, and the place
pub record PlaceNumbers : Type 0 where
  pub held : ℕ
  pub at : ℕ

abbrev pub place_numbers : Result ℕ ℕ → PlaceNumbers
place_numbers (Ok i) = record { held = 1; at = i }
place_numbers (Err i) = record { held = 0; at = i }

-- The answer in numbers: the place, and how many entries were compared
pub record SearchNumbers : Type 0 where
  pub place : PlaceNumbers
  pub compared : ℕ

abbrev pub search_numbers : Search → SearchNumbers
search_numbers s = record { place = place_numbers s.place; compared = s.compared }

-- the most entries compared: a full buffer has under 2 ^ 8 entries, and each comparison halves the range
abbrev pub most_compared : ℕ
most_compared = 8
