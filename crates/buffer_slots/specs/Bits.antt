-- Document 01, "Occupied slots are three 64-bit words": bits of words, lowest first.
use Rattle.std.specs.Prelude.{ℕ, zero, suc, ◌+◌, ◌-◌, ◌/◌, ◌%◌, ◌^◌, ◌≤◌, ◌<◌, ◌≡◌, List, [], ◌∷◌, Bool, false, cond, get_or, set, ltb, leb, eqb}
use Rattle.std.specs.Int.Count.{ones}
use Rattle.buffer_copies.specs.Sizes.{slots}

-- the bit of n at place j: 0 or 1
unfoldable pub bit_at : ℕ → ℕ → ℕ
bit_at zero n = n % 2
bit_at (suc j) n = bit_at j (n / 2)

-- the mark of slot s: bit s % 64 of word s / 64
abbrev pub mark_of : List ℕ → ℕ → ℕ
mark_of ws s = bit_at (s % 64) (get_or ws (s / 64) 0)

-- r is the lowest place of a word of k bits whose bit is 0, or k if there is none
pub record LowestZero (k w r : ℕ) : Type 0 where
  pub within : r ≤ k
  pub free : r < k → bit_at r w ≡ 0
  pub below : (j : ℕ) → j < r → bit_at j w ≡ 1

-- the number held: the count of ones of the three words
abbrev pub held_in : List ℕ → ℕ
held_in ws = ones (get_or ws 0 0) + ones (get_or ws 1 0) + ones (get_or ws 2 0)

-- what slot s adds to word k, and the words that mark a list of slots
unfoldable pub weight : ℕ → ℕ → ℕ
weight k s = cond (eqb (s / 64) k) (2 ^ (s % 64)) 0

unfoldable pub word_at : ℕ → List ℕ → ℕ
word_at k [] = 0
word_at k (s ∷ ss) = weight k s + word_at k ss

abbrev pub words_of : List ℕ → List ℕ
words_of ss = word_at 0 ss ∷ word_at 1 ss ∷ word_at 2 ss ∷ []

-- the words with slot s marked, where it was not; and with its mark taken away
abbrev pub marked : List ℕ → ℕ → List ℕ
marked ws s = set ws (s / 64) (get_or ws (s / 64) 0 + 2 ^ (s % 64))

abbrev pub unmarked : List ℕ → ℕ → List ℕ
unmarked ws s = set ws (s / 64) (get_or ws (s / 64) 0 - 2 ^ (s % 64))

-- the lowest slot that is not marked, of the k from s on
unfoldable pub lowest_from : List ℕ → ℕ → ℕ → ℕ
lowest_from ws zero s = s
lowest_from ws (suc k) s = cond (eqb (mark_of ws s) 0) s (lowest_from ws k (s + 1))

abbrev pub lowest_free : List ℕ → ℕ
lowest_free ws = lowest_from ws slots 0

-- a slot is one of the 192 and not marked
abbrev pub is_free : List ℕ → ℕ → Bool
is_free ws s = cond (ltb s slots) (eqb (mark_of ws s) 0) false

-- the words with slot s marked, if it is free
abbrev pub claimed : List ℕ → ℕ → List ℕ
claimed ws s = cond (is_free ws s) (marked ws s) ws

-- the words without the mark of slot s, if it is one of the 192 and its word is no less than the mark
abbrev pub released : List ℕ → ℕ → List ℕ
released ws s = cond (ltb s slots) (cond (leb (2 ^ (s % 64)) (get_or ws (s / 64) 0)) (unmarked ws s) ws) ws

abbrev pub same_words : List ℕ → List ℕ → Bool
same_words v w = cond (eqb (get_or v 0 0) (get_or w 0 0)) (cond (eqb (get_or v 1 0) (get_or w 1 0)) (eqb (get_or v 2 0) (get_or w 2 0)) false) false
