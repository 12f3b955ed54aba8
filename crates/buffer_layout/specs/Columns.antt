-- Columns of a buffer: lists of fixed length with n places in use.
use Rattle.std.specs.Prelude.{ℕ, zero, suc, ◌+◌, ◌-◌, List, [], ◌∷◌, ◌++◌, Bool, true, false, cond, get_or, take, drop, ltb, eqb}
use Rattle.buffer_copies.specs.Pairs.{half, ahead}

-- v at place i of a column with n in use; those from i on move up by one, over the first unused place
unfoldable pub insert_at : List ℕ → ℕ → ℕ → ℕ → List ℕ
insert_at xs n i v = take i xs ++ (v ∷ take (n - i) (drop i xs)) ++ drop (n + 1) xs

-- the first of n in use goes; the others move down by one, and a zero comes in
unfoldable pub remove_first : List ℕ → ℕ → List ℕ
remove_first xs n = take (n - 1) (drop 1 xs) ++ (0 ∷ drop n xs)

-- all zero
unfoldable pub zeros : List ℕ → Bool
zeros [] = true
zeros (x ∷ xs) = cond (eqb x 0) (zeros xs) false

-- `all_within` and `fits` of k entries from the i-th on, and of the first n
unfoldable pub within_from : List ℕ → ℕ → ℕ → ℕ → Bool
within_from times t zero i = true
within_from times t (suc k) i = cond (ltb (ahead (get_or times i 0) t) half) (within_from times t k (i + 1)) false

unfoldable pub fits_from : List ℕ → ℕ → ℕ → Bool
fits_from times t n = cond (eqb n 0) true (cond (ltb (ahead t (get_or times 0 0)) half) true (within_from times t n 0))
