-- Laws of lines and of what is put into them.
use mathlib.Core.Path.{◌≡◌, refl, sym, ap, ◌∙◌, subst}
use mathlib.Core.Bool.{cond}
use mathlib.Core.List.{List, [], ◌∷◌, ◌++◌, append_assoc}
use Prim.Native.Nat.{ℕ, zero, suc, ◌+◌, ◌-◌, ◌/◌, ◌%◌, ◌^◌, ◌≤◌, ◌<◌, min}
use native.Mathlib.Omega.{arith, min_cases}
use native.Mathlib.Nat.{pow-zero, pow-succ'}
use native.Mathlib.Decide.{dec_lt}
use borrow.Author.Tests.{lt-ltb, le-ltb}
use lib.ListN.{length, take, get_or}
use lib.Seq.{take_all, take-take, take-append-add, take-suc, take-length, take_at}
use lib.Dec.{ltb}
use Rattle.io.specs.Digits.{last_digits, hex_digit_ascii, IsDigitCount}
use Rattle.console_text.specs.Lines.{line_size, gathered, places_up_to, decimal, hexadecimal, Continued}

-- ---- what a line holds

-- a front of n elements of two lists is that of the first's front and the second
take_front : (n : ℕ) (xs ys : List ℕ) → take n (take n xs ++ ys) ≡ take n (xs ++ ys)
take_front zero xs ys = refl
take_front (suc n) [] ys = refl
take_front (suc n) (x ∷ xs) ys = ap (λ (r : List ℕ). x ∷ r) (take_front n xs ys)

-- one text after another
pub gathered_more : (line a b : List ℕ) → gathered (gathered line a) b ≡ gathered line (a ++ b)
unfolding gathered
gathered_more line a b = take_front line_size (line ++ a) b ∙ ap (take line_size) (append_assoc line a b)

-- .. where the line after the first is told
pub gathered_then : (line after a b : List ℕ) → after ≡ gathered line a → gathered after b ≡ gathered line (a ++ b)
gathered_then line after a b e = ap (λ (l : List ℕ). gathered l b) e ∙ gathered_more line a b

take_min : (k : ℕ) (l : List ℕ) → take (min (length l) k) l ≡ take k l
take_min k l =
    min_cases (length l) k (take (min (length l) k) l ≡ take k l)
    (λ h e. ap (λ (j : ℕ). take j l) e ∙ take-length l ∙ sym (take_all k l h))
    (λ h e. ap (λ (j : ℕ). take j l) e)

-- as much of a text as there is room for, after what the line holds
pub gathered_put : (line text : List ℕ) (n : ℕ) → length line ≤ line_size → n ≡ min (length text) (line_size - length line) → line ++ take n text ≡ gathered line text
unfolding gathered
gathered_put line text n fits e =
    let room : length line + (line_size - length line) ≡ line_size = omega (arith, fits) in
    ap (λ (k : ℕ). line ++ take k text) e
    ∙ ap (λ (x : List ℕ). line ++ x) (take_min (line_size - length line) text)
    ∙ sym (take-append-add line text (line_size - length line))
    ∙ ap (λ (k : ℕ). take k (line ++ text)) room

-- what a line held stays in front
pub gathered_continued : (line text : List ℕ) → length line ≤ line_size → Continued line (gathered line text)
unfolding gathered
gathered_continued line text fits =
    take-take (length line) line_size (line ++ text) fits ∙ take_at line text (length line) refl

-- ---- decimal digits

pow_pos : (k : ℕ) → 0 < 10 ^ k
pow_pos zero = subst (λ (x : ℕ). 0 < x) (sym (pow-zero 10)) (omega arith)
pow_pos (suc k) = subst (λ (x : ℕ). 0 < x) (sym (pow-succ' 10 k)) (omega (arith, pow_pos k))

-- a number of suc k digits, and no fewer
places_suc : (f n k : ℕ) → n < 10 ^ f → n < 10 ^ suc k → (0 < k → 10 ^ k ≤ n) → suc k ≡ places_up_to f n
unfolding places_up_to
places_suc zero n zero most under over = refl
places_suc zero n (suc k) most under over = absurd (omega (arith, over (omega arith), pow_pos (suc k), most, pow-zero 10))
places_suc (suc f) n k most under over = from (dec_lt n 10) (λ j u o. places_suc f (n / 10) j (omega (arith, most, pow-succ' 10 f)) u o) k under over where
  from :
      Dec (n < 10) →
      ((j : ℕ) → n / 10 < 10 ^ suc j → (0 < j → 10 ^ j ≤ n / 10) → suc j ≡ places_up_to f (n / 10)) →
      (k : ℕ) → n < 10 ^ suc k → (0 < k → 10 ^ k ≤ n) → suc k ≡ cond (ltb n 10) 1 (suc (places_up_to f (n / 10)))
  from (yes h) again zero under over = rw (lt-ltb n 10 h)
  from (yes h) again (suc j) under over = absurd (omega (arith, over (omega arith), pow-succ' 10 j, pow_pos j, h))
  from (no h) again zero under over = absurd (h (omega (arith, under, pow-succ' 10 0, pow-zero 10)))
  from (no h) again (suc j) under over =
      rw (le-ltb n 10 (omega (arith, h)))
      (ap suc (again j (omega (arith, under, pow-succ' 10 (suc j))) (λ _. omega (arith, over (omega arith), pow-succ' 10 j))))

places_fewest : (n r : ℕ) → n < 10 ^ 20 → IsDigitCount 10 1 n r → r ≡ places_up_to 20 n
places_fewest n zero most few = absurd (omega (arith, few.0))
places_fewest n (suc k) most few =
    places_suc 20 n k most few.1 (λ h. subst (λ (m : ℕ). 10 ^ m ≤ n) (omega arith) (few.2 (omega (arith, h))))

-- the fewest digits that hold a number are its decimal text
pub decimal_fewest : (n r : ℕ) → n < 10 ^ 20 → IsDigitCount 10 1 n r → last_digits 10 r n ≡ decimal n
unfolding decimal
decimal_fewest n r most few = ap (λ (k : ℕ). last_digits 10 k n) (places_fewest n r most few)

-- ---- hexadecimal digits

hex_append : (s : List ℕ) (b : ℕ) → hexadecimal (s ++ (b ∷ [])) ≡ hexadecimal s ++ (hex_digit_ascii (b / 16) ∷ hex_digit_ascii (b % 16) ∷ [])
unfolding hexadecimal
hex_append [] b = refl
hex_append (x ∷ s) b = ap (λ (r : List ℕ). hex_digit_ascii (x / 16) ∷ hex_digit_ascii (x % 16) ∷ r) (hex_append s b)

-- one more byte
pub hex_next : (s : List ℕ) (i : ℕ) → i < length s → hexadecimal (take (suc i) s) ≡ hexadecimal (take i s) ++ (hex_digit_ascii (get_or s i 0 / 16) ∷ hex_digit_ascii (get_or s i 0 % 16) ∷ [])
hex_next s i h = ap hexadecimal (take-suc s i 0 h) ∙ hex_append (take i s) (get_or s i 0)

pub hex_none : (s : List ℕ) → [] ≡ hexadecimal (take 0 s)
unfolding hexadecimal
hex_none s = refl
