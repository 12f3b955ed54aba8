-- What the code's copies and loops make of a column.
use Prim.Native.Nat.{ℕ, zero, suc, ◌+◌, ◌-◌, ◌≤◌, ◌<◌}
use mathlib.Core.Path.{◌≡◌, refl, sym, ap, ap₂, ◌∙◌}
use mathlib.Core.List.{List, [], ◌∷◌, ◌++◌, map, append_assoc}
use mathlib.Core.Bool.{Bool, true, false, cond, ◌&&◌}
use native.Mathlib.Numerals.{add-one}
use native.Mathlib.Omega.{arith}
use borrow.Author.Tests.{eq-eqb, ne_eqb, eqb-true, eqb-false}
use lib.Dec.{ltb, eqb}
use lib.ListN.{length, get_or, take, drop, set, take-append-drop, drop_of_length-le, length-append, length-drop}
use lib.Seq.{paste, drop-cons, drop-drop, set_split, take-append-le, take-append_seam, drop-append_seam, drop-append-add}
use Rattle.std.specs.List.{list_all}
use Rattle.std.proofs.lemmas.List.{length-take-le}
use Rattle.rtp.proofs.TestLaws.{by-test}
use Rattle.buffer_copies.specs.Pairs.{half, ahead}
use Rattle.buffer_layout.specs.Columns.{insert_at, remove_first, zeros, within_from}
use lib.Bits.{bit_or, or_add_and, and_le_l, and_le_r}

-- Insertion: v and k - 1 of what follows are still to be stored from place i on, before the rest from place m on

abbrev pub inserting : List ℕ → ℕ → ℕ → ℕ → ℕ → List ℕ
inserting xs m k i v = take i xs ++ (take k (v ∷ drop i xs) ++ drop m xs)

pub insert_start : (xs : List ℕ) (n i v : ℕ) → i ≤ n → inserting xs (n + 1) (n + 1 - i) i v ≡ insert_at xs n i v
unfolding insert_at
insert_start xs n i v h =
    let e : n + 1 - i ≡ suc (n - i) = omega arith in
    rw e (sym (append_assoc (take i xs) (v ∷ take (n - i) (drop i xs)) (drop (n + 1) xs)))

-- Insertion in the code: those from a place on are copied up by one, and the value is laid before them

pub insert_moved : (xs : List ℕ) (n i v : ℕ) → i ≤ n → n < length xs → set (paste xs (i + 1) (drop i xs) (n - i)) i v ≡ insert_at xs n i v
unfolding insert_at
insert_moved xs n i v h l =
    let p : List ℕ = take (i + 1) xs in
    let q : List ℕ = take (n - i) (drop i xs) ++ drop (i + 1 + (n - i)) xs in
    let long : length p ≡ i + 1 = length-take-le (i + 1) xs (omega arith) in
    let front : take i (p ++ q) ≡ take i xs =
    take-append-le i p q (omega arith) ∙ sym (take-append-le i p (drop (i + 1) xs) (omega arith)) ∙ ap (take i) (take-append-drop (i + 1) xs) in
    let back : drop (suc i) (p ++ q) ≡ q = ap (λ (m : ℕ). drop m (p ++ q)) (let e : suc i ≡ length p = omega arith in e) ∙ drop-append_seam p q in
    let past : i + 1 + (n - i) ≡ n + 1 = omega arith in
    ap (λ (ys : List ℕ). set ys i v) (append_assoc p (take (n - i) (drop i xs)) (drop (i + 1 + (n - i)) xs))
    ∙ set_split (p ++ q) i v (omega (arith, length-append p q))
    ∙ ap₂ (λ (a b : List ℕ). a ++ (v ∷ b)) front back
    ∙ ap (λ (m : ℕ). take i xs ++ (v ∷ (take (n - i) (drop i xs) ++ drop m xs))) past
    ∙ sym (append_assoc (take i xs) (v ∷ take (n - i) (drop i xs)) (drop (n + 1) xs))

-- Removal: those after the first are copied down by one, and a zero is laid after them

pub remove_moved : (xs : List ℕ) (n : ℕ) → 1 ≤ n → n ≤ length xs → set (paste xs 0 (drop 1 xs) (n - 1)) (n - 1) 0 ≡ remove_first xs n
unfolding remove_first
remove_moved xs n h l =
    let p : List ℕ = take (n - 1) (drop 1 xs) in
    let q : List ℕ = drop (n - 1) xs in
    let long : length p ≡ n - 1 = length-take-le (n - 1) (drop 1 xs) (simp length-drop (omega arith)) in
    let front : take (n - 1) (p ++ q) ≡ p = ap (λ (m : ℕ). take m (p ++ q)) (sym long) ∙ take-append_seam p q in
    let back : drop (suc (n - 1)) (p ++ q) ≡ drop n xs =
    ap (λ (m : ℕ). drop m (p ++ q)) (let e : suc (n - 1) ≡ length p + 1 = omega arith in e) ∙ drop-append-add p q 1 ∙ drop-drop 1 (n - 1) xs
    ∙ ap (λ (m : ℕ). drop m xs) (let e : n - 1 + 1 ≡ n = omega arith in e) in
    ap (λ (m : ℕ). set (p ++ drop m xs) (n - 1) 0) (let e : 0 + (n - 1) ≡ n - 1 = omega arith in e) ∙ set_split (p ++ q) (n - 1) 0 (omega (arith, length-append p q, length-drop (n - 1) xs)) ∙ ap₂ (λ (a b : List ℕ). a ++ (0 ∷ b)) front back

-- Times within a stretch: the test of each in turn is that of all

pub within_all : (times : List ℕ) (t k i : ℕ) → i + k ≤ length times → within_from times t k i ≡ list_all (λ x. ltb (ahead x t) half) (take k (drop i times))
unfolding within_from
within_all times t zero i h = refl
within_all times t (suc k) i h =
    rw (drop-cons times i 0 (omega arith)) (go (ltb (ahead (get_or times i 0) t) half) _ _ (within_all times t k (i + 1) (omega arith) ∙ ap (λ (m : ℕ). list_all (λ x. ltb (ahead x t) half) (take k (drop m times))) (add-one i)))
  where
    go : (b x y : Bool) → x ≡ y → cond b x false ≡ b && y
    go true x y e = e
    go false x y e = refl

-- A sum of values is 0 where all are

pub zeros_end : (xs : List ℕ) (i any : ℕ) → length xs ≤ i → cond (eqb any 0) (zeros (drop i xs)) false ≡ eqb any 0
unfolding zeros
zeros_end xs i any h = rw (drop_of_length-le xs {i = i} h) (by-test (eqb any 0) (λ e. rw e) (λ e. rw e))

pub zeros_more : (xs : List ℕ) (i any : ℕ) → i < length xs
    → cond (eqb (bit_or any (get_or xs i 0)) 0) (zeros (drop (i + 1) xs)) false ≡ cond (eqb any 0) (zeros (drop i xs)) false
unfolding zeros
zeros_more xs i any h = rw (drop-cons xs i 0 h, add-one i) (go (get_or xs i 0) (zeros (drop (suc i) xs)))
  where
    go : (x : ℕ) (z : Bool) → cond (eqb (bit_or any x) 0) z false ≡ cond (eqb any 0) (cond (eqb x 0) z false) false
    go x z =
        by-test (eqb any 0)
        (λ e. by-test (eqb x 0)
        (λ f. let q = eqb-true any 0 e in let r = eqb-true x 0 f in rw (e, f, eq-eqb (bit_or any x) 0 (omega (arith, or_add_and any x))))
        (λ f. let r = eqb-false x 0 f in rw (e, f, ne_eqb (bit_or any x) 0 (omega (arith, or_add_and any x, and_le_l any x)))))
        (λ e. let q = eqb-false any 0 e in rw (e, ne_eqb (bit_or any x) 0 (omega (arith, or_add_and any x, and_le_r any x))))

-- a value at a place of a list, those from there on after it
unfoldable pub inserted : {A : Type 0} → ℕ → A → List A → List A
inserted zero v xs = v ∷ xs
inserted (suc i) v [] = v ∷ []
inserted (suc i) v (x ∷ xs) = x ∷ inserted i v xs

pub inserted_length : {A : Type 0} (i : ℕ) (v : A) (xs : List A) → length (inserted i v xs) ≡ suc (length xs)
unfolding inserted
inserted_length zero v xs = refl
inserted_length (suc i) v [] = refl
inserted_length (suc i) v (x ∷ xs) = ap suc (inserted_length i v xs)

pub map_inserted : {A B : Type 0} (f : A → B) (i : ℕ) (v : A) (xs : List A) → map f (inserted i v xs) ≡ inserted i (f v) (map f xs)
unfolding inserted
map_inserted f zero v xs = refl
map_inserted f (suc i) v [] = refl
map_inserted {B = B} f (suc i) v (x ∷ xs) = ap (λ (l : List B). f x ∷ l) (map_inserted f i v xs)
