-- Laws of lines, at a place of them: one more byte read, or none left.
use mathlib.Core.Path.{◌≡◌, refl, sym, ap, ◌∙◌}
use mathlib.Core.List.{List, [], ◌∷◌, ◌++◌, append_assoc, append-nil}
use mathlib.Core.Bool.{Bool, true, false, not, cond}
use Prim.Native.Nat.{ℕ, zero, suc, ◌+◌, ◌-◌, ◌≤◌, ◌<◌}
use native.Mathlib.Numerals.{add-one}
use native.Mathlib.Omega.{arith}
use lib.Dec.{leb, ltb, eqb}
use lib.ListN.{length, length-drop, get_or, set, take, drop, replicate, drop_of_length-le, length-replicate, length-set}
use lib.Seq.{drop-cons, drop-drop, get_or-drop, take-suc-set, set_split, drop-set-lt, take_all}
use borrow.Author.Tests.{ltb-false, le-leb, lt-leb, eq-eqb, ne_eqb}
use Rattle.std.specs.Prelude.{Some, None}
use Rattle.std.specs.List.{count_by, position, position_or_len}
use Rattle.std.proofs.lemmas.List.Recursion.{is_count_by}
use Rattle.examples_text.specs.Lines.{ended, spaces, after_spaces, starts_with, text}

-- a list from a place on, by the place's element
pub from_place : (l : List ℕ) (i : ℕ) → i < length l → drop i l ≡ get_or l i 0 ∷ drop (i + 1) l
from_place l i h = drop-cons l i 0 h ∙ ap (λ (k : ℕ). get_or l i 0 ∷ drop k l) (sym (add-one i))

-- a slice from a place on
pub slice_from : (l : List ℕ) (i : ℕ) → take (length l - i) (drop i l) ≡ drop i l
slice_from l i = take_all (length l - i) (drop i l) (omega (arith, length-drop i l))

-- ---- spaces

spaces_cons : (c : ℕ) (cs : List ℕ) → spaces (c ∷ cs) ≡ cond (eqb c 32) (1 + spaces cs) (spaces cs)
unfolding spaces
spaces_cons c cs =
    let more : suc (spaces cs) ≡ 1 + spaces cs = omega arith in
    ap (λ (n : ℕ). cond (eqb c 32) n (spaces cs)) more

spaces_none : spaces [] ≡ 0
unfolding spaces
spaces_none = refl

pub spaces_counted : (l : List ℕ) → spaces l ≡ count_by (λ c. eqb c 32) l
spaces_counted l = is_count_by spaces (λ c. eqb c 32) spaces_none spaces_cons l

-- ---- what follows a space

after_cons : (k c : ℕ) (cs : List ℕ) → after_spaces (suc k) (c ∷ cs) ≡ cond (eqb c 32) (after_spaces k cs) (after_spaces (suc k) cs)
unfolding after_spaces
after_cons k c cs = refl

after_none : (k : ℕ) → after_spaces k [] ≡ []
unfolding after_spaces
after_none zero = refl
after_none (suc k) = refl

pub after_zero_lem : (k : ℕ) (l : List ℕ) → k ≡ 0 → after_spaces k l ≡ l
unfolding after_spaces
after_zero_lem k l e = ap (λ (j : ℕ). after_spaces j l) e

pub after_space : (k : ℕ) (l : List ℕ) (i : ℕ) → 0 < k → i < length l → get_or l i 0 ≡ 32 → after_spaces k (drop i l) ≡ after_spaces (k - 1) (drop (i + 1) l)
after_space zero l i p h e = absurd (omega (arith, p))
after_space (suc k) l i p h e =
    let less : k ≡ suc k - 1 = omega arith in
    ap (after_spaces (suc k)) (from_place l i h)
    ∙ after_cons k (get_or l i 0) (drop (i + 1) l)
    ∙ rw (eq-eqb _ _ e) (ap (λ (j : ℕ). after_spaces j (drop (i + 1) l)) less)

pub after_other : (k : ℕ) (l : List ℕ) (i : ℕ) → 0 < k → i < length l → (get_or l i 0 ≡ 32 → ⊥) → after_spaces k (drop i l) ≡ after_spaces k (drop (i + 1) l)
after_other zero l i p h e = absurd (omega (arith, p))
after_other (suc k) l i p h e = ap (after_spaces (suc k)) (from_place l i h) ∙ after_cons k (get_or l i 0) (drop (i + 1) l) ∙ rw (ne_eqb _ _ e)

pub after_end : (k : ℕ) (l : List ℕ) → l ≡ [] → after_spaces k l ≡ []
after_end k l e = ap (after_spaces k) e ∙ after_none k

-- ---- the first word

starts_cons : (w : ℕ) (ws line : List ℕ) → starts_with (w ∷ ws) line ≡ cond (eqb (get_or line 0 0) w) (starts_with ws (drop 1 line)) false
unfolding starts_with
starts_cons w ws line = refl

starts_none : (line : List ℕ) → starts_with [] line ≡ leb (get_or line 0 0) 32
unfolding starts_with
starts_none line = refl

-- the first byte from a place on
first_from : (line : List ℕ) (i : ℕ) → get_or (drop i line) 0 0 ≡ get_or line i 0
first_from line i = get_or-drop i line 0 0 ∙ ap (λ (k : ℕ). get_or line k 0) (omega arith)

starts_at :
    (word line : List ℕ) (i : ℕ) → i < length word →
    starts_with (drop i word) (drop i line) ≡ cond (eqb (get_or line i 0) (get_or word i 0)) (starts_with (drop (i + 1) word) (drop (i + 1) line)) false
starts_at word line i h =
    ap (λ (x : List ℕ). starts_with x (drop i line)) (from_place word i h)
    ∙ starts_cons (get_or word i 0) (drop (i + 1) word) (drop i line)
    ∙ ap (λ (b : ℕ). cond (eqb b (get_or word i 0)) (starts_with (drop (i + 1) word) (drop 1 (drop i line))) false) (first_from line i)
    ∙ ap (λ (x : List ℕ). cond (eqb (get_or line i 0) (get_or word i 0)) (starts_with (drop (i + 1) word) x) false) (drop-drop 1 i line)

pub starts_next :
    (word line : List ℕ) (i : ℕ) → i < length word → get_or line i 0 ≡ get_or word i 0 →
    starts_with (drop i word) (drop i line) ≡ starts_with (drop (i + 1) word) (drop (i + 1) line)
starts_next word line i h e = starts_at word line i h ∙ rw (eq-eqb _ _ e)

pub starts_differs : (word line : List ℕ) (i : ℕ) → i < length word → (get_or line i 0 ≡ get_or word i 0 → ⊥) → starts_with (drop i word) (drop i line) ≡ false
starts_differs word line i h e = starts_at word line i h ∙ rw (ne_eqb _ _ e)

pub starts_end : (word line : List ℕ) (i : ℕ) → length word ≤ i → starts_with (drop i word) (drop i line) ≡ leb (get_or line i 0) 32
starts_end word line i h =
    ap (λ (x : List ℕ). starts_with x (drop i line)) (drop_of_length-le word {i = i} h)
    ∙ starts_none (drop i line)
    ∙ ap (λ (b : ℕ). leb b 32) (first_from line i)

-- ---- the bytes up to the end

text_step : (low : Bool) (n c : ℕ) (cs t : List ℕ) → take n cs ≡ t → take (cond (not low) (1 + n) 0) (c ∷ cs) ≡ cond low [] (c ∷ t)
text_step true n c cs t e = refl
text_step false n c cs t e =
    let more : 1 + n ≡ suc n = omega arith in
    ap (λ (k : ℕ). take k (c ∷ cs)) more ∙ ap (λ (x : List ℕ). c ∷ x) e

-- up to the first byte of at most 10
pub text_taken : (l : List ℕ) → take (position_or_len (λ c. leb c 10) l) l ≡ text l
unfolding text
text_taken [] = refl
text_taken (c ∷ cs) = text_step (leb c 10) (position_or_len (λ d. leb d 10) cs) c cs (text cs) (text_taken cs)

text_from : (found : Bool) (p n : ℕ) → Some n ≡ cond found (Some p) None → n ≡ p
text_from true p n e = cc
text_from false p n e = cc

not_found : (found : Bool) (p : ℕ) → None ≡ cond found (Some p) None → found ≡ false
not_found true p e = cc
not_found false p e = refl

pub text_found : (l : List ℕ) (n : ℕ) → Some n ≡ position (λ c. leb c 10) l → take n l ≡ text l
text_found l n e =
    let p : ℕ = position_or_len (λ c. leb c 10) l in
    ap (λ (k : ℕ). take k l) (text_from (ltb p (length l)) p n e) ∙ text_taken l

pub text_all : (l : List ℕ) → None ≡ position (λ c. leb c 10) l → l ≡ text l
text_all l e =
    let p : ℕ = position_or_len (λ c. leb c 10) l in
    let past : length l ≤ p = ltb-false p (length l) (not_found (ltb p (length l)) p e) in
    sym (take_all p l past) ∙ text_taken l

-- ---- a line while it is read

ended_cons : (c : ℕ) (cs : List ℕ) → ended (c ∷ cs) ≡ c ∷ cond (leb c 10) (replicate (length cs) 0) (ended cs)
unfolding ended
ended_cons c cs = refl

ended_none : ended [] ≡ []
unfolding ended
ended_none = refl

-- i bytes are read, all over 10, and the rest of a room is zeros
abbrev pub Reading : ℕ → List ℕ → ℕ → Type 0
Reading room l i =
    (length l ≡ room) × (i ≤ room) × ((t : List ℕ) → ended (take i l ++ t) ≡ take i l ++ ended t) × (drop i l ≡ replicate (room - i) 0)

zeros_after : (room : ℕ) (l : List ℕ) (i : ℕ) → i < room → drop i l ≡ replicate (room - i) 0 → drop (i + 1) l ≡ replicate (room - (i + 1)) 0
zeros_after room l i h e =
    let more : room - i ≡ suc (room - (i + 1)) = omega (arith, h) in
    sym (drop-drop 1 i l) ∙ ap (drop 1) (e ∙ ap (λ (k : ℕ). replicate k 0) more)

-- one more byte
pub reading_next : (room : ℕ) (l : List ℕ) (i b : ℕ) → Reading room l i → i < room → 10 < b → Reading room (set l i b) (i + 1)
reading_next room l i b r h over =
    let front : take (i + 1) (set l i b) ≡ take i l ++ (b ∷ []) = ap (λ (k : ℕ). take k (set l i b)) (add-one i) ∙ take-suc-set l i b (omega (arith, r.0, h)) in
    let goes_on : (t : List ℕ) → ended (b ∷ t) ≡ b ∷ ended t = λ t. ended_cons b t ∙ rw (lt-leb _ _ over) in (
      length-set l i b ∙ r.0,
      omega (arith, h),
      λ t.
          ap (λ (x : List ℕ). ended (x ++ t)) front
          ∙ ap ended (append_assoc (take i l) (b ∷ []) t)
          ∙ r.2 (b ∷ t)
          ∙ ap (λ (x : List ℕ). take i l ++ x) (goes_on t)
          ∙ sym (append_assoc (take i l) (b ∷ []) (ended t))
          ∙ ap (λ (x : List ℕ). x ++ ended t) (sym front),
      drop-set-lt (i + 1) l i b (omega arith) ∙ zeros_after room l i h r.3,
    )

-- the last byte
pub reading_last : (room : ℕ) (l : List ℕ) (i b : ℕ) → Reading room l i → i < room → b ≤ 10 → set l i b ≡ ended (set l i b)
reading_last room l i b r h low =
    let n = room - (i + 1) in
    let z : List ℕ = drop (i + 1) l in
    let zeros : z ≡ replicate n 0 = zeros_after room l i h r.3 in
    let as_many : length z ≡ n = ap length zeros ∙ length-replicate n 0 in
    let whole : set l i b ≡ take i l ++ (b ∷ z) =
    set_split l i b (omega (arith, r.0, h)) ∙ ap (λ (k : ℕ). take i l ++ (b ∷ drop k l)) (sym (add-one i)) in
    let stops : ended (b ∷ z) ≡ b ∷ z =
    ended_cons b z ∙ rw (le-leb _ _ low) (ap (λ (k : ℕ). b ∷ replicate k 0) as_many ∙ ap (λ (x : List ℕ). b ∷ x) (sym zeros)) in
    whole ∙ sym (ap ended whole ∙ r.2 (b ∷ z) ∙ ap (λ (x : List ℕ). take i l ++ x) stops)

-- no room left
pub reading_full : (room : ℕ) (l : List ℕ) (i : ℕ) → Reading room l i → room ≤ i → l ≡ ended l
reading_full room l i r h =
    let whole : take i l ++ [] ≡ l = append-nil (take i l) ∙ take_all i l (omega (arith, r.0, h)) in
    sym (sym (ap ended whole) ∙ r.2 [] ∙ ap (λ (x : List ℕ). take i l ++ x) ended_none ∙ whole)
