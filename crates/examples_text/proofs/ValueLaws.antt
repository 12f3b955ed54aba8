-- Laws of the values of words and of laying them.
use mathlib.Core.Path.{◌≡◌, refl, sym, ap, subst, ◌∙◌}
use mathlib.Core.List.{List, [], ◌∷◌, ◌++◌}
use mathlib.Core.Bool.{Bool, true, false, cond}
use Prim.Native.Nat.{ℕ, zero, suc, ◌+◌, ◌-◌, ◌*◌, ◌≤◌, ◌<◌, min}
use native.Mathlib.Numerals.{add-one}
use native.Mathlib.Omega.{arith}
use lib.Dec.{ltb, leb, eqb}
use lib.ListN.{length, get_or, set, take, drop, drop_of_length-le}
use lib.Seq.{sets, take-nil}
use borrow.Author.Tests.{lt-ltb, le-ltb, le-leb, lt-leb, eq-eqb, ne_eqb}
use Rattle.std.proofs.lemmas.List.{nil_from_length}
use Rattle.std.specs.Prelude.{Option, Some, None}
use Rattle.std.specs.Option.{unwrap_or, UnwrapsOrElse}
use Rattle.std.specs.Char.{digit_value}
use Rattle.std.proofs.lemmas.Bool.Decides.{nat_tests}
use Rattle.examples_text.specs.Values.{digit, with_digits, numbers_of, pair_of, bytes_of, fitting}
use Rattle.examples_text.proofs.LineLaws.{from_place}

same_cond : (b : Bool) (n : ℕ) → cond b n n ≡ n
same_cond true n = refl
same_cond false n = refl

-- ---- decimal numbers

with_cons :
    (v c : ℕ) (cs : List ℕ) →
    with_digits v (c ∷ cs)
    ≡ cond (leb c 32) v (cond (ltb 9 (digit c)) 0 (cond (ltb 4294967295 (10 * v + digit c)) 0 (with_digits (10 * v + digit c) cs)))
unfolding with_digits
with_cons v c cs = refl

with_none : (v : ℕ) → with_digits v [] ≡ v
unfolding with_digits
with_none v = refl

with_at :
    (v : ℕ) (l : List ℕ) (i : ℕ) → i < length l →
    let c = get_or l i 0 in
    with_digits v (drop i l)
    ≡ cond (leb c 32) v (cond (ltb 9 (digit c)) 0 (cond (ltb 4294967295 (10 * v + digit c)) 0 (with_digits (10 * v + digit c) (drop (i + 1) l))))
with_at v l i h = ap (with_digits v) (from_place l i h) ∙ with_cons v (get_or l i 0) (drop (i + 1) l)

pub with_end : (v : ℕ) (l : List ℕ) (i : ℕ) → length l ≤ i → with_digits v (drop i l) ≡ v
with_end v l i h = ap (with_digits v) (drop_of_length-le l {i = i} h) ∙ with_none v

-- the word's end
pub with_stop : (v : ℕ) (l : List ℕ) (i : ℕ) → get_or l i 0 ≤ 32 → with_digits v (drop i l) ≡ v
with_stop v [] i e = with_end v [] i (omega arith)
with_stop v (c ∷ l) zero e = with_cons v c l ∙ rw (le-leb _ _ e)
with_stop v (c ∷ l) (suc i) e = with_stop v l i e

-- a decimal digit is what the library takes for one
digit_ten : (c : ℕ) → digit_value c < 10 → digit c ≡ digit_value c
unfolding digit
digit_ten c = grind (arith, nat_tests)

digit_above : (c : ℕ) → (digit_value c < 10 → ⊥) → 9 < digit c
unfolding digit
digit_above c = grind (arith, nat_tests)

-- no digit
pub with_other : (v : ℕ) (l : List ℕ) (i : ℕ) → i < length l → 32 < get_or l i 0 → (digit_value (get_or l i 0) < 10 → ⊥) → with_digits v (drop i l) ≡ 0
with_other v l i h e t = with_at v l i h ∙ rw (lt-leb _ _ e, lt-ltb _ _ (digit_above (get_or l i 0) t))

-- one digit too many, or none
pub with_long :
    (v : ℕ) (l : List ℕ) (i : ℕ) → i < length l → 32 < get_or l i 0 → 4294967295 < 10 * v + digit (get_or l i 0) → with_digits v (drop i l) ≡ 0
with_long v l i h e u = with_at v l i h ∙ rw (lt-leb _ _ e, lt-ltb _ _ u) (same_cond _ 0)

pub with_long_ten :
    (v : ℕ) (l : List ℕ) (i d : ℕ) → i < length l → 32 < get_or l i 0 → digit_value (get_or l i 0) < 10 → d ≡ digit_value (get_or l i 0) → 4294967295 < 10 * v + d →
    with_digits v (drop i l) ≡ 0
with_long_ten v l i d h e q t u = with_long v l i h e (omega (arith, u, t, digit_ten (get_or l i 0) q))

pub with_next :
    (v : ℕ) (l : List ℕ) (i d : ℕ) → i < length l → 32 < get_or l i 0 → digit_value (get_or l i 0) < 10 → d ≡ digit_value (get_or l i 0) → 10 * v + d ≤ 4294967295 →
    with_digits v (drop i l) ≡ with_digits (10 * v + d) (drop (i + 1) l)
with_next v l i d h e q t u =
    let k : digit (get_or l i 0) ≡ d = digit_ten (get_or l i 0) q ∙ sym t in
    with_at v l i h ∙ rw (lt-leb _ _ e, k, le-ltb 9 d (omega (arith, q, t)), le-ltb _ _ u)

-- ---- the numbers of all words

numbers_cons : (c : ℕ) (cs : List ℕ) → numbers_of (c ∷ cs) ≡ cond (eqb c 32) (with_digits 0 cs ∷ numbers_of cs) (numbers_of cs)
unfolding numbers_of
numbers_cons c cs = refl

numbers_none : numbers_of [] ≡ []
unfolding numbers_of
numbers_none = refl

pub numbers_space :
    (l : List ℕ) (i : ℕ) → i < length l → get_or l i 0 ≡ 32 → numbers_of (drop i l) ≡ with_digits 0 (drop (i + 1) l) ∷ numbers_of (drop (i + 1) l)
numbers_space l i h e = ap numbers_of (from_place l i h) ∙ numbers_cons (get_or l i 0) (drop (i + 1) l) ∙ rw (eq-eqb _ _ e)

pub numbers_other : (l : List ℕ) (i : ℕ) → i < length l → (get_or l i 0 ≡ 32 → ⊥) → numbers_of (drop i l) ≡ numbers_of (drop (i + 1) l)
numbers_other l i h e = ap numbers_of (from_place l i h) ∙ numbers_cons (get_or l i 0) (drop (i + 1) l) ∙ rw (ne_eqb _ _ e)

pub numbers_end : (l : List ℕ) (i : ℕ) → length l ≤ i → numbers_of (drop i l) ≡ []
numbers_end l i h = ap numbers_of (drop_of_length-le l {i = i} h) ∙ numbers_none

-- ---- bytes in hexadecimal

bytes_low : (l : List ℕ) → get_or l 0 0 ≤ 10 → bytes_of l ≡ []
unfolding bytes_of
bytes_low [] e = refl
bytes_low (a ∷ []) e = rw (le-leb _ _ e)
bytes_low (a ∷ b ∷ []) e = rw (le-leb _ _ e)
bytes_low (a ∷ b ∷ c ∷ cs) e = rw (le-leb _ _ e)

pub bytes_none : (l : List ℕ) → length l ≡ 0 → bytes_of l ≡ []
bytes_none l e = ap bytes_of (nil_from_length l e) ∙ bytes_low [] (omega arith)

-- a piece of three, or of what is left
pub bytes_piece :
    (l piece rest : List ℕ) → l ≡ piece ++ rest → length piece ≡ min 3 (length l) → 10 < get_or piece 0 0 →
    bytes_of l ≡ pair_of (get_or piece 0 0) (get_or piece 1 0) (get_or piece 2 0) ∷ bytes_of rest
unfolding bytes_of
bytes_piece l [] rest e n h = absurd (omega (arith, h))
bytes_piece l (a ∷ []) rest e n h =
    let size = ap length e in
    let none : rest ≡ [] = nil_from_length rest (omega (arith, n, size)) in
    rw (e, none, lt-leb _ _ h)
bytes_piece l (a ∷ b ∷ []) rest e n h =
    let size = ap length e in
    let none : rest ≡ [] = nil_from_length rest (omega (arith, n, size)) in
    rw (e, none, lt-leb _ _ h)
bytes_piece l (a ∷ b ∷ c ∷ []) rest e n h = rw (e, lt-leb _ _ h)
bytes_piece l (a ∷ b ∷ c ∷ d ∷ more) rest e n h = absurd (omega (arith, n))

pub bytes_piece_low : (l piece rest : List ℕ) → l ≡ piece ++ rest → length piece ≡ min 3 (length l) → get_or piece 0 0 ≤ 10 → bytes_of l ≡ []
bytes_piece_low [] piece rest e n h = bytes_low [] (omega arith)
bytes_piece_low (x ∷ l) [] rest e n h = absurd (omega (arith, n))
bytes_piece_low (x ∷ l) (a ∷ piece) rest e n h = ap bytes_of e ∙ bytes_low (a ∷ (piece ++ rest)) h

-- a value, or 0 in its place
pub value_or_zero : (o : Option ℕ) (v t : ℕ) → UnwrapsOrElse o (λ x. x ≡ 0) v → unwrap_or o 0 ≡ t → v ≡ t
value_or_zero None v t d e = d ∙ e
value_or_zero (Some x) v t d e = d ∙ e

-- ---- laying values

fitting_none : (room to : ℕ) → fitting room to [] ≡ []
unfolding fitting
fitting_none room to = take-nil (room - to)

fitting_full : (room to : ℕ) (vs : List ℕ) → room ≤ to → fitting room to vs ≡ []
unfolding fitting
fitting_full room to vs h =
    let none : room - to ≡ 0 = omega (arith, h) in
    ap (λ (k : ℕ). take k vs) none

fitting_cons : (room to v : ℕ) (vs : List ℕ) → to < room → fitting room to (v ∷ vs) ≡ v ∷ fitting room (to + 1) vs
unfolding fitting
fitting_cons room to v vs h =
    let more : room - to ≡ suc (room - (to + 1)) = omega (arith, h) in
    ap (λ (k : ℕ). take k (v ∷ vs)) more

-- values vs to lay into an area l from a place on, of which ws are left: the area is now l', and the next place `to`
abbrev pub Left : ℕ → List ℕ → ℕ → List ℕ → List ℕ → ℕ → List ℕ → Type 0
Left room l at vs l' to ws =
    (at + length (fitting room at vs) ≡ to + length (fitting room to ws)) × (sets l at (fitting room at vs) ≡ sets l' to (fitting room to ws))

-- what a call leaves
abbrev pub Done : ℕ → List ℕ → ℕ → List ℕ → List ℕ → ℕ → Type 0
Done room l at vs l' to = record { value : to ≡ at + length (fitting room at vs); area_after : l' ≡ sets l at (fitting room at vs) }

pub left_all : (room : ℕ) (l : List ℕ) (at : ℕ) (vs ws : List ℕ) → vs ≡ ws → Left room l at vs l at ws
left_all room l at vs ws e = (ap (λ (x : List ℕ). at + length (fitting room at x)) e, ap (λ (x : List ℕ). sets l at (fitting room at x)) e)

-- the same area, place and values in other words
pub left_as :
    (room : ℕ) (l : List ℕ) (at : ℕ) (vs l' : List ℕ) (to : ℕ) (ws l'' : List ℕ) (to'' : ℕ) →
    Left room l at vs l' to ws → l'' ≡ l' → to'' ≡ to → Left room l at vs l'' to'' ws
left_as room l at vs l' to ws l'' to'' r p q =
    subst (λ (t : ℕ). Left room l at vs l'' t ws) (sym q) (subst (λ (x : List ℕ). Left room l at vs x to ws) (sym p) r)

pub left_same :
    (room : ℕ) (l : List ℕ) (at : ℕ) (vs l' : List ℕ) (to : ℕ) (ws us : List ℕ) →
    Left room l at vs l' to ws → ws ≡ us → Left room l at vs l' to us
left_same room l at vs l' to ws us r e = subst (λ (x : List ℕ). Left room l at vs l' to x) e r

-- one more laid
pub left_next :
    (room : ℕ) (l : List ℕ) (at : ℕ) (vs l' : List ℕ) (to : ℕ) (ws : List ℕ) (v : ℕ) (us : List ℕ) →
    Left room l at vs l' to ws → ws ≡ v ∷ us → to < room → Left room l at vs (set l' to v) (to + 1) us
left_next room l at vs l' to ws v us r e h =
    let f : fitting room to ws ≡ v ∷ fitting room (to + 1) us = ap (fitting room to) e ∙ fitting_cons room to v us h in
    let n : length (fitting room to ws) ≡ suc (length (fitting room (to + 1) us)) = ap length f in (
      omega (arith, r.0, n),
      r.1 ∙ ap (sets l' to) f ∙ ap (λ (k : ℕ). sets (set l' to v) k (fitting room (to + 1) us)) (sym (add-one to)),
    )

left_done :
    (room : ℕ) (l : List ℕ) (at : ℕ) (vs l' : List ℕ) (to : ℕ) (ws : List ℕ) →
    Left room l at vs l' to ws → fitting room to ws ≡ [] → Done room l at vs l' to
left_done room l at vs l' to ws r f =
    let n : length (fitting room to ws) ≡ 0 = ap length f in
    record { value = omega (arith, r.0, n); area_after = sym (r.1 ∙ ap (sets l' to) f) }

-- none left
pub left_none :
    (room : ℕ) (l : List ℕ) (at : ℕ) (vs l' : List ℕ) (to : ℕ) (ws : List ℕ) →
    Left room l at vs l' to ws → ws ≡ [] → Done room l at vs l' to
left_none room l at vs l' to ws r e = left_done room l at vs l' to ws r (ap (fitting room to) e ∙ fitting_none room to)

-- no place left
pub left_full :
    (room : ℕ) (l : List ℕ) (at : ℕ) (vs l' : List ℕ) (to : ℕ) (ws : List ℕ) →
    Left room l at vs l' to ws → room ≤ to → Done room l at vs l' to
left_full room l at vs l' to ws r h = left_done room l at vs l' to ws r (fitting_full room to ws h)
