-- Laws of the three words of marks: the words are known by their bits.
use Prim.Native.Nat.{ℕ, zero, suc, ◌+◌, ◌*◌, ◌/◌, ◌%◌, ◌^◌, ◌<◌}
use mathlib.Core.Path.{◌≡◌, refl, sym, ap, ◌∙◌, subst}
use mathlib.Core.Logic.{◌↔◌}
use mathlib.Core.List.Memᴰ.{head as here}
use mathlib.Core.List.Memᴰ.{tail as there}
use mathlib.Core.List.{List, [], ◌∷◌, Memᴰ}
use mathlib.Core.Bool.{true}
use native.Mathlib.Decide.{ℕ_discrete}
use native.Mathlib.Nat.{pow-suc, not-suc-le-zero}
use native.Mathlib.Omega.{arith}
use borrow.Author.Tests.{eq-eqb}
use lib.ListN.{get_or}
use lib.Dec.{eqb}
use lib.Seq.{get_or-set_same, get_or-set_other}
use Rattle.rtp.proofs.TestLaws.{and_then}
use Rattle.buffer_copies.specs.Sizes.{slots}
use Rattle.buffer_copies.specs.Entries.{Entry}
use Rattle.buffer_slots.specs.Bits.{bit_at, mark_of, word_at, words_of, marked, same_words}
use Rattle.buffer_slots.proofs.BitLaws.{add_lt}
use Rattle.buffer_slots.proofs.WordLaws.{count_in, Distinct, count_here, count_else, count_none, distinct_tail, mark_count, words_cons, slots_of}
use Rattle.buffer_claims.specs.WellFormedClaims.{HasSlot}

-- a bit is 0 or 1
bit_small : (j n : ℕ) → bit_at j n < 2
unfolding bit_at
bit_small zero n = omega arith
bit_small (suc j) n = bit_small j (n / 2)

-- words of k bits with the same bits are the same
bits_same : (k u v : ℕ) → u < 2 ^ k → v < 2 ^ k → ((j : ℕ) → j < k → bit_at j u ≡ bit_at j v) → u ≡ v
unfolding bit_at
bits_same zero u v lu lv e = omega arith
bits_same (suc k) u v lu lv e =
    let r : u / 2 ≡ v / 2 = bits_same k (u / 2) (v / 2) (omega (arith, pow-suc 2 k)) (omega (arith, pow-suc 2 k)) (λ j l. e (suc j) (omega arith)) in
    omega (arith, e 0 (omega arith))

-- the words that mark distinct slots have 64 bits
words_none : (k : ℕ) → get_or (words_of []) k 0 < 2 ^ 64
unfolding word_at
words_none zero = omega arith
words_none (suc zero) = omega arith
words_none (suc (suc zero)) = omega arith
words_none (suc (suc (suc k))) = omega arith

words_bound : (ss : List ℕ) → Distinct ss → (k : ℕ) → get_or (words_of ss) k 0 < 2 ^ 64
words_bound [] d k = words_none k
words_bound (s ∷ ss) d k = subst (λ (w : List ℕ). get_or w k 0 < 2 ^ 64) (words_cons s ss l) (go (words_bound ss rest) (ℕ_discrete k (s / 64)))
  where
    l : s < slots
    l = d.within s (omega (arith, count_here s ss))

    rest : Distinct ss
    rest = distinct_tail s ss d

    free : mark_of (words_of ss) s ≡ 0
    free = omega (arith, mark_count ss rest s, d.once s, count_here s ss)

    go : ((i : ℕ) → get_or (words_of ss) i 0 < 2 ^ 64) → Dec (k ≡ s / 64) → get_or (marked (words_of ss) s) k 0 < 2 ^ 64
    go ih (yes e) =
        rw (e, get_or-set_same (words_of ss) (s / 64) (get_or (words_of ss) (s / 64) 0 + 2 ^ (s % 64)) 0 (omega (arith, l)))
        (add_lt (s % 64) 64 (get_or (words_of ss) (s / 64) 0) (omega arith) (ih (s / 64)) free)
    go ih (no n) = rw (get_or-set_other (words_of ss) (s / 64) k (get_or (words_of ss) (s / 64) 0 + 2 ^ (s % 64)) 0 n) (ih k)

-- Which slots entries have

pub count_has : (s : ℕ) (es : List Entry) → 0 < count_in s (slots_of es) → HasSlot es s
count_has s [] h = absurd (let z : 0 < 0 = rw (count_none s) at h in not-suc-le-zero z)
count_has s (e ∷ es) h = go (count_has s es) (ℕ_discrete s e.slot)
  where
    go : (0 < count_in s (slots_of es) → HasSlot es s) → Dec (s ≡ e.slot) → HasSlot (e ∷ es) s
    go ih (yes q) = (e, here refl, sym q)
    go ih (no n) = let r = ih (omega (arith, count_else s e.slot (slots_of es) n)) in (r.0, there r.1, r.2)

pub has_count : (s : ℕ) (es : List Entry) → HasSlot es s → 0 < count_in s (slots_of es)
has_count s es h = subst (λ (x : ℕ). 0 < count_in x (slots_of es)) h.2 (count es h.1)
  where
    count : (es : List Entry) → Memᴰ h.0 es → 0 < count_in h.0.slot (slots_of es)
    count [] x' = elim x' [ ]
    count (f ∷ es) (here q) = rw (ap (λ (x : Entry). x.slot) q) (omega (arith, count_here f.slot (slots_of es)))
    count (f ∷ es) (there m) = more (count es m) (ℕ_discrete h.0.slot f.slot)
      where
        more : 0 < count_in h.0.slot (slots_of es) → Dec (h.0.slot ≡ f.slot) → 0 < count_in h.0.slot (f.slot ∷ slots_of es)
        more p (yes e) = rw e (omega (arith, count_here f.slot (slots_of es)))
        more p (no n) = omega (arith, count_else h.0.slot f.slot (slots_of es) n)

-- The marks, exactly

abbrev Exactly : List ℕ → List Entry → Type 0
Exactly ws es = (s : ℕ) → s < slots → mark_of ws s ≡ 1 ↔ HasSlot es s

module _ (es : List Entry) (d : Distinct (slots_of es)) where
  pub words_exactly : Exactly (words_of (slots_of es)) es
  words_exactly s l = (
    λ e. count_has s es (omega (arith, mark_count (slots_of es) d s)),
    λ h. omega (arith, mark_count (slots_of es) d s, has_count s es h, d.once s),
  )

  module _ (ws : List ℕ) (bound : (k : ℕ) → get_or ws k 0 < 2 ^ 64) (x : Exactly ws es) where
    mark_same : (s : ℕ) → s < slots → mark_of (words_of (slots_of es)) s ≡ mark_of ws s
    mark_same s l = mark_count (slots_of es) d s ∙ go (count_in s (slots_of es)) refl
      where
        go : (n : ℕ) → count_in s (slots_of es) ≡ n → n ≡ mark_of ws s
        go zero e = none (mark_of ws s) refl
          where
            none : (m : ℕ) → mark_of ws s ≡ m → 0 ≡ m
            none zero q = refl
            none (suc zero) q = absurd (let p = has_count s es ((x s l).0 q) in omega (arith, e))
            none (suc (suc m)) q = absurd (omega (arith, bit_small (s % 64) (get_or ws (s / 64) 0)))
        go (suc n) e = let p = (x s l).1 (count_has s es (omega arith)) in omega (arith, d.once s)

    word_same : (k : ℕ) → k < 3 → get_or (words_of (slots_of es)) k 0 ≡ get_or ws k 0
    word_same k l = bits_same 64 (get_or (words_of (slots_of es)) k 0) (get_or ws k 0) (words_bound (slots_of es) d k) (bound k) at_bit
      where
        at_bit : (j : ℕ) → j < 64 → bit_at j (get_or (words_of (slots_of es)) k 0) ≡ bit_at j (get_or ws k 0)
        at_bit j h =
            let p : (64 * k + j) % 64 ≡ j = omega arith in
            let q : (64 * k + j) / 64 ≡ k = omega arith in
            rw (p, q) at (mark_same (64 * k + j) (omega arith))

    pub marks_same : same_words (words_of (slots_of es)) ws ≡ true
    marks_same =
        and_then (eqb (get_or (words_of (slots_of es)) 0 0) (get_or ws 0 0)) _ (eq-eqb _ _ (word_same 0 (omega arith)))
        (and_then (eqb (get_or (words_of (slots_of es)) 1 0) (get_or ws 1 0)) _ (eq-eqb _ _ (word_same 1 (omega arith))) (eq-eqb _ _ (word_same 2 (omega arith))))
