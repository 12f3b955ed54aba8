-- Laws of the lowest free slot: there is one where fewer than all are marked.
use mathlib.Core.Path.{◌≡◌, ap, ◌∙◌, subst}
use mathlib.Core.Logic.{⊎_elim}
use mathlib.Core.List.{List}
use Prim.Native.Nat.{ℕ, zero, suc, ◌+◌, ◌*◌, ◌/◌, ◌%◌, ◌^◌, ◌≤◌, ◌<◌, zero-le, suc-le-suc}
use native.Mathlib.Omega.{arith}
use lib.ListN.{get_or}
use lib.Count.{ones, ones_step}
use lib.Dec.{eqb, lit<}
use borrow.Author.Tests.{eqb-true, eqb-false, lt-ltb, le-leb, eq-eqb}
use Rattle.rtp.proofs.TestLaws.{by-test}
use Rattle.buffer_copies.specs.Sizes.{slots}
use Rattle.buffer_slots.specs.Bits.{bit_at, mark_of, held_in, marked, unmarked, claimed, released, lowest_from, lowest_free}
use Rattle.buffer_slots.proofs.BitLaws.{lt_or_le}

bit_small : (j n : ℕ) → bit_at j n < 2
unfolding bit_at
bit_small zero n = omega arith
bit_small (suc j) n = bit_small j (n / 2)

pub from_within : (ws : List ℕ) (k s : ℕ) → lowest_from ws k s ≤ s + k
unfolding lowest_from
from_within ws zero s = omega arith
from_within ws (suc k) s = by-test (eqb (mark_of ws s) 0) (λ a. rw a (omega arith)) (λ a. rw a (omega (arith, from_within ws k (s + 1))))

from_free : (ws : List ℕ) (k s : ℕ) → lowest_from ws k s < s + k → mark_of ws (lowest_from ws k s) ≡ 0
unfolding lowest_from
from_free ws zero s h = absurd (omega arith)
from_free ws (suc k) s h =
    by-test (eqb (mark_of ws s) 0) (λ a. rw a (eqb-true (mark_of ws s) 0 a))
    (λ a. rw a (from_free ws k (s + 1) (let g : lowest_from ws k (s + 1) < s + suc k = rw a at h in omega arith)))

from_below : (ws : List ℕ) (k s j : ℕ) → s ≤ j → j < lowest_from ws k s → mark_of ws j ≡ 1
unfolding lowest_from
from_below ws zero s j l h = absurd (omega arith)
from_below ws (suc k) s j l h =
    by-test (eqb (mark_of ws s) 0)
    (λ a. let g : j < s = rw a at h in absurd (omega arith))
    (λ a.
    let g : j < lowest_from ws k (s + 1) = rw a at h in
    let one : mark_of ws s ≡ 1 = omega (arith, eqb-false (mark_of ws s) 0 a, bit_small (s % 64) (get_or ws (s / 64) 0)) in
    ⊎_elim (λ m. let e : j ≡ s = omega arith in ap (mark_of ws) e ∙ one) (λ m. from_below ws k (s + 1) j m g) (lt_or_le j (s + 1)))

ones_full : (k n : ℕ) → ((j : ℕ) → j < k → bit_at j n ≡ 1) → k ≤ ones n
unfolding bit_at
ones_full zero n h = zero-le
ones_full (suc k) n h =
    omega (arith, ones_step n, h 0 (suc-le-suc zero-le), ones_full k (n / 2) (λ j l. h (suc j) (suc-le-suc l)))

full_word : (ws : List ℕ) (i : ℕ) → ((s : ℕ) → s < slots → mark_of ws s ≡ 1) → i < 3 → 64 ≤ ones (get_or ws i 0)
full_word ws i h l =
    ones_full 64 (get_or ws i 0) (λ j k.
    let q : (i * 64 + j) / 64 ≡ i = omega arith in
    let r : (i * 64 + j) % 64 ≡ j = omega arith in
    subst (λ (m : ℕ). bit_at m (get_or ws i 0) ≡ 1) r (subst (λ (m : ℕ). bit_at ((i * 64 + j) % 64) (get_or ws m 0) ≡ 1) q (h (i * 64 + j) (omega arith))))

pub free_when_room : (ws : List ℕ) → held_in ws < slots → lowest_free ws < slots
free_when_room ws h =
    ⊎_elim (λ l. l) (λ g.
    let all : (s : ℕ) → s < slots → mark_of ws s ≡ 1 = λ s l. from_below ws slots 0 s zero-le (omega arith) in
    absurd (let o : ⊥ = omega (arith, full_word ws 0 all (lit< tt), full_word ws 1 all (lit< tt), full_word ws 2 all (lit< tt)) in o))
    (lt_or_le (lowest_free ws) slots)

pub free_unmarked : (ws : List ℕ) → lowest_free ws < slots → mark_of ws (lowest_free ws) ≡ 0
free_unmarked ws h = from_free ws slots 0 (omega arith)

-- A free slot is marked, and the mark of one that is marked is taken away

pub claimed_free : (ws : List ℕ) (s : ℕ) → s < slots → mark_of ws s ≡ 0 → claimed ws s ≡ marked ws s
claimed_free ws s h e = rw (lt-ltb s slots h, eq-eqb (mark_of ws s) 0 e)

pub released_marked : (ws : List ℕ) (s : ℕ) → s < slots → 2 ^ (s % 64) ≤ get_or ws (s / 64) 0 → released ws s ≡ unmarked ws s
released_marked ws s h l = rw (lt-ltb s slots h, le-leb (2 ^ (s % 64)) (get_or ws (s / 64) 0) l)
