-- Laws of one table entry as it is written: it reads back.
use mathlib.Core.Path.{◌≡◌, refl, ap, sym, ◌∙◌}
use Rattle.std.specs.Prelude.{Ok}
use mathlib.Core.List.{List, [], ◌∷◌, ◌++◌}
use mathlib.Core.Bool.{Bool, true, false}
use Prim.Native.Nat.{ℕ, zero, suc, ◌+◌, ◌*◌, ◌/◌, ◌%◌, ◌≤◌, ◌<◌}
use native.Mathlib.Omega.{arith}
use native.Mathlib.Nat.{add-zero, zero-add}
use lib.ListN.{length, get_or, drop, length-append}
use lib.Dec.{leb}
use borrow.Author.Tests.{le-ltb, le-leb, lt-leb, ne_eqb}
use Rattle.rtp.specs.Numbers.{byte_at}
use Rattle.rtp.proofs.TestLaws.{by-test}
use Rattle.formats.specs.Formats.{format_of, max_gap}
use Rattle.read_contents.specs.declared.entries.Entry.{Entry}
use Rattle.read_contents.specs.Contents.{min_entry, code_in, blocks_in, entry_size, entry_of, Group, half_at, gap_at, gaps_from, meaning}
use Rattle.frame_codes.specs.Codes.{no_code, code_for}
use Rattle.write_plan.specs.Plans.{head_gap}
use Rattle.write_payload.specs.Bytes.{halves, flag, first_byte, gap_bytes, entry_bytes}
use Rattle.write_payload.proofs.EntryLaws.{length_entry}
use Rattle.frame_codes.proofs.CodeLaws.{code_back, code_below_lem}
use Rattle.formats.proofs.FormatLaws.{code_placed, gap_small}
use Rattle.read_contents.proofs.EntryLaws.{size_min}

-- a run of frame-blocks that an entry can say, but for the gap before it
pub record Run (format : ℕ) (g : Group) : Type 0 where
  pub code : code_for format g.class g.length < no_code
  pub some : 1 ≤ length g.gaps
  pub near : (i : ℕ) → get_or g.gaps (suc i) 0 ≤ max_gap format
  pub alone : (format_of format).counted ≡ false → length g.gaps ≡ 1

-- The first byte

first_more : (m : Bool) (n : ℕ) → n < 128 → leb 128 (flag m + n) ≡ m
first_more true n h = le-leb 128 (128 + n) (omega arith)
first_more false n h = lt-leb 128 (0 + n) (omega arith)

module _ (format : ℕ) (more : Bool) (class n : ℕ) (h : code_for format class n < no_code) where
  first_flag : leb 128 (first_byte format more class n) ≡ more
  unfolding first_byte
  first_flag = first_more more ((format_of format).unit * code_for format class n) ((code_placed format).low (code_for format class n) (code_below_lem format class n h))

  first_code : code_in format (first_byte format more class n) ≡ code_for format class n
  unfolding first_byte
  first_code = by_flag more ((code_placed format).back (code_for format class n) (code_below_lem format class n h))
    where
      by_flag : (m : Bool)
          → ((format_of format).unit * code_for format class n / (format_of format).unit % (format_of format).codes ≡ code_for format class n)
          × ((128 + (format_of format).unit * code_for format class n) / (format_of format).unit % (format_of format).codes ≡ code_for format class n)
          → (flag m + (format_of format).unit * code_for format class n) / (format_of format).unit % (format_of format).codes ≡ code_for format class n
      by_flag true b = b.1
      by_flag false b = rw zero-add b.0

-- Gaps in half bytes

pub half_later : (x : ℕ) (xs : List ℕ) (k : ℕ) → half_at (x ∷ xs) (suc (suc k)) ≡ half_at xs k
half_later x xs k =
    let d : suc (suc k) / 2 ≡ suc (k / 2) = omega arith in
    let m : suc (suc k) % 2 ≡ k % 2 = omega arith in
    rw (d, m)

pub half_back : (ns rest : List ℕ) (k : ℕ) → ((i : ℕ) → get_or ns i 0 < 16) → k < length ns → half_at (halves ns ++ rest) k ≡ get_or ns k 0
unfolding halves
half_back [] rest k h l = absurd (omega arith)
half_back (a ∷ []) rest zero h l = omega arith
half_back (a ∷ []) rest (suc k) h l = absurd (omega arith)
half_back (a ∷ b ∷ ns) rest zero h l = let y = h 0 in let z = h 1 in omega arith
half_back (a ∷ b ∷ ns) rest (suc zero) h l = let y = h 0 in let z = h 1 in omega arith
half_back (a ∷ b ∷ ns) rest (suc (suc k)) h l = half_later (16 * a + b) (halves ns ++ rest) k ∙ half_back ns rest k (λ i. h (suc (suc i))) (omega arith)

-- gaps by their places
gaps_are : (format : ℕ) (s : List ℕ) (k : ℕ) (gs : List ℕ) → ((i : ℕ) → i < length gs → gap_at format s (k + i) ≡ get_or gs i 0) → gaps_from format s k (length gs) ≡ gs
unfolding gaps_from
gaps_are format s k [] h = refl
gaps_are format s k (g ∷ gs) h =
    let one : gap_at format s k ≡ g = rw add-zero at (h 0 (omega arith)) in
    let rest = gaps_are format s (k + 1) gs (λ i l. ap (gap_at format s) (next k i) ∙ h (suc i) (omega arith)) in
    rw (one, rest)
  where
    next : (k i : ℕ) → k + 1 + i ≡ k + suc i
    next k i = omega arith

-- One entry

abbrev pub entry_for : ℕ → Bool → Group → Entry
entry_for format more g = record { more = more; class = g.class; length = g.length; blocks = length g.gaps; size = entry_size format (length g.gaps) }

module _ (format : ℕ) (more : Bool) (g : Group) (rest : List ℕ) (r : Run format g) where
  pub first_back : byte_at (entry_bytes format more g ++ rest) 0 ≡ first_byte format more g.class g.length
  unfolding entry_bytes
  first_back = refl

  blocks_back : blocks_in format (entry_bytes format more g ++ rest) ≡ length g.gaps
  unfolding entry_bytes
  blocks_back = by-test (format_of format).counted (λ a. rw a) (λ a. rw a (sym (r.alone a)))

  pub gaps_back : drop (min_entry format) (entry_bytes format more g ++ rest) ≡ gap_bytes format g.gaps ++ rest
  unfolding entry_bytes min_entry
  gaps_back = by-test (format_of format).counted (λ a. rw a) (λ a. rw a)

  pub entry_back : entry_of format (entry_bytes format more g ++ rest) ≡ Ok (entry_for format more g)
  unfolding entry_of
  entry_back =
      let s = entry_bytes format more g ++ rest in
      let n = length-append (entry_bytes format more g) rest in
      let e = length_entry format more g in
      let none : length g.gaps ≡ 0 → ⊥ = omega (arith, r.some) in
      rw (
        blocks_back,
        first_back,
        le-ltb (length s) (min_entry format) (omega (arith, n, e, size_min format (length g.gaps))),
        le-ltb (length s) (entry_size format (length g.gaps)) (omega (arith, n, e)),
        first_flag format more g.class g.length r.code,
        first_code format more g.class g.length r.code,
        code_back format g.class g.length r.code,
        ne_eqb (length g.gaps) 0 none,
      )

  module _ (f : head_gap g ≤ max_gap format) where
    near : (i : ℕ) → get_or g.gaps i 0 ≤ max_gap format
    near zero = f
    near (suc i) = r.near i

    pub small_gaps : (i : ℕ) → get_or g.gaps i 0 < 16
    small_gaps i = omega (arith, near i, gap_small format)

    gap_back : (i : ℕ) → i < length g.gaps → gap_at format (entry_bytes format more g ++ rest) (0 + i) ≡ get_or g.gaps i 0
    unfolding gap_at max_gap
    gap_back i h =
        rw (zero-add, gaps_back)
        (by-test (format_of format).displaced
        (λ b. rw b (half_back g.gaps rest i small_gaps h))
        (λ b. let n : get_or g.gaps i 0 ≤ 0 = rw b at (near i) in rw b (omega arith)))

pub meaning_back : (format : ℕ) (more : Bool) (g : Group) (rest : List ℕ) → Run format g → head_gap g ≤ max_gap format
    → meaning format (entry_bytes format more g ++ rest) (entry_for format more g) ≡ g
unfolding meaning
meaning_back format more g rest r f =
    λ j. record { class = g.class; length = g.length; gaps = gaps_are format (entry_bytes format more g ++ rest) 0 g.gaps (gap_back format more g rest r f) j }
