-- Laws of the entries that runs are written with: they say the runs' frame-blocks, and each counts its own in one byte.
use mathlib.Core.Path.{◌≡◌, refl, ap, sym, ◌∙◌, subst}
use mathlib.Core.List.{List, [], ◌∷◌, ◌++◌}
use Prim.Native.Nat.{ℕ, zero, suc, ◌+◌, ◌≤◌, ◌<◌}
use native.Mathlib.Omega.{arith}
use native.Mathlib.Nat.{le-mul_of_pos_right}
use lib.ListN.{length, get_or, take, drop, length-drop}
use lib.Seq.{length-take-le, get_or-drop}
use lib.Dec.{leb}
use borrow.Author.Tests.{leb-true, leb-false}
use Rattle.rtp.specs.Editions.{Edition}
use Rattle.rtp.specs.Sizes.{max_rows}
use Rattle.rtp.proofs.TestLaws.{by-test}
use Rattle.formats.specs.Formats.{max_gap}
use Rattle.read_contents.specs.Contents.{Group, row_count}
use Rattle.read_rows.specs.Rows.{table_rows}
use Rattle.write_plan.specs.Entries.{max_blocks, first_part, part, entries_of}
use Rattle.write_plan.proofs.EntriesLaws.{entries_one, entries_two}
use Rattle.write_payload.proofs.RunLaws.{head_take}
use Rattle.write_claims.proofs.EntryBackLaws.{Run}
use Rattle.write_claims.proofs.TableBackLaws.{Runs, Counts}
use Rattle.write_claims.proofs.TableBlockLaws.{Block, blocks_of, blocks_in, blocks_rows, table_blocks}
use Rattle.write_claims.proofs.AttachLaws.{first_gap}

-- The same frame-blocks

blocks_parts : (class len k : ℕ) (l : List ℕ) (bs : List Block) → blocks_of class len (take k l) ++ (blocks_of class len (drop k l) ++ bs) ≡ blocks_of class len l ++ bs
blocks_parts class len zero l bs = refl
blocks_parts class len (suc k) [] bs = refl
blocks_parts class len (suc k) (x ∷ l) bs = ap (λ (r : List Block). record { gap = x; class = class; length = len } ∷ r) (blocks_parts class len k l bs)

blocks_entries : (gs : List Group) → blocks_in (entries_of gs) ≡ blocks_in gs
blocks_entries [] = unfold entries_of in refl
blocks_entries (g ∷ gs) =
    let i = blocks_entries gs in
    by-test (leb (length g.gaps) max_blocks)
    (λ a. ap blocks_in (entries_one g gs (leb-true (length g.gaps) max_blocks a)) ∙ ap (λ (l : List Block). blocks_of g.class g.length g.gaps ++ l) i)
    (λ a.
    ap blocks_in (entries_two g gs (leb-false (length g.gaps) max_blocks a))
    ∙ ap (λ (l : List Block). blocks_of g.class g.length (take first_part g.gaps) ++ (blocks_of g.class g.length (drop first_part g.gaps) ++ l)) i
    ∙ blocks_parts g.class g.length first_part g.gaps (blocks_in gs))

-- and the same rows
pub rows_entries : (step ch time start : ℕ) (gs : List Group) → table_rows step ch time start (entries_of gs) ≡ table_rows step ch time start gs
rows_entries step ch time start gs = table_blocks step ch time start (entries_of gs) ∙ ap (blocks_rows step ch time start) (blocks_entries gs) ∙ sym (table_blocks step ch time start gs)

pub first_entries : (gs : List Group) → first_gap (entries_of gs) ≡ first_gap gs
first_entries [] = unfold entries_of in refl
first_entries (g ∷ gs) =
    by-test (leb (length g.gaps) max_blocks)
    (λ a. ap first_gap (entries_one g gs (leb-true (length g.gaps) max_blocks a)))
    (λ a. ap first_gap (entries_two g gs (leb-false (length g.gaps) max_blocks a)) ∙ head_take 253 g.gaps)

-- Runs that entries can say

near_take : (m k : ℕ) (l : List ℕ) (i : ℕ) → get_or l i 0 ≤ m → get_or (take k l) i 0 ≤ m
near_take m zero l i h = omega arith
near_take m (suc k) [] i h = h
near_take m (suc k) (x ∷ l) zero h = h
near_take m (suc k) (x ∷ l) (suc i) h = near_take m k l i h

module _ (format : ℕ) (g : Group) (r : Run format g) (m : max_blocks < length g.gaps) where
  run_first : Run format (part g (take first_part g.gaps))
  run_first = record {
    code = r.code;
    some = omega (arith, length-take-le first_part g.gaps (omega arith));
    near = λ i. near_take (max_gap format) first_part g.gaps (suc i) (r.near i);
    alone = λ a. absurd (omega (arith, r.alone a));
  }

  near_rest : (i : ℕ) → get_or (drop first_part g.gaps) i 0 ≤ max_gap format
  near_rest i =
      let e : suc (253 + i) ≡ first_part + i = omega arith in
      subst (λ (n : ℕ). n ≤ max_gap format) (ap (λ (k : ℕ). get_or g.gaps k 0) e ∙ sym (get_or-drop first_part g.gaps i 0)) (r.near (253 + i))

  run_rest : Run format (part g (drop first_part g.gaps))
  run_rest = record {
    code = r.code;
    some = omega (arith, length-drop first_part g.gaps);
    near = λ i. near_rest (suc i);
    alone = λ a. absurd (omega (arith, r.alone a));
  }

pub runs_entries : (format : ℕ) (gs : List Group) → Runs format gs → Runs format (entries_of gs)
runs_entries format [] v = unfold entries_of in tt
runs_entries format (g ∷ gs) v =
    let i = runs_entries format gs v.2 in
    by-test (leb (length g.gaps) max_blocks)
    (λ a. subst (Runs format) (sym (entries_one g gs (leb-true (length g.gaps) max_blocks a))) (v.0, v.1, i))
    (λ a.
    let m = leb-false (length g.gaps) max_blocks a in
    subst (Runs format) (sym (entries_two g gs m)) (run_first format g v.0 m, omega (arith, v.1, head_take 253 g.gaps), (run_rest format g v.0 m, near_rest format g v.0 m 0, i)))

-- Counts in one byte: a packet's rows are so few that the rest of a run is one entry

pub counts_entries : (ed : Edition) (ch : ℕ) (gs : List Group) → 1 ≤ ch → row_count ch gs ≤ max_rows ed → Counts (entries_of gs)
unfolding row_count
counts_entries ed ch [] some few = unfold entries_of in tt
counts_entries ed ch (g ∷ gs) some few =
    let i = counts_entries ed ch gs some (omega arith) in
    let n = le-mul_of_pos_right (length g.gaps) some in
    by-test (leb (length g.gaps) max_blocks)
    (λ a. let m = leb-true (length g.gaps) max_blocks a in subst Counts (sym (entries_one g gs m)) (m, i))
    (λ a.
    let m = leb-false (length g.gaps) max_blocks a in
    subst Counts (sym (entries_two g gs m)) (omega (arith, length-take-le first_part g.gaps (omega (arith, m))), (omega (arith, n, few, length-drop first_part g.gaps), i)))
