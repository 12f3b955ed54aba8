-- Frame-blocks put one before another make runs whose entries are no longer than any table that says them.
use mathlib.Core.Path.{◌≡◌, refl, ap}
use mathlib.Core.List.{List, [], ◌∷◌, ◌++◌}
use mathlib.Core.Bool.{true, false, cond}
use Prim.Native.Nat.{ℕ, suc, ◌+◌, ◌-◌, ◌≤◌, ◌<◌}
use native.Mathlib.Omega.{arith}
use lib.ListN.{length, get_or, length-append}
use lib.Dec.{leb}
use borrow.Author.Tests.{le-leb, leb-true, leb-false}
use Rattle.rtp.proofs.TestLaws.{by-test, not-both}
use Rattle.formats.specs.Formats.{format_of, max_gap}
use Rattle.read_contents.specs.Contents.{gaps_size, entry_size, Group, Contents, groups, size_in}
use Rattle.read_rows.specs.Rows.{Row}
use Rattle.write_plan.specs.Entries.{max_blocks, first_part, entries_of}
use Rattle.write_plan.specs.Room.{run_size}
use Rattle.write_plan.specs.Plans.{head_gap, joins, attach}
use Rattle.write_plan.proofs.PlanLaws.{joins_true}
use Rattle.write_plan.proofs.EntriesLaws.{run_one, run_two, size_entries}
use Rattle.write_claims.proofs.TableBackLaws.{Runs, Counts}
use Rattle.write_claims.proofs.TableBlockLaws.{Block, blocks_of, blocks_in}
use Rattle.write_claims.proofs.AttachLaws.{joins_so, first_gap}

-- a row of a frame-block; its class and length are what counts
abbrev pub row_for : Block → Row
row_for b = record { time = 0; class = b.class; channel = 0; start = 0; length = b.length; primary = 0 }

-- frame-blocks put one before another
abbrev pub attach_all : ℕ → List Block → Contents
attach_all format [] = groups []
attach_all format (b ∷ bs) = attach format (row_for b) b.gap (attach_all format bs)

-- a whole group before a table
abbrev merge : ℕ → Group → List Group → List Group
merge format h [] = h ∷ []
merge format h (g ∷ gs) =
    cond (joins format (row_for (record { gap = 0; class = h.class; length = h.length })) g)
    (record { class = g.class; length = g.length; gaps = h.gaps ++ g.gaps } ∷ gs) (h ∷ g ∷ gs)

module _ (format class len : ℕ) where
  abbrev run : List ℕ → Group
  run gaps = record { class = class; length = len; gaps = gaps }

  abbrev row : Row
  row = row_for (record { gap = 0; class = class; length = len })

  -- one more frame-block of the same group
  merge_more : (a b : ℕ) (gaps : List ℕ) (gs : List Group) → (format_of format).counted ≡ true → b ≤ max_gap format
      → attach format row a (groups (merge format (run (b ∷ gaps)) gs)) ≡ groups (merge format (run (a ∷ b ∷ gaps)) gs)
  merge_more a b gaps [] n l = rw (joins_so format row (run (b ∷ gaps)) (record { runs = n; class = refl; length = refl; near = l }))
  merge_more a b gaps (g ∷ gs) n l =
      by-test (joins format row g)
      (λ t.
      let j = joins_true format row g t in
      let x : Group = record { class = g.class; length = g.length; gaps = (b ∷ gaps) ++ g.gaps } in
      rw t (rw (joins_so format row x (record { runs = n; class = j.class; length = j.length; near = l }))))
      (λ t. rw t (rw (joins_so format row (run (b ∷ gaps)) (record { runs = n; class = refl; length = refl; near = l }))))

  -- the last one of a group
  merge_one : (a : ℕ) (gs : List Group) → first_gap gs ≤ max_gap format → attach format row a (groups gs) ≡ groups (merge format (run (a ∷ [])) gs)
  merge_one a [] f = refl
  merge_one a (g ∷ gs) f = by-test (joins format row g) (λ t. rw t) (λ t. rw (t, le-leb (head_gap g) (max_gap format) f))

  merge_all : (a : ℕ) (gaps : List ℕ) (bs : List Block) (gs : List Group) → ((i : ℕ) → get_or gaps i 0 ≤ max_gap format) → ((format_of format).counted ≡ false → length gaps ≡ 0)
      → attach_all format bs ≡ groups gs → first_gap gs ≤ max_gap format
      → attach_all format (blocks_of class len (a ∷ gaps) ++ bs) ≡ groups (merge format (run (a ∷ gaps)) gs)
  merge_all a [] bs gs near alone e f = rw e (merge_one a gs f)
  merge_all a (b ∷ gaps) bs gs near alone e f =
      let n : (format_of format).counted ≡ true = by-test (format_of format).counted (λ t. t) (λ t. absurd (omega (arith, alone t))) in
      rw (merge_all b gaps bs gs (λ i. near (suc i)) (λ t. not-both (format_of format).counted n t) e f) (merge_more a b gaps gs n (near 0))

-- its size

one_entry : (format m n : ℕ) → entry_size format (m + n) ≤ entry_size format m + entry_size format n
unfolding entry_size gaps_size
one_entry format m n = by-test (format_of format).displaced (λ a. rw a (omega arith)) (λ a. rw a (omega arith))

-- 254 and the rest are no longer than any two
two_entries : (format m n : ℕ) → max_blocks < m + n → entry_size format first_part + entry_size format (m + n - first_part) ≤ entry_size format m + entry_size format n
unfolding entry_size gaps_size
two_entries format m n h = by-test (format_of format).displaced (λ a. rw a (omega arith)) (λ a. rw a (omega arith))

-- an entry more before a run
longer_run : (format m n : ℕ) → run_size format (m + n) ≤ entry_size format m + run_size format n
longer_run format m n =
    by-test (leb (m + n) max_blocks)
    (λ a. let h = leb-true (m + n) max_blocks a in omega (arith, run_one format (m + n) h, run_one format n (omega (arith, h)), one_entry format m n))
    (λ a. let h = leb-false (m + n) max_blocks a in by-test (leb n max_blocks)
    (λ b. omega (arith, run_two format (m + n) h, run_one format n (leb-true n max_blocks b), two_entries format m n h))
    (λ b.
    let k = leb-false n max_blocks b in
    let e : m + n - first_part ≡ m + (n - first_part) = omega (arith, k) in
    omega (arith, run_two format (m + n) h, run_two format n k, one_entry format m (n - first_part), ap (entry_size format) e)))

merge_size : (format : ℕ) (h : Group) (gs : List Group) → length h.gaps ≤ max_blocks → size_in format (entries_of (merge format h gs)) ≤ entry_size format (length h.gaps) + size_in format (entries_of gs)
merge_size format h [] few = omega (arith, size_entries format h [], run_one format (length h.gaps) few)
merge_size format h (g ∷ gs) few =
    by-test (joins format (row_for (record { gap = 0; class = h.class; length = h.length })) g)
    (λ t.
    let x : Group = record { class = g.class; length = g.length; gaps = h.gaps ++ g.gaps } in
    let e = longer_run format (length h.gaps) (length g.gaps) in
    let s = size_entries format x gs in
    let n = ap (run_size format) (length-append h.gaps g.gaps) in
    rw t (omega (arith, e, s, n, size_entries format g gs)))
    (λ t. rw t (omega (arith, size_entries format h (g ∷ gs), run_one format (length h.gaps) few)))

merge_first : (format : ℕ) (h : Group) (gs : List Group) → 1 ≤ length h.gaps → first_gap (merge format h gs) ≡ head_gap h
merge_first format h [] some = refl
merge_first format h (g ∷ gs) some =
    by-test (joins format (row_for (record { gap = 0; class = h.class; length = h.length })) g) (λ t. rw t (front h.gaps some)) (λ t. rw t)
  where
    front : (l : List ℕ) → 1 ≤ length l → get_or (l ++ g.gaps) 0 0 ≡ get_or l 0 0
    front [] n = absurd (omega arith)
    front (x ∷ l) n = refl

-- runs of the same frame-blocks as hs, whose entries are no longer
pub record Shorter (format : ℕ) (hs : List Group) : Type 0 where
  pub table : List Group
  pub made : attach_all format (blocks_in hs) ≡ groups table
  pub size : size_in format (entries_of table) ≤ size_in format hs
  pub first : first_gap table ≤ max_gap format

pub shortest : (format : ℕ) (hs : List Group) → Runs format hs → Counts hs → Shorter format hs
unfolding size_in
shortest format [] v c = record { table = []; made = refl; size = unfold entries_of in omega arith; first = omega arith }
shortest format (h ∷ hs) v c =
    let k = shortest format hs v.2 c.1 in
    record {
      table = merge format h k.table;
      made = made h.gaps v.0.some v.0.near v.0.alone k;
      size = omega (arith, merge_size format h k.table c.0, k.size);
      first = omega (arith, merge_first format h k.table v.0.some, v.1);
    }
  where
    made : (gaps : List ℕ) → 1 ≤ length gaps → ((i : ℕ) → get_or gaps (suc i) 0 ≤ max_gap format) → ((format_of format).counted ≡ false → length gaps ≡ 1) → (k : Shorter format hs)
        → attach_all format (blocks_of h.class h.length gaps ++ blocks_in hs) ≡ groups (merge format (record { class = h.class; length = h.length; gaps = gaps }) k.table)
    made [] some near alone k = absurd (omega arith)
    made (a ∷ gaps) some near alone k = merge_all format h.class h.length a gaps (blocks_in hs) k.table near (λ t. omega (arith, alone t)) k.made k.first
