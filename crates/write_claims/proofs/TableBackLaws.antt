-- Laws of a table of contents as it is written: it reads back.
use mathlib.Core.Path.{◌≡◌, refl, ap, ◌∙◌}
use mathlib.Core.List.{List, [], ◌∷◌, ◌++◌, append_assoc}
use mathlib.Core.Bool.{true, false}
use Prim.Native.Nat.{ℕ, ◌+◌, ◌*◌, ◌≤◌}
use native.Mathlib.Omega.{arith}
use lib.ListN.{length}
use lib.Seq.{drop_at}
use Rattle.rtp.specs.Editions.{Edition}
use Rattle.rtp.specs.Sizes.{max_rows}
use Rattle.formats.specs.Formats.{max_gap}
use Rattle.read_contents.specs.Contents.{Group, groups, meaning, prepend, contents, row_count}
use Rattle.read_contents.proofs.ContentsLaws.{contents_last, contents_more}
use Rattle.write_plan.specs.Entries.{max_blocks}
use Rattle.write_plan.specs.Plans.{head_gap}
use Rattle.write_payload.specs.Bytes.{entry_bytes, table_bytes}
use Rattle.write_payload.proofs.EntryLaws.{length_entry}
use Rattle.write_claims.proofs.EntryBackLaws.{Run, entry_for, entry_back, meaning_back}

-- runs one after another, each no further after the one before than an entry can say
abbrev pub Runs : ℕ → List Group → Type 0
Runs format [] = Unit {0}
Runs format (g ∷ gs) = Run format g × (head_gap g ≤ max_gap format) × Runs format gs

-- each counted in one byte
abbrev pub Counts : List Group → Type 0
Counts [] = Unit {0}
Counts (g ∷ gs) = (length g.gaps ≤ max_blocks) × Counts gs

pub table_back : (ed : Edition) (format ch rows : ℕ) (g : Group) (gs : List Group) (rest : List ℕ) → Runs format (g ∷ gs) → rows + row_count ch (g ∷ gs) ≤ max_rows ed
    → contents ed format ch rows (table_bytes format (g ∷ gs) ++ rest) ≡ groups (g ∷ gs)
unfolding table_bytes row_count
table_back ed format ch rows g [] rest v h =
    let s = entry_bytes format false g ++ rest in
    contents_last ed format ch rows s (entry_for format false g) (entry_back format false g rest v.0) (omega arith) refl
    ∙ ap (λ (x : Group). groups (x ∷ [])) (meaning_back format false g rest v.0 v.1)
table_back ed format ch rows g (f ∷ gs) rest v h =
    let next = table_bytes format (f ∷ gs) ++ rest in
    let s = entry_bytes format true g ++ next in
    let e = entry_for format true g in
    let ih = table_back ed format ch (rows + length g.gaps * ch) f gs rest v.2 (omega arith) in
    rw append_assoc
    (contents_more ed format ch rows s e (entry_back format true g next v.0) (omega arith) refl
    ∙ ap (λ (l : List ℕ). prepend e.size (meaning format s e) (contents ed format ch (rows + length g.gaps * ch) l)) (drop_at (entry_bytes format true g) next e.size (length_entry format true g))
    ∙ ap (prepend e.size (meaning format s e)) ih
    ∙ ap (λ (x : Group). groups (x ∷ f ∷ gs)) (meaning_back format true g next v.0 v.1))
