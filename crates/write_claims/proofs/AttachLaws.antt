-- Laws of a frame-block put before a table.
use mathlib.Core.Path.{◌≡◌, refl, sym, subst}
use mathlib.Core.List.{List, [], ◌∷◌}
use mathlib.Core.Bool.{true}
use Prim.Native.Nat.{ℕ, zero, suc, ◌≤◌, ◌<◌}
use native.Mathlib.Omega.{arith}
use lib.ListN.{get_or}
use lib.Dec.{leb}
use borrow.Author.Tests.{le-leb, eq-eqb, leb-true}
use Rattle.rtp.proofs.TestLaws.{by-test, not-both}
use Rattle.formats.specs.Formats.{format_of, max_gap}
use Rattle.read_contents.specs.Contents.{Group, groups}
use Rattle.read_rows.specs.Rows.{Row}
use Rattle.frame_codes.specs.Codes.{no_code, code_for}
use Rattle.write_plan.specs.Plans.{head_gap, single, joins, attach}
use Rattle.write_plan.proofs.PlanLaws.{Joins, joins_true}
use Rattle.write_claims.proofs.EntryBackLaws.{Run}
use Rattle.write_claims.proofs.TableBackLaws.{Runs}
use Rattle.write_claims.proofs.TableBlockLaws.{Block, blocks_in}

pub joins_so : (format : ℕ) (r : Row) (g : Group) → Joins format r g → joins format r g ≡ true
joins_so format r g j = rw (j.runs, eq-eqb r.class g.class j.class, eq-eqb r.length g.length j.length) (le-leb (head_gap g) (max_gap format) j.near)

-- runs one after another, whatever stands before the first
abbrev pub Later : ℕ → List Group → Type 0
Later format [] = Unit {0}
Later format (g ∷ gs) = Run format g × Runs format gs

-- the frame-blocks left out before the first
abbrev pub first_gap : List Group → ℕ
first_gap [] = 0
first_gap (g ∷ gs) = head_gap g

abbrev pub block_at : ℕ → Row → Block
block_at gap r = record { gap = gap; class = r.class; length = r.length }

-- a table that a frame-block stands before
pub record Attached (format : ℕ) (r : Row) (gap : ℕ) (old new : List Group) : Type 0 where
  pub blocks : blocks_in new ≡ block_at gap r ∷ blocks_in old
  pub runs : code_for format r.class r.length < no_code → Later format old → Later format new
  pub first : first_gap new ≡ gap

pub same_groups : (a b : List Group) → groups a ≡ groups b → a ≡ b
same_groups a b h = cc

alone_run : (format : ℕ) (r : Row) (gap : ℕ) → code_for format r.class r.length < no_code → Run format (single r gap)
alone_run format r gap h = record { code = h; some = omega arith; near = λ i. omega arith; alone = λ a. refl }

longer_run : (format : ℕ) (r : Row) (gap : ℕ) (g : Group) → Joins format r g → Run format g → Run format (record { class = g.class; length = g.length; gaps = gap ∷ g.gaps })
longer_run format r gap g j v = record { code = v.code; some = omega arith; near = near; alone = λ a. not-both (format_of format).counted j.runs a }
  where
    near : (i : ℕ) → get_or (gap ∷ g.gaps) (suc i) 0 ≤ max_gap format
    near zero = j.near
    near (suc i) = v.near i

pub attached : (format : ℕ) (r : Row) (gap : ℕ) (old new : List Group) → attach format r gap (groups old) ≡ groups new → Attached format r gap old new
attached format r gap [] new h =
    subst (Attached format r gap []) (same_groups _ new h) (record { blocks = refl; runs = λ c l. (alone_run format r gap c, tt); first = refl })
attached format r gap (g ∷ gs) new h =
    by-test (joins format r g)
    (λ a.
    let j = joins_true format r g a in
    subst (Attached format r gap (g ∷ gs)) (same_groups _ new (rw a at h)) (record {
      blocks = λ i. record { gap = gap; class = sym j.class i; length = sym j.length i } ∷ blocks_in (g ∷ gs);
      runs = λ c l. (longer_run format r gap g j l.0, l.1);
      first = refl;
    }))
    (λ a. by-test (leb (head_gap g) (max_gap format))
    (λ b. subst (Attached format r gap (g ∷ gs)) (same_groups _ new (rw (a, b) at h)) (record {
      blocks = refl;
      runs = λ c l. (alone_run format r gap c, (l.0, leb-true (head_gap g) (max_gap format) b, l.1));
      first = refl;
    }))
    (λ b. let k = rw (a, b) at h in let z : ◌≡◌ {A = ℕ} 0 1 = cc in absurd (omega arith)))
