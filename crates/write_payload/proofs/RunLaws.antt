-- Laws of runs: the first group of a plan is the first run of the rows, and the other groups are the plan of the rows after it.
use mathlib.Core.Path.{◌≡◌, refl, ap, sym, ◌∙◌, subst}
use mathlib.Core.List.{List, [], ◌∷◌}
use mathlib.Core.Bool.{true, cond}
use Prim.Native.Nat.{ℕ, zero, suc, ◌+◌, ◌-◌, ◌*◌, ◌≤◌, ◌<◌}
use native.Mathlib.Omega.{arith}
use native.Mathlib.Nat.{mul-one, mul-suc, le-mul_of_pos_right}
use lib.ListN.{length, get_or, take, drop, length-drop}
use lib.Seq.{drop-drop, get_or-drop}
use lib.Dec.{ltb, leb}
use borrow.Author.Tests.{ltb-true, ltb-false, leb-true}
use Rattle.rtp.specs.Sizes.{row_width}
use Rattle.rtp.proofs.TestLaws.{by-test}
use Rattle.formats.specs.Formats.{step_of, max_gap}
use Rattle.read_contents.specs.Contents.{Group, Contents, refused, groups}
use Rattle.read_rows.specs.Rows.{Row}
use Rattle.frame_codes.specs.Codes.{no_code, code_for}
use Rattle.formats.proofs.FormatLaws.{gap_small}
use Rattle.write_plan.specs.Entries.{part}
use Rattle.write_plan.specs.Lists.{rows_in}
use Rattle.write_plan.specs.Plans.{joins_run, gap_between, head_gap, single, joins, attach, plan_from}
use Rattle.write_plan.specs.Room.{row_as, words_at}
use Rattle.write_payload.specs.Room.{timed, joined, Accepted, block_gaps, run_group, Halves, Near}
use Rattle.write_plan.proofs.ListLaws.{rows_none}
use Rattle.write_plan.proofs.PlanLaws.{joins_true}
use Rattle.write_plan.proofs.BlockLaws.{no_plan, plan_time, starts_code, Block, block_step, attached_some}

-- The two ways in which a frame-block makes the plan of those after it a longer one
data Attached (format : ℕ) (r : Row) (gap : ℕ) (hs : List Group) (g : Group) (gs : List Group) : Type 0 where
  alone : g ≡ single r gap → gs ≡ hs → Near format hs → joined format r (groups hs) ≡ 0 → Attached format r gap hs g gs
  together : (h : Group) → hs ≡ h ∷ gs → joins format r h ≡ true → g ≡ record { class = h.class; length = h.length; gaps = gap ∷ h.gaps } → Attached format r gap hs g gs

attached : (format : ℕ) (r : Row) (gap : ℕ) (hs : List Group) (g : Group) (gs : List Group) → attach format r gap (groups hs) ≡ groups (g ∷ gs) → Attached format r gap hs g gs
attached format r gap [] g gs e = alone (cc) (cc) tt refl
attached format r gap (h ∷ hs) g gs e =
    by-test (joins format r h)
    (λ a.
    let x : groups (record { class = h.class; length = h.length; gaps = gap ∷ h.gaps } ∷ hs) ≡ groups (g ∷ gs) = rw a at e in
    together h (cc) a (cc))
    (λ a. by-test (leb (head_gap h) (max_gap format))
    (λ b.
    let x : groups (single r gap ∷ h ∷ hs) ≡ groups (g ∷ gs) = rw (a, b) at e in
    alone (cc) (cc) (leb-true (head_gap h) (max_gap format) b) (rw a))
    (λ b. absurd (no_plan (rw (a, b) at e))))

-- what the first group has of the frame-block
record First (format : ℕ) (r : Row) (gap : ℕ) (hs : List Group) (g : Group) : Type 0 where
  class : g.class ≡ r.class
  size : g.length ≡ r.length
  head : head_gap g ≡ gap
  blocks : length g.gaps ≡ suc (joined format r (groups hs))

first : (format : ℕ) (r : Row) (gap : ℕ) (hs : List Group) (g : Group) (gs : List Group) → Attached format r gap hs g gs → First format r gap hs g
first format r gap hs g gs (alone a b d z) = record { class = ap (λ (x : Group). x.class) a; size = ap (λ (x : Group). x.length) a; head = ap (λ (x : Group). head_gap x) a; blocks = ap (λ (x : Group). length x.gaps) a ∙ ap suc (sym z) }
first format r gap hs g gs (together h a j b) =
    let t = joins_true format r h j in
    record { class = ap (λ (x : Group). x.class) b ∙ sym t.class; size = ap (λ (x : Group). x.length) b ∙ sym t.length; head = ap (λ (x : Group). head_gap x) b; blocks = ap (λ (x : Group). length x.gaps) b ∙ rw (a, j) }

-- a plan that has a group has a row
pub some_row : (format ch : ℕ) (p : Row) (ws : List ℕ) (g : Group) (gs : List Group) → plan_from format ch 0 p (rows_in ws) ≡ groups (g ∷ gs) → row_width ≤ length ws
unfolding plan_from
some_row format ch p ws g gs h =
    by-test (ltb (length ws) row_width)
    (λ a.
    let x : groups [] ≡ groups (g ∷ gs) = rw (rows_none ws (ltb-true (length ws) row_width a)) at h in
    let z : ◌≡◌ {A = ℕ} 0 1 = cc in absurd (omega arith))
    (λ a. ltb-false (length ws) row_width a)

-- n frame-blocks of one run at the front, after the row p, whose group is g; the other groups are the plan of what follows
pub record Run (format ch : ℕ) (p : Row) (ws : List ℕ) (n : ℕ) (g : Group) (gs : List Group) : Type 0 where
  pub group : g ≡ run_group format (row_width * ch) n p.time ws
  pub some : 0 < n
  pub enough : row_width * ch * n ≤ length ws
  pub coded : code_for format (row_as (words_at ws 0)).class (row_as (words_at ws 0)).length < no_code
  pub near : head_gap g < 16 → Halves g.gaps
  pub rest : plan_from format ch 0 (timed (get_or ws (row_width * ch * n - row_width * ch) 0)) (rows_in (drop (row_width * ch * n) ws)) ≡ groups gs
  pub follows : Near format gs

module _ (format ch : ℕ) (p : Row) (ws : List ℕ) (all : List Group) (b : Block format ch p ws all) (g : Group) (gs : List Group) where
  run_alone : g ≡ single (row_as (words_at ws 0)) (gap_between (step_of format) p.time (get_or ws 0 0)) → gs ≡ b.rest → Near format b.rest → Run format ch p ws 1 g gs
  unfolding block_gaps
  run_alone x y d =
      let w : row_width * ch * 1 ≡ row_width * ch = mul-one (row_width * ch) in
      let z : row_width * ch - row_width * ch ≡ 0 = omega arith in
      record {
        group = x;
        some = omega arith;
        enough = omega (arith, w, b.enough);
        coded = starts_code format p.time (row_as (words_at ws 0)) b.started;
        near = λ q. subst (λ (k : Group). Halves k.gaps) (sym x) (subst (λ (k : Group). head_gap k < 16) x q, tt);
        rest = ap (λ (k : ℕ). plan_from format ch 0 (timed (get_or ws (k - row_width * ch) 0)) (rows_in (drop k ws))) w
            ∙ ap (λ (k : ℕ). plan_from format ch 0 (timed (get_or ws k 0)) (rows_in (drop (row_width * ch) ws))) z
            ∙ plan_time format ch (timed (get_or ws 0 0)) (row_as (words_at ws 0)) (rows_in (drop (row_width * ch) ws)) refl ∙ b.planned ∙ ap groups (sym y);
        follows = subst (λ (k : List Group). Near format k) (sym y) d;
      }

  run_together : (m : ℕ) (h : Group) → joins format (row_as (words_at ws 0)) h ≡ true
      → g ≡ record { class = h.class; length = h.length; gaps = gap_between (step_of format) p.time (get_or ws 0 0) ∷ h.gaps }
      → Run format ch (row_as (words_at ws 0)) (drop (row_width * ch) ws) m h gs → Run format ch p ws (suc m) g gs
  unfolding block_gaps
  run_together m h j x i =
      let t = joins_true format (row_as (words_at ws 0)) h j in
      let w : row_width * ch * suc m ≡ row_width * ch + row_width * ch * m = omega (arith, mul-suc (row_width * ch) m) in
      let v : row_width * ch * suc m - row_width * ch ≡ row_width * ch + (row_width * ch * m - row_width * ch) = omega (arith, w, le-mul_of_pos_right (row_width * ch) i.some) in
      record {
        group = x ∙ (λ k. record { class = sym t.class k; length = sym t.length k; gaps = gap_between (step_of format) p.time (get_or ws 0 0) ∷ (i.group k).gaps });
        some = omega arith;
        enough = omega (arith, w, i.enough, b.enough, length-drop (row_width * ch) ws);
        coded = starts_code format p.time (row_as (words_at ws 0)) b.started;
        near = λ q. subst (λ (k : Group). Halves k.gaps) (sym x) (subst (λ (k : Group). head_gap k < 16) x q, i.near (omega (arith, t.near, gap_small format)));
        rest = ap (λ (k : ℕ). plan_from format ch 0 (timed (get_or ws k 0)) (rows_in (drop (row_width * ch * suc m) ws))) v
            ∙ ap (λ (k : ℕ). plan_from format ch 0 (timed k) (rows_in (drop (row_width * ch * suc m) ws))) (sym (get_or-drop (row_width * ch) ws (row_width * ch * m - row_width * ch) 0))
            ∙ ap (λ (k : List ℕ). plan_from format ch 0 (timed (get_or (drop (row_width * ch) ws) (row_width * ch * m - row_width * ch) 0)) (rows_in k)) (ap (λ (k : ℕ). drop k ws) w ∙ sym (drop-drop (row_width * ch * m) (row_width * ch) ws))
            ∙ i.rest;
        follows = i.follows;
      }

pub run : (n format ch : ℕ) (p : Row) (ws : List ℕ) (g : Group) (gs : List Group) → 0 < ch → length g.gaps ≡ n → plan_from format ch 0 p (rows_in ws) ≡ groups (g ∷ gs) → Run format ch p ws n g gs
run zero format ch p ws g gs l e h =
    let b = block_step format ch p ws (g ∷ gs) l (some_row format ch p ws g gs h) h in
    absurd (omega (arith, (first format (row_as (words_at ws 0)) (gap_between (step_of format) p.time (get_or ws 0 0)) b.rest g gs (attached format (row_as (words_at ws 0)) (gap_between (step_of format) p.time (get_or ws 0 0)) b.rest g gs b.attached)).blocks))
run (suc m) format ch p ws g gs l e h = by_way (attached format (row_as (words_at ws 0)) (gap_between (step_of format) p.time (get_or ws 0 0)) b.rest g gs b.attached) (run m format ch)
  where
    b : Block format ch p ws (g ∷ gs)
    b = block_step format ch p ws (g ∷ gs) l (some_row format ch p ws g gs h) h

    by_way : Attached format (row_as (words_at ws 0)) (gap_between (step_of format) p.time (get_or ws 0 0)) b.rest g gs
        → ((q : Row) (vs : List ℕ) (k : Group) (ks : List Group) → 0 < ch → length k.gaps ≡ m → plan_from format ch 0 q (rows_in vs) ≡ groups (k ∷ ks) → Run format ch q vs m k ks)
        → Run format ch p ws (suc m) g gs
    by_way (alone x y d z) i = subst (λ (k : ℕ). Run format ch p ws k g gs) (sym (ap (λ (k : Group). length k.gaps) x) ∙ e) (run_alone format ch p ws (g ∷ gs) b g gs x y d)
    by_way (together k y j x) i =
        let o : suc (length k.gaps) ≡ suc m = sym (ap (λ (q : Group). length q.gaps) x) ∙ e in
        run_together format ch p ws (g ∷ gs) b g gs m k j x (i (row_as (words_at ws 0)) (drop (row_width * ch) ws) k gs l (omega arith) (b.planned ∙ ap groups y))

-- the first of a run's frame-blocks are such ones, and the rest of the run comes next

pub head_take : (k : ℕ) (l : List ℕ) → get_or (take (suc k) l) 0 0 ≡ get_or l 0 0
head_take k [] = refl
head_take k (x ∷ l) = refl

module _ (format ch : ℕ) (p : Row) (ws : List ℕ) (all : List Group) (b : Block format ch p ws all) (h : Group) (gs : List Group) (y : b.rest ≡ h ∷ gs) (j : joins format (row_as (words_at ws 0)) h ≡ true) where
  part_step : (k : ℕ) → (0 < k → Run format ch (row_as (words_at ws 0)) (drop (row_width * ch) ws) k (part h (take k h.gaps)) (part h (drop k h.gaps) ∷ gs))
      → Run format ch p ws (suc k) (part h (gap_between (step_of format) p.time (get_or ws 0 0) ∷ take k h.gaps)) (part h (drop k h.gaps) ∷ gs)
  part_step zero i =
      let t = joins_true format (row_as (words_at ws 0)) h j in
      run_alone format ch p ws all b (part h (gap_between (step_of format) p.time (get_or ws 0 0) ∷ [])) (h ∷ gs)
      (λ k. record { class = sym t.class k; length = sym t.length k; gaps = gap_between (step_of format) p.time (get_or ws 0 0) ∷ [] })
      (sym y) (subst (λ (k : List Group). Near format k) (sym y) t.near)
  part_step (suc k) i =
      run_together format ch p ws all b (part h (gap_between (step_of format) p.time (get_or ws 0 0) ∷ take (suc k) h.gaps)) (part h (drop (suc k) h.gaps) ∷ gs)
      (suc k) (part h (take (suc k) h.gaps)) (ap (joins_run format (row_as (words_at ws 0)) h.class h.length) (head_take k h.gaps) ∙ j) refl (i (omega arith))

pub run_part : (k format ch : ℕ) (p : Row) (ws : List ℕ) (g : Group) (gs : List Group) → 0 < ch → 0 < k → k < length g.gaps → plan_from format ch 0 p (rows_in ws) ≡ groups (g ∷ gs)
    → Run format ch p ws k (part g (take k g.gaps)) (part g (drop k g.gaps) ∷ gs)
run_part zero format ch p ws g gs l o m h = absurd (omega arith)
run_part (suc k) format ch p ws g gs l o m h = by_way (attached format (row_as (words_at ws 0)) (gap_between (step_of format) p.time (get_or ws 0 0)) b.rest g gs b.attached) (run_part k format ch)
  where
    b : Block format ch p ws (g ∷ gs)
    b = block_step format ch p ws (g ∷ gs) l (some_row format ch p ws g gs h) h

    by_way : Attached format (row_as (words_at ws 0)) (gap_between (step_of format) p.time (get_or ws 0 0)) b.rest g gs
        → ((q : Row) (vs : List ℕ) (e : Group) (es : List Group) → 0 < ch → 0 < k → k < length e.gaps → plan_from format ch 0 q (rows_in vs) ≡ groups (e ∷ es) → Run format ch q vs k (part e (take k e.gaps)) (part e (drop k e.gaps) ∷ es))
        → Run format ch p ws (suc k) (part g (take (suc k) g.gaps)) (part g (drop (suc k) g.gaps) ∷ gs)
    by_way (alone x y d z) i = absurd (omega (arith, ap (λ (e : Group). length e.gaps) x))
    by_way (together e y j x) i =
        let n : length g.gaps ≡ suc (length e.gaps) = ap (λ (v : Group). length v.gaps) x in
        subst (λ (v : Group). Run format ch p ws (suc k) (part v (take (suc k) v.gaps)) (part v (drop (suc k) v.gaps) ∷ gs)) (sym x)
        (part_step format ch p ws (g ∷ gs) b e gs y j k (λ s. i (row_as (words_at ws 0)) (drop (row_width * ch) ws) e gs l s (omega (arith, n)) (b.planned ∙ ap groups y)))

-- The frame-blocks that are in one run with the one before them

pub accepted : (x : Contents) → Accepted x → (gs : List Group) × (x ≡ groups gs)
accepted (refused q) a = absurd a
accepted (groups gs) a = (gs, refl)

accepted_is : (x : Contents) (gs : List Group) → x ≡ groups gs → Accepted x
accepted_is x gs e = subst (λ (y : Contents). Accepted y) (sym e) tt

-- the first group of a plan has the frame-block at the front and those that are in one run with it
pub first_blocks_lem : (format ch : ℕ) (p : Row) (ws : List ℕ) (g : Group) (gs : List Group) → 0 < ch → plan_from format ch 0 p (rows_in ws) ≡ groups (g ∷ gs)
    → length g.gaps ≡ suc (joined format (row_as (words_at ws 0)) (plan_from format ch 0 (row_as (words_at ws 0)) (rows_in (drop (row_width * ch) ws))))
first_blocks_lem format ch p ws g gs l h =
    let b = block_step format ch p ws (g ∷ gs) l (some_row format ch p ws g gs h) h in
    (first format (row_as (words_at ws 0)) (gap_between (step_of format) p.time (get_or ws 0 0)) b.rest g gs (attached format (row_as (words_at ws 0)) (gap_between (step_of format) p.time (get_or ws 0 0)) b.rest g gs b.attached)).blocks ∙ ap (λ (x : Contents). suc (joined format (row_as (words_at ws 0)) x)) (sym b.planned)

module _ (format ch : ℕ) (r : Row) (ws : List ℕ) where
  pub joined_none : length ws < row_width → joined format r (plan_from format ch 0 r (rows_in ws)) ≡ 0
  unfolding plan_from
  joined_none h = rw (rows_none ws h)

  module _ (l : 0 < ch) (a : Accepted (plan_from format ch 0 r (rows_in ws))) where
    pub joined_few : row_width * ch * joined format r (plan_from format ch 0 r (rows_in ws)) ≤ length ws
    joined_few = few (accepted (plan_from format ch 0 r (rows_in ws)) a).0 (accepted (plan_from format ch 0 r (rows_in ws)) a).1
      where
        few : (gs : List Group) → plan_from format ch 0 r (rows_in ws) ≡ groups gs → row_width * ch * joined format r (plan_from format ch 0 r (rows_in ws)) ≤ length ws
        few [] e = rw e (omega arith)
        few (g ∷ gs) e = rw e (by-test (joins format r g) (λ j. rw j (run (length g.gaps) format ch r ws g gs l refl e).enough) (λ j. rw j (omega arith)))

    module _ (h : row_width ≤ length ws) where
      block : Block format ch r ws (accepted (plan_from format ch 0 r (rows_in ws)) a).0
      block = block_step format ch r ws (accepted (plan_from format ch 0 r (rows_in ws)) a).0 l h (accepted (plan_from format ch 0 r (rows_in ws)) a).1

      pub joined_rest : Accepted (plan_from format ch 0 (row_as (words_at ws 0)) (rows_in (drop (row_width * ch) ws)))
      joined_rest = accepted_is _ block.rest block.planned

      pub joined_words : row_width * ch ≤ length ws
      joined_words = block.enough

      pub joined_step : joined format r (plan_from format ch 0 r (rows_in ws))
          ≡ cond (joins_run format r (row_as (words_at ws 0)).class (row_as (words_at ws 0)).length (gap_between (step_of format) r.time (get_or ws 0 0)))
          (suc (joined format (row_as (words_at ws 0)) (plan_from format ch 0 (row_as (words_at ws 0)) (rows_in (drop (row_width * ch) ws))))) 0
      joined_step = step (accepted (plan_from format ch 0 r (rows_in ws)) a).0 (accepted (plan_from format ch 0 r (rows_in ws)) a).1 block.attached
        where
          step : (gs : List Group) → plan_from format ch 0 r (rows_in ws) ≡ groups gs
              → attach format (row_as (words_at ws 0)) (gap_between (step_of format) r.time (get_or ws 0 0)) (groups block.rest) ≡ groups gs
              → joined format r (plan_from format ch 0 r (rows_in ws))
              ≡ cond (joins_run format r (row_as (words_at ws 0)).class (row_as (words_at ws 0)).length (gap_between (step_of format) r.time (get_or ws 0 0)))
              (suc (joined format (row_as (words_at ws 0)) (plan_from format ch 0 (row_as (words_at ws 0)) (rows_in (drop (row_width * ch) ws))))) 0
          step [] e x = absurd (attached_some format (row_as (words_at ws 0)) (gap_between (step_of format) r.time (get_or ws 0 0)) block.rest x)
          step (g ∷ gs) e x =
              let f = first format (row_as (words_at ws 0)) (gap_between (step_of format) r.time (get_or ws 0 0)) block.rest g gs (attached format (row_as (words_at ws 0)) (gap_between (step_of format) r.time (get_or ws 0 0)) block.rest g gs x) in
              ap (joined format r) e ∙ rw (first_blocks_lem format ch r ws g gs l e, f.class, f.size, f.head)

-- the gap before a plan's first frame-block
pub first_gap_lem : (format ch : ℕ) (p : Row) (ws : List ℕ) (g : Group) (gs : List Group) → 0 < ch → plan_from format ch 0 p (rows_in ws) ≡ groups (g ∷ gs) → head_gap g ≡ gap_between (step_of format) p.time (get_or ws 0 0)
first_gap_lem format ch p ws g gs l h =
    let b = block_step format ch p ws (g ∷ gs) l (some_row format ch p ws g gs h) h in
    (first format (row_as (words_at ws 0)) (gap_between (step_of format) p.time (get_or ws 0 0)) b.rest g gs (attached format (row_as (words_at ws 0)) (gap_between (step_of format) p.time (get_or ws 0 0)) b.rest g gs b.attached)).head
