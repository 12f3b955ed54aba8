-- Laws of frame-blocks: what a plan that is there says of the rows, one frame-block after another.
use Rattle.std.specs.Prelude.{None, Some}
use mathlib.Core.Path.{◌≡◌, refl, ap, sym, ◌∙◌}
use mathlib.Core.List.{List, [], ◌∷◌}
use mathlib.Core.Bool.{true, false, cond}
use Prim.Native.Nat.{ℕ, zero, suc, ◌+◌, ◌-◌, ◌*◌, ◌≤◌, ◌<◌}
use native.Mathlib.Omega.{arith}
use native.Mathlib.Nat.{zero-add, zero-mul, suc-mul, one-mul}
use lib.ListN.{length, get_or, drop, length-drop}
use lib.Seq.{drop-drop, drop-nil}
use lib.Dec.{ltb, leb, eqb}
use borrow.Author.Tests.{ltb-true, ltb-false, eqb-true, eqb-false, eq-eqb, ne_eqb}
use Rattle.rtp.specs.Sizes.{row_width}
use Rattle.rtp.specs.declared.refusal.Fault.{Fault}
use Rattle.rtp.proofs.TestLaws.{by-test, not-both}
use Rattle.formats.specs.Formats.{step_of, max_gap}
use Rattle.read_contents.specs.Contents.{Group, Contents, refused, groups, frames_in}
use Rattle.read_rows.specs.Rows.{Row}
use Rattle.frame_codes.specs.Codes.{no_code, code_for}
use Rattle.write_plan.specs.Lists.{rows_in}
use Rattle.write_plan.specs.Plans.{gap_between, starts, follows, head_gap, joins, attach, plan_from, next_channel}
use Rattle.write_plan.specs.Room.{row_as, words_at, plan_answer, lengths_in}
use Rattle.write_plan.proofs.PlanLaws.{joins_true, frames_more, next_below}
use Rattle.write_plan.proofs.ListLaws.{rows_none, rows_more, length_rows}

pub no_plan : {q : Fault} {gs : List Group} → refused q ≡ groups gs → ⊥
no_plan e = let z : ◌≡◌ {A = ℕ} 0 1 = cc in absurd (omega arith)

-- the rows from the k-th on
pub rows_drop : (k : ℕ) (ws : List ℕ) → rows_in (drop (row_width * k) ws) ≡ drop k (rows_in ws)
rows_drop zero ws = refl
rows_drop (suc k) ws =
    by-test (ltb (length ws) row_width)
    (λ a.
    let h = ltb-true (length ws) row_width a in
    rows_none (drop (row_width * suc k) ws) (simp length-drop (omega arith)) ∙ sym (ap (λ (l : List Row). drop (suc k) l) (rows_none ws h) ∙ drop-nil (suc k)))
    (λ a.
    let s : row_width * suc k ≡ row_width + row_width * k = omega arith in
    let m = rows_more ws (ltb-false (length ws) row_width a) in
    ap (λ (n : ℕ). rows_in (drop n ws)) s ∙ ap rows_in (sym (drop-drop (row_width * k) row_width ws)) ∙ rows_drop k (drop row_width ws) ∙ sym (ap (λ (l : List Row). drop (suc k) l) m))

-- a list's plan depends on the row before it by its time only
pub plan_time : (format ch : ℕ) (p q : Row) (rs : List Row) → p.time ≡ q.time → plan_from format ch 0 p rs ≡ plan_from format ch 0 q rs
unfolding plan_from
plan_time format ch p q [] e = refl
plan_time format ch p q (r ∷ rs) e = rw e

-- One row of a list that has a plan
module _ (format ch c : ℕ) (p r : Row) (rs : List Row) (gs : List Group) (h : plan_from format ch c p (r ∷ rs) ≡ groups gs) where
  pub row_follows : follows format c p r ≡ true
  unfolding plan_from
  row_follows = by-test (follows format c p r) (λ a. a) (λ a. absurd (no_plan (rw a at h)))

  pub row_next : (c ≡ 0 → ⊥) → plan_from format ch (next_channel ch c) r rs ≡ groups gs
  unfolding plan_from
  row_next z = rw (row_follows, ne_eqb c 0 z) at h

  pub row_first : c ≡ 0 → attach format r (gap_between (step_of format) p.time r.time) (plan_from format ch (next_channel ch c) r rs) ≡ groups gs
  unfolding plan_from
  row_first z = rw (row_follows, eq-eqb c 0 z) at h

pub record Continued (p r : Row) : Type 0 where
  pub time : r.time ≡ p.time
  pub class : r.class ≡ p.class
  pub length : r.length ≡ p.length

pub follows_more : (format c : ℕ) (p r : Row) → (c ≡ 0 → ⊥) → follows format c p r ≡ true → Continued p r
follows_more format c p r z h =
    by-test (eqb r.channel c)
    (λ a. by-test (eqb r.time p.time)
    (λ b. by-test (eqb r.class p.class)
    (λ d. by-test (eqb r.length p.length)
    (λ e. record { time = eqb-true r.time p.time b; class = eqb-true r.class p.class d; length = eqb-true r.length p.length e })
    (λ e. not-both false (rw (a, ne_eqb c 0 z, b, d, e) at h) refl))
    (λ d. not-both false (rw (a, ne_eqb c 0 z, b, d) at h) refl))
    (λ b. not-both false (rw (a, ne_eqb c 0 z, b) at h) refl))
    (λ a. not-both false (rw a at h) refl)

pub follows_starts : (format : ℕ) (p r : Row) → follows format 0 p r ≡ true → starts format p.time r ≡ true
follows_starts format p r h = by-test (eqb r.channel 0) (λ a. rw a at h) (λ a. not-both false (rw a at h) refl)

pub starts_code : (format previous : ℕ) (r : Row) → starts format previous r ≡ true → code_for format r.class r.length < no_code
starts_code format previous r h =
    by-test (ltb (code_for format r.class r.length) no_code) (λ a. ltb-true (code_for format r.class r.length) no_code a) (λ a. not-both false (rw a at h) refl)

-- the rest of a frame-block, from channel c on, and the plan of what follows it
pub block_rest : (format ch c : ℕ) (p : Row) (rs : List Row) (gs : List Group) → (c ≡ 0 → ⊥) → c < ch → plan_from format ch c p rs ≡ groups gs
    → (ch - c ≤ length rs) × (plan_from format ch 0 p (drop (ch - c) rs) ≡ groups gs)
unfolding plan_from
block_rest format ch c p [] gs z l h = absurd (no_plan (rw (ne_eqb c 0 z) at h))
block_rest format ch c p (r ∷ rs) gs z l h =
    let t = follows_more format c p r z (row_follows format ch c p r rs gs h) in
    let n = row_next format ch c p r rs gs h z in
    by-test (eqb (c + 1) ch)
    (λ a.
    let e : ch - c ≡ 1 = omega (arith, eqb-true (c + 1) ch a) in
    (omega arith, rw e (plan_time format ch p r rs (sym t.time) ∙ (rw a at n))))
    (λ a.
    let e : ch - c ≡ suc (ch - (c + 1)) = omega (arith, eqb-false (c + 1) ch a) in
    let i = block_rest format ch (c + 1) r rs gs (λ x. omega arith) (omega (arith, eqb-false (c + 1) ch a)) (rw a at n) in
    (omega (arith, i.0), rw e (plan_time format ch p r (drop (ch - (c + 1)) rs) (sym t.time) ∙ i.1)))

-- a frame-block at the front of the words, the plan of what follows it, and how the one makes the plan of the other
pub record Block (format ch : ℕ) (p : Row) (ws : List ℕ) (gs : List Group) : Type 0 where
  pub started : starts format p.time (row_as (words_at ws 0)) ≡ true
  pub enough : row_width * ch ≤ length ws
  pub rest : List Group
  pub planned : plan_from format ch 0 (row_as (words_at ws 0)) (rows_in (drop (row_width * ch) ws)) ≡ groups rest
  pub attached : attach format (row_as (words_at ws 0)) (gap_between (step_of format) p.time (get_or ws 0 0)) (groups rest) ≡ groups gs

-- the rows of the first frame-block after its first one
next_rest : (format ch : ℕ) (r : Row) (rs : List Row) (gs : List Group) → 0 < ch → plan_from format ch (next_channel ch 0) r rs ≡ groups gs
    → (ch - 1 ≤ length rs) × (plan_from format ch 0 r (drop (ch - 1) rs) ≡ groups gs)
next_rest format ch r rs gs l h =
    by-test (eqb (0 + 1) ch)
    (λ a.
    let e : ch - 1 ≡ 0 = omega (arith, eqb-true (0 + 1) ch a) in
    (omega arith, rw e (rw a at h)))
    (λ a. block_rest format ch 1 r rs gs (λ x. omega arith) (omega (arith, eqb-false (0 + 1) ch a)) (rw a at h))

pub block_step : (format ch : ℕ) (p : Row) (ws : List ℕ) (gs : List Group) → 0 < ch → row_width ≤ length ws → plan_from format ch 0 p (rows_in ws) ≡ groups gs → Block format ch p ws gs
block_step format ch p ws gs l w h = made (plan_from format ch (next_channel ch 0) r rs) refl (row_first format ch 0 p r rs gs whole refl)
  where
    r : Row
    r = row_as (words_at ws 0)

    rs : List Row
    rs = rows_in (drop row_width ws)

    whole : plan_from format ch 0 p (r ∷ rs) ≡ groups gs
    whole = rw (rows_more ws w) at h

    made : (x : Contents) → plan_from format ch (next_channel ch 0) r rs ≡ x → attach format r (gap_between (step_of format) p.time r.time) x ≡ groups gs → Block format ch p ws gs
    made (refused q) e a = absurd (no_plan a)
    made (groups hs) e a =
        let n = next_rest format ch r rs hs l e in
        let s : row_width + row_width * (ch - 1) ≡ row_width * ch = omega arith in
        record {
          started = follows_starts format p r (row_follows format ch 0 p r rs gs whole);
          enough = omega (arith, n.0, length_rows (drop row_width ws), length-drop row_width ws);
          rest = hs;
          planned = ap (λ (k : ℕ). plan_from format ch 0 r (rows_in (drop k ws))) (sym s) ∙ ap (λ (k : List ℕ). plan_from format ch 0 r (rows_in k)) (sym (drop-drop (row_width * (ch - 1)) row_width ws)) ∙ ap (plan_from format ch 0 r) (rows_drop (ch - 1) (drop row_width ws)) ∙ n.1;
          attached = a;
        }

pub attached_some : (format : ℕ) (r : Row) (gap : ℕ) (hs : List Group) → attach format r gap (groups hs) ≡ groups [] → ⊥
attached_some format r gap [] e = let z : ◌≡◌ {A = ℕ} 0 1 = cc in absurd (omega arith)
attached_some format r gap (h ∷ hs) e =
    by-test (joins format r h)
    (λ a. no_more (rw a at e))
    (λ a. by-test (leb (head_gap h) (max_gap format)) (λ b. no_more (rw (a, b) at e)) (λ b. no_plan (rw (a, b) at e)))
  where
    no_more : {g : Group} {gs : List Group} → groups (g ∷ gs) ≡ groups [] → ⊥
    no_more e = let z : ◌≡◌ {A = ℕ} 0 1 = cc in absurd (omega arith)

-- a plan of a list that has a row has a group
pub some_group : (format ch : ℕ) (p : Row) (ws : List ℕ) → 0 < ch → row_width ≤ length ws → plan_from format ch 0 p (rows_in ws) ≡ groups [] → ⊥
some_group format ch p ws l h e = let b = block_step format ch p ws [] l h e in attached_some format (row_as (words_at ws 0)) (gap_between (step_of format) p.time (get_or ws 0 0)) b.rest b.attached

pub never_empty : (format ch : ℕ) (p : Row) (ws : List ℕ) → 0 < ch → row_width ≤ length ws → plan_answer format ch (plan_from format ch 0 p (rows_in ws)) ≡ Some None → ⊥
never_empty format ch p ws l h e = by_plan (plan_from format ch 0 p (rows_in ws)) refl e
  where
    by_plan : (x : Contents) → plan_from format ch 0 p (rows_in ws) ≡ x → plan_answer format ch x ≡ Some None → ⊥
    by_plan (refused q) x y = let z : ◌≡◌ {A = ℕ} 0 1 = unfold plan_answer in cc in absurd (omega arith)
    by_plan (groups []) x y = some_group format ch p ws l h x
    by_plan (groups (g ∷ gs)) x y = let z : ◌≡◌ {A = ℕ} 0 1 = unfold plan_answer in cc in absurd (omega arith)

-- The frames of a list take the bytes that its plan says

abbrev frames_of : ℕ → Contents → ℕ
frames_of ch (refused q) = 0
frames_of ch (groups gs) = frames_in ch gs

frames_attach : (format ch : ℕ) (r : Row) (gap : ℕ) (hs gs : List Group) → attach format r gap (groups hs) ≡ groups gs → frames_in ch gs ≡ ch * r.length + frames_in ch hs
unfolding frames_in
frames_attach format ch r gap [] gs h = sym (ap (frames_of ch) h) ∙ rw one-mul
frames_attach format ch r gap (g ∷ hs) gs h =
    by-test (joins format r g)
    (λ a. sym (ap (frames_of ch) (rw a at h)) ∙ rw ((joins_true format r g a).length, frames_more (length g.gaps) ch g.length) (omega arith))
    (λ a. by-test (leb (head_gap g) (max_gap format)) (λ b. sym (ap (frames_of ch) (rw (a, b) at h)) ∙ rw one-mul) (λ b. absurd (no_plan (rw (a, b) at h))))

-- what is left of a frame-block at channel c, in bytes
abbrev block_left : ℕ → ℕ → ℕ → ℕ
block_left ch c n = cond (eqb c 0) 0 ((ch - c) * n)

left_next : (ch c n k : ℕ) → ch - c ≡ suc k → block_left ch (next_channel ch c) n ≡ k * n
left_next ch c n k h =
    by-test (eqb (c + 1) ch)
    (λ a. let z : k ≡ 0 = omega (arith, eqb-true (c + 1) ch a) in rw (a, z, zero-mul n))
    (λ a. let e : ch - (c + 1) ≡ k = omega (arith, eqb-false (c + 1) ch a) in rw (a, ne_eqb (c + 1) 0 (λ x. omega arith), e))

pub frames_from_lem : (format ch c : ℕ) (p : Row) (rs : List Row) (gs : List Group) → c < ch → plan_from format ch c p rs ≡ groups gs
    → lengths_in rs ≡ block_left ch c p.length + frames_in ch gs
unfolding plan_from lengths_in frames_in
frames_from_lem format ch c p [] gs l h =
    by-test (eqb c 0) (λ a. let e : 0 ≡ frames_in ch gs = ap (frames_of ch) (rw a at h) in rw a (omega arith)) (λ a. absurd (no_plan (rw a at h)))
frames_from_lem format ch c p (r ∷ rs) gs l h =
    let k = ch - c - 1 in
    let e : ch - c ≡ suc k = omega arith in
    let i : (hs : List Group) → plan_from format ch (next_channel ch c) r rs ≡ groups hs → lengths_in rs ≡ k * r.length + frames_in ch hs =
    λ hs x. frames_from_lem format ch (next_channel ch c) r rs hs (next_below ch c l) x ∙ ap (λ (n : ℕ). n + frames_in ch hs) (left_next ch c r.length k e) in
    by-test (eqb c 0)
    (λ a. first k e i a (plan_from format ch (next_channel ch c) r rs) refl (row_first format ch c p r rs gs h (eqb-true c 0 a)))
    (λ a.
    let t = follows_more format c p r (eqb-false c 0 a) (row_follows format ch c p r rs gs h) in
    rw (a, e, suc-mul k p.length) (omega (arith, i gs (row_next format ch c p r rs gs h (eqb-false c 0 a)), t.length, ap (λ (n : ℕ). k * n) t.length)))
  where
    first : (k : ℕ) → ch - c ≡ suc k → ((hs : List Group) → plan_from format ch (next_channel ch c) r rs ≡ groups hs → lengths_in rs ≡ k * r.length + frames_in ch hs)
        → eqb c 0 ≡ true → (x : Contents) → plan_from format ch (next_channel ch c) r rs ≡ x → attach format r (gap_between (step_of format) p.time r.time) x ≡ groups gs
        → r.length + lengths_in rs ≡ block_left ch c p.length + frames_in ch gs
    first k e i a (refused q) x y = absurd (no_plan y)
    first k e i a (groups hs) x y =
        let z : ch ≡ suc k = omega (arith, eqb-true c 0 a) in
        rw a (omega (arith, i hs x, frames_attach format ch r _ hs gs y, ap (λ (n : ℕ). n * r.length) z, suc-mul k r.length))

pub frames_all : (format ch : ℕ) (p : Row) (rs : List Row) (gs : List Group) → 0 < ch → plan_from format ch 0 p rs ≡ groups gs → lengths_in rs ≡ frames_in ch gs
frames_all format ch p rs gs l h = frames_from_lem format ch 0 p rs gs l h ∙ zero-add (frames_in ch gs)
