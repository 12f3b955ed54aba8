-- Laws of plans as the code holds them.
use mathlib.Core.Path.{◌≡◌, refl, ap, sym, ◌∙◌}
use Rattle.std.specs.Prelude.{None, Option, Some}
use Rattle.write_plan.specs.declared.planning.Sizes.{Sizes}
use mathlib.Core.List.{List, [], ◌∷◌}
use mathlib.Core.Bool.{true, false, cond}
use Prim.Native.Nat.{ℕ, suc, ◌+◌, ◌*◌, ◌/◌, ◌≤◌, ◌<◌}
use native.Mathlib.Omega.{arith}
use native.Mathlib.Nat.{mul-le-mul_left, mul-le-mul_right, suc-mul, one-mul, add-mul, add-zero}
use lib.ListN.{length, get_or, drop}
use lib.Dec.{ltb, leb, eqb}
use native.Mathlib.Numerals.{add-one}
use borrow.Author.Tests.{lt-ltb, le-ltb, ltb-true, leb-true, eqb-true, eqb-false, eq-eqb, ne_eqb}
use Rattle.rtp.specs.Editions.{Edition, current}
use Rattle.rtp.specs.Sizes.{max_rows, max_frame, row_width}
use Rattle.rtp.proofs.TestLaws.{by-test, not-both, both}
use Rattle.read_contents.specs.Contents.{Group, Contents, refused, groups, size_in, frames_in}
use Rattle.read_rows.specs.Rows.{Row}
use Rattle.write_plan.specs.declared.planning.Plan.{Plan}
use Rattle.formats.specs.Formats.{format_of, step_of, max_gap}
use Rattle.frame_codes.specs.Codes.{no_code, code_for}
use Rattle.formats.proofs.FormatLaws.{header_small}
use Rattle.frame_codes.proofs.CodeLaws.{code_small}
use Rattle.write_plan.specs.Plans.{max_payload, gap_between, starts, head_gap, joins_run, joins, attach, follows, plan_from, plan, next_channel, step_before, fitting}
use Rattle.write_plan.specs.Entries.{entries_of, in_entries}
use Rattle.write_plan.specs.Lists.{rows_in}
use Rattle.write_plan.proofs.ListLaws.{rows_none, rows_more, length_rows}
use Rattle.write_plan.proofs.EntriesLaws.{run_first, run_next, size_entries, frames_entries}
use Rattle.write_plan.specs.Room.{row_as, words_at, run_size, plan_answer, attach_plan, SmallPlan, Small, list_answer}

-- the bytes of a frame-block stay small
pub block_frames : (ch n : ℕ) → ch < 256 → n ≤ max_frame → ch * n ≤ 81600
block_frames ch n c s = let h : ch ≤ 255 = omega arith in omega (arith, mul-le-mul_left ch s, mul-le-mul_right {m = ch} {n = 255} max_frame h)

pub plan_frames : (format ch : ℕ) (p : Plan) → SmallPlan format ch (max_rows current) p → ch < 256 → p.frames ≤ max_rows current * 81600
plan_frames format ch p s c = omega (arith, block_frames ch max_frame c (omega arith), s.framed)

-- a frame-block before a plan, in the plan's numbers

pub record Joins (format : ℕ) (r : Row) (g : Group) : Type 0 where
  pub runs : (format_of format).counted ≡ true
  pub class : r.class ≡ g.class
  pub length : r.length ≡ g.length
  pub near : head_gap g ≤ max_gap format

pub joins_true : (format : ℕ) (r : Row) (g : Group) → joins format r g ≡ true → Joins format r g
joins_true format r g h =
    let a = both (format_of format).counted _ h in
    let b = both (eqb r.class g.class) _ a.1 in
    let d = both (eqb r.length g.length) _ b.1 in
    record { runs = a.0; class = eqb-true r.class g.class b.0; length = eqb-true r.length g.length d.0; near = leb-true (head_gap g) (max_gap format) d.1 }

pub frames_more : (n ch len : ℕ) → suc n * ch * len ≡ ch * len + n * ch * len
frames_more n ch len = rw (suc-mul n ch, add-mul (n * ch) ch len) (omega arith)

pub answer_attach : (format ch : ℕ) (r : Row) (gap : ℕ) (x : Contents) → plan_answer format ch (attach format r gap x) ≡ attach_plan format ch r gap (plan_answer format ch x)
unfolding plan_answer frames_in
answer_attach format ch r gap (refused q) = refl
answer_attach format ch r gap (groups []) = unfold entries_of size_in in rw (one-mul ch, add-zero)
answer_attach format ch r gap (groups (g ∷ gs)) =
    by-test (joins format r g)
    (λ a.
    let n = length g.gaps in
    let f : suc n * ch * g.length + frames_in ch gs ≡ ch * r.length + (n * ch * g.length + frames_in ch gs) =
    rw ((joins_true format r g a).length, frames_more n ch g.length) (omega arith) in
    rw (a, f, add-one n))
    (λ a. by-test (leb (head_gap g) (max_gap format)) (λ b. rw (a, b, size_entries format g gs, one-mul ch)) (λ b. rw (a, b)))

-- Bounds

pub small_more : (format ch n : ℕ) (x : Option (Option Plan)) → Small format ch n x → Small format ch (suc n) x
small_more format ch n (Some (Some p)) s = record { few = omega arith; whole = s.whole; tabled = omega arith; framed = rw suc-mul (omega arith) }
small_more format ch n (Some None) s = tt
small_more format ch n None s = tt

pub small_weaker : (format ch m n : ℕ) (x : Option (Option Plan)) → m ≤ n → Small format ch m x → Small format ch n x
small_weaker format ch m n (Some (Some p)) l s = record { few = omega arith; whole = s.whole; tabled = omega arith; framed = omega (arith, mul-le-mul_right {m = m} {n = n} (ch * max_frame) l) }
small_weaker format ch m n (Some None) l s = tt
small_weaker format ch m n None l s = tt

small_attach : (format ch n : ℕ) (r : Row) (gap : ℕ) (x : Option (Option Plan)) → r.length ≤ max_frame → Small format ch n x → Small format ch (suc n) (attach_plan format ch r gap x)
small_attach format ch n r gap None l s = tt
small_attach format ch n r gap (Some None) l s =
    record { few = omega arith; whole = refl; tabled = omega (arith, run_first format); framed = rw suc-mul (omega (arith, mul-le-mul_left ch l)) }
small_attach format ch n r gap (Some (Some p)) l s =
    by-test (joins_run format r p.class p.length p.gap)
    (λ a. rw a (record {
      few = omega arith;
      whole = refl;
      tabled = omega (arith, run_next format p.blocks, s.whole, s.tabled);
      framed = rw suc-mul (omega (arith, mul-le-mul_left ch l, s.framed));
    }))
    (λ a. by-test (leb p.gap (max_gap format))
    (λ b. rw (a, b) (record {
      few = omega arith;
      whole = refl;
      tabled = omega (arith, run_first format, s.tabled);
      framed = rw suc-mul (omega (arith, mul-le-mul_left ch l, s.framed));
    }))
    (λ b. rw (a, b) tt))

pub starts_short : (format previous : ℕ) (r : Row) → starts format previous r ≡ true → r.length ≤ max_frame
starts_short format previous r h =
    by-test (ltb (code_for format r.class r.length) no_code)
    (λ a. (code_small format r.class r.length (ltb-true (code_for format r.class r.length) no_code a)).short)
    (λ a. absurd (not-both {P = ⊥} false (rw a at h) refl))

pub follows_short : (format c : ℕ) (p r : Row) → c ≡ 0 → follows format c p r ≡ true → r.length ≤ max_frame
follows_short format c p r z h =
    by-test (eqb r.channel c)
    (λ a. starts_short format p.time r (rw (a, eq-eqb c 0 z) at h))
    (λ a. absurd (not-both {P = ⊥} false (rw a at h) refl))

pub small_plan : (format ch c : ℕ) (p : Row) (rs : List Row) → Small format ch (length rs) (plan_answer format ch (plan_from format ch c p rs))
unfolding plan_from
small_plan format ch c p [] = by-test (eqb c 0) (λ a. rw a (unfold plan_answer in tt)) (λ a. rw a (unfold plan_answer in tt))
small_plan format ch c p (r ∷ rs) =
    let ih = small_plan format ch (next_channel ch c) r rs in
    by-test (follows format c p r)
    (λ a. by-test (eqb c 0)
    (λ b. rw (a, b, answer_attach) (small_attach format ch (length rs) r (gap_between (step_of format) p.time r.time) (plan_answer format ch (plan_from format ch (next_channel ch c) r rs)) (follows_short format c p r (eqb-true c 0 b) a) ih))
    (λ b. rw (a, b) (small_more format ch (length rs) (plan_answer format ch (plan_from format ch (next_channel ch c) r rs)) ih)))
    (λ a. rw a (unfold plan_answer in tt))

-- The plan of the rows in a word area, by its first row

pub next_below : (ch c : ℕ) → c < ch → next_channel ch c < ch
next_below ch c h = by-test (eqb (c + 1) ch) (λ a. rw a (omega arith)) (λ a. rw a (omega (arith, eqb-false (c + 1) ch a)))

module _ (format ch c : ℕ) (p : Row) (ws : List ℕ) where
  pub plan_empty : length ws < row_width → c ≡ 0 → plan_answer format ch (plan_from format ch c p (rows_in ws)) ≡ Some None
  unfolding plan_from plan_answer
  plan_empty h z = rw (rows_none ws h, eq-eqb c 0 z)

  pub plan_cut : length ws < row_width → (c ≡ 0 → ⊥) → plan_answer format ch (plan_from format ch c p (rows_in ws)) ≡ None
  unfolding plan_from plan_answer
  plan_cut h z = rw (rows_none ws h, ne_eqb c 0 z)

  module _ (h : row_width ≤ length ws) where
    pub plan_stop : follows format c p (row_as (words_at ws 0)) ≡ false → plan_answer format ch (plan_from format ch c p (rows_in ws)) ≡ None
    unfolding plan_from plan_answer
    plan_stop f = rw (rows_more ws h, f)

    pub plan_start : follows format c p (row_as (words_at ws 0)) ≡ true → c ≡ 0
        → plan_answer format ch (plan_from format ch c p (rows_in ws))
        ≡ attach_plan format ch (row_as (words_at ws 0)) (gap_between (step_of format) p.time (get_or ws 0 0))
        (plan_answer format ch (plan_from format ch (next_channel ch c) (row_as (words_at ws 0)) (rows_in (drop row_width ws))))
    unfolding plan_from
    plan_start f z = rw (rows_more ws h, f, eq-eqb c 0 z) (answer_attach format ch (row_as (words_at ws 0)) _ _)

    pub plan_go : follows format c p (row_as (words_at ws 0)) ≡ true → (c ≡ 0 → ⊥)
        → plan_answer format ch (plan_from format ch c p (rows_in ws)) ≡ plan_answer format ch (plan_from format ch (next_channel ch c) (row_as (words_at ws 0)) (rows_in (drop row_width ws)))
    unfolding plan_from
    plan_go f z = rw (rows_more ws h, f, ne_eqb c 0 z)

    pub plan_none : follows format c p (row_as (words_at ws 0)) ≡ true
        → plan_answer format ch (plan_from format ch (next_channel ch c) (row_as (words_at ws 0)) (rows_in (drop row_width ws))) ≡ None
        → plan_answer format ch (plan_from format ch c p (rows_in ws)) ≡ None
    plan_none f e =
        by-test (eqb c 0)
        (λ b. plan_start f (eqb-true c 0 b) ∙ ap (attach_plan format ch (row_as (words_at ws 0)) _) e)
        (λ b. plan_go f (eqb-false c 0 b) ∙ e)

-- The plan of a whole list

-- `fitting` by the numbers of the first run
abbrev pub fitting_plan : ℕ → Option (Option Plan) → Option Sizes
fitting_plan format None = None
fitting_plan format (Some None) = Some (record { table = 0; payload = (format_of format).header + 0 + 0 })
fitting_plan format (Some (Some p)) =
    let table = p.run + p.others in
    cond (ltb max_payload ((format_of format).header + table + p.frames)) None
    (Some (record { table = table; payload = (format_of format).header + table + p.frames }))

answer_fitting : (format ch : ℕ) (x : Contents) → list_answer format ch (fitting format ch (in_entries x)) ≡ fitting_plan format (plan_answer format ch x)
unfolding plan_answer list_answer
answer_fitting format ch (refused q) = refl
answer_fitting format ch (groups []) = unfold entries_of size_in frames_in in rw (le-ltb max_payload ((format_of format).header + 0 + 0) (omega (arith, header_small format)))
answer_fitting format ch (groups (g ∷ gs)) =
    rw (frames_entries ch (g ∷ gs), size_entries format g gs)
    (by-test (ltb max_payload ((format_of format).header + (run_size format (length g.gaps) + size_in format (entries_of gs)) + frames_in ch (g ∷ gs))) (λ a. rw a)
    (λ a. rw (a, frames_entries ch (g ∷ gs), size_entries format g gs)))

-- no list of no channels has a plan: after its first row none stands at the first channel again
no_channels : (format c : ℕ) (p : Row) (rs : List Row) → (c ≡ 0 → ⊥) → plan_answer format 0 (plan_from format 0 c p rs) ≡ None
unfolding plan_from plan_answer
no_channels format c p [] z = rw (ne_eqb c 0 z)
no_channels format c p (r ∷ rs) z =
    by-test (follows format c p r)
    (λ a. rw (a, ne_eqb c 0 z, ne_eqb (c + 1) 0 (λ x. omega arith)) (no_channels format (c + 1) r rs (λ x. omega arith)))
    (λ a. rw a)

first_channel : (format : ℕ) (p r : Row) (rs : List Row) → plan_answer format 0 (plan_from format 0 0 p (r ∷ rs)) ≡ None
unfolding plan_from
first_channel format p r rs =
    by-test (follows format 0 p r)
    (λ a. rw a (answer_attach format 0 r _ (plan_from format 0 1 r rs) ∙ ap (attach_plan format 0 r _) (no_channels format 1 r rs (λ x. omega arith))))
    (λ a. rw a (unfold plan_answer in refl))

pub no_channels_plan : (ed : Edition) (format ch : ℕ) (rs : List Row) → ch ≡ 0 → list_answer format ch (plan ed format ch rs) ≡ None
unfolding plan
no_channels_plan ed format ch [] z = unfold list_answer in refl
no_channels_plan ed format ch (r ∷ rs) z =
    by-test (ltb (max_rows ed) (length (r ∷ rs)))
    (λ a. rw a (unfold list_answer in refl))
    (λ a. rw (z, a) (answer_fitting format 0 (plan_from format 0 0 (step_before format r) (r ∷ rs)) ∙ ap (fitting_plan format) (first_channel format (step_before format r) r rs)))

module _ (ed : Edition) (format ch : ℕ) (ws : List ℕ) where
  pub list_none : length ws < row_width → list_answer format ch (plan ed format ch (rows_in ws)) ≡ None
  unfolding plan list_answer
  list_none h = rw (rows_none ws h)

  module _ (h : row_width ≤ length ws) where
    pub list_many : max_rows ed < length ws / row_width → list_answer format ch (plan ed format ch (rows_in ws)) ≡ None
    unfolding plan list_answer
    list_many m = rw (rows_more ws h, lt-ltb (max_rows ed) (length (row_as (words_at ws 0) ∷ rows_in (drop row_width ws))) (omega (arith, length_rows ws, ap (λ (l : List Row). length l) (rows_more ws h))))

    pub list_plan : length ws / row_width ≤ max_rows ed → plan ed format ch (rows_in ws) ≡ fitting format ch (in_entries (plan_from format ch 0 (step_before format (row_as (words_at ws 0))) (rows_in ws)))
    unfolding plan
    list_plan m =
        let l : length (row_as (words_at ws 0) ∷ rows_in (drop row_width ws)) ≤ max_rows ed = omega (arith, length_rows ws, ap (λ (l : List Row). length l) (rows_more ws h)) in
        rw (rows_more ws h, le-ltb (max_rows ed) (length (row_as (words_at ws 0) ∷ rows_in (drop row_width ws))) l)

    pub list_answer_lem : length ws / row_width ≤ max_rows ed → (x : Option (Option Plan)) → x ≡ plan_answer format ch (plan_from format ch 0 (step_before format (row_as (words_at ws 0))) (rows_in ws))
        → list_answer format ch (plan ed format ch (rows_in ws)) ≡ fitting_plan format x
    list_answer_lem m x e = ap (list_answer format ch) (list_plan m) ∙ answer_fitting format ch (plan_from format ch 0 (step_before format (row_as (words_at ws 0))) (rows_in ws)) ∙ ap (fitting_plan format) (sym e)
