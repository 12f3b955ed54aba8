-- Laws of a table of contents, written entry by entry.
use mathlib.Core.Path.{◌≡◌, refl, ap, sym, ◌∙◌, subst}
use mathlib.Core.List.{List, [], ◌∷◌}
use mathlib.Core.Bool.{Bool}
use Prim.Native.Nat.{ℕ, suc, ◌+◌, ◌-◌, ◌*◌, ◌≤◌, ◌<◌}
use native.Mathlib.Omega.{arith}
use native.Mathlib.Nat.{mul-le-mul_right}
use lib.ListN.{length, get_or, take, drop, length-drop}
use lib.Dec.{leb}
use borrow.Author.Tests.{leb-true, leb-false, le-leb}
use borrow.Rule.Slice.PartMut.{put_mid}
use Rattle.rtp.specs.Editions.{Edition}
use Rattle.rtp.specs.Sizes.{max_rows, row_width}
use Rattle.rtp.specs.Areas.{over}
use Rattle.rtp.proofs.TestLaws.{by-test}
use Rattle.rtp.proofs.AreaLaws.{over_none, over_part}
use Rattle.formats.specs.Formats.{step_of, max_gap}
use Rattle.read_contents.specs.Contents.{Group, Contents, refused, groups, entry_size, size_in}
use Rattle.read_rows.specs.Rows.{Row}
use Rattle.formats.proofs.FormatLaws.{gap_small}
use Rattle.write_plan.specs.Lists.{rows_in}
use Rattle.write_plan.specs.Entries.{max_blocks, first_part, first_blocks, part, entries_of, in_entries}
use Rattle.write_plan.specs.Plans.{head_gap, plan_from}
use Rattle.write_payload.specs.Bytes.{entry_bytes, table_bytes}
use Rattle.write_plan.specs.Room.{row_as, words_at}
use Rattle.write_payload.specs.Room.{timed, joined, Accepted, RunRoom, run_group, Halves, EntryRoom, PlanRoom, TableRoom, plan_bytes}
use Rattle.write_plan.proofs.ListLaws.{rows_none}
use Rattle.write_plan.proofs.EntriesLaws.{entries_one, entries_two, run_one, run_two, size_entries}
use Rattle.write_plan.proofs.BlockLaws.{some_group}
use Rattle.write_payload.proofs.RunLaws.{some_row, Run, run, head_take, run_part, first_blocks_lem, joined_few, joined_rest, joined_words}
use Rattle.write_payload.proofs.GapLaws.{length_gaps}
use Rattle.write_payload.proofs.EntryLaws.{length_entry, follow, follow_entries, table_more}

-- another entry follows where there is another row
pub follow_is : (format ch : ℕ) (p : Row) (ws : List ℕ) (gs : List Group) → 0 < ch → plan_from format ch 0 p (rows_in ws) ≡ groups gs → leb row_width (length ws) ≡ follow gs
follow_is format ch p ws [] l e = by-test (leb row_width (length ws)) (λ a. absurd (some_group format ch p ws l (leb-true row_width (length ws) a) e)) (λ a. a)
follow_is format ch p ws (g ∷ gs) l e = le-leb row_width (length ws) (some_row format ch p ws g gs e)

-- the first entry, of n frame-blocks, what it has room for, and the runs of what follows it
pub record Entered (ed : Edition) (format ch p : ℕ) (ws : List ℕ) (area n : ℕ) : Type 0 where
  pub others : List Group
  pub planned : in_entries (plan_from format ch 0 (timed p) (rows_in ws)) ≡ groups (run_group format (row_width * ch) n p ws ∷ entries_of others)
  pub entry : EntryRoom format (row_width * ch) n p ws area
  pub some : 0 < n
  pub after : plan_from format ch 0 (timed (get_or ws (row_width * ch * n - row_width * ch) 0)) (rows_in (drop (row_width * ch * n) ws)) ≡ groups others
  pub rest : TableRoom ed format ch (get_or ws (row_width * ch * n - row_width * ch) 0) (drop (row_width * ch * n) ws) (area - entry_size format n)

module _ (ed : Edition) (format ch p : ℕ) (ws : List ℕ) (area : ℕ) (r : TableRoom ed format ch p ws area) (h : row_width ≤ length ws) where
  accepted_at : (x : Contents) → PlanRoom format area x → Accepted x
  accepted_at (refused q) a = a
  accepted_at (groups gs) a = tt

  pub first_words_lem : row_width * ch ≤ length ws
  first_words_lem = joined_words format ch (timed p) ws r.some (accepted_at (plan_from format ch 0 (timed p) (rows_in ws)) r.planned) h

  pub first_run : RunRoom format ch (row_as (words_at ws 0)) (drop (row_width * ch) ws)
  first_run = record { some = r.some; channels = r.channels; planned = joined_rest format ch (timed p) ws r.some (accepted_at (plan_from format ch 0 (timed p) (rows_in ws)) r.planned) h }

  pub few_blocks : (n : ℕ) → n ≡ suc (joined format (row_as (words_at ws 0)) (plan_from format ch 0 (row_as (words_at ws 0)) (rows_in (drop (row_width * ch) ws)))) → n ≤ max_rows ed
  few_blocks n e =
      let k = joined format (row_as (words_at ws 0)) (plan_from format ch 0 (row_as (words_at ws 0)) (rows_in (drop (row_width * ch) ws))) in
      let w : 4 * k ≤ row_width * ch * k = mul-le-mul_right {m = 4} {n = row_width * ch} k (omega (arith, r.some)) in
      omega (arith, w, joined_few format ch (row_as (words_at ws 0)) (drop (row_width * ch) ws) r.some first_run.planned, length-drop (row_width * ch) ws, first_words_lem, r.few, r.some)

  of_entry : (n : ℕ) (g : Group) (gs : List Group) → in_entries (plan_from format ch 0 (timed p) (rows_in ws)) ≡ groups (g ∷ entries_of gs) → n ≤ max_blocks → head_gap g ≤ max_gap format
      → entry_size format n + size_in format (entries_of gs) ≤ area → Run format ch (timed p) ws n g gs → Entered ed format ch p ws area n
  of_entry n g gs x few near s u =
      record {
        others = gs;
        planned = x ∙ ap (λ (k : Group). groups (k ∷ entries_of gs)) u.group;
        entry = record {
          row = h;
          coded = u.coded;
          wide = omega (arith, r.some);
          words = u.enough;
          small = subst (λ (k : Group). Halves k.gaps) u.group (u.near (omega (arith, near, gap_small format)));
          few = omega (arith, few);
          room = omega (arith, s);
        };
        some = u.some;
        after = u.rest;
        rest = record {
          some = r.some;
          channels = r.channels;
          few = omega (arith, r.few, length-drop (row_width * ch * n) ws);
          planned = subst (λ (k : Contents). PlanRoom format (area - entry_size format n) k) (sym u.rest) (u.follows, omega (arith, s));
        };
      }

  module _ (g : Group) (gs : List Group) (x : plan_from format ch 0 (timed p) (rows_in ws) ≡ groups (g ∷ gs)) (a : PlanRoom format area (groups (g ∷ gs))) where
    -- a run that one entry counts
    one_entry : length g.gaps ≤ max_blocks → Entered ed format ch p ws area (length g.gaps)
    one_entry m =
        let s = size_entries format g gs in
        let z = run_one format (length g.gaps) m in
        of_entry (length g.gaps) g gs (ap in_entries x ∙ ap groups (entries_one g gs m)) m a.0 (omega (arith, a.1, s, z)) (run (length g.gaps) format ch (timed p) ws g gs r.some refl x)

    -- a longer one: one entry counts the rest of it
    two_entries : max_blocks < length g.gaps → Entered ed format ch p ws area first_part
    two_entries m =
        let n = length g.gaps in
        let u = run n format ch (timed p) ws g gs r.some refl x in
        let w : 4 * n ≤ row_width * ch * n = mul-le-mul_right {m = 4} {n = row_width * ch} n (omega (arith, r.some)) in
        let later = part g (drop first_part g.gaps) in
        let d = length-drop first_part g.gaps in
        let few : length later.gaps ≤ max_blocks = omega (arith, w, u.enough, r.few, d) in
        let s = size_entries format g gs in
        let z = run_two format n m in
        let y = size_entries format later gs in
        let v = run_one format (length later.gaps) few in
        let k = ap (entry_size format) d in
        of_entry first_part (part g (take first_part g.gaps)) (later ∷ gs)
        (ap in_entries x ∙ ap groups (entries_two g gs m ∙ ap (λ (l : List Group). part g (take first_part g.gaps) ∷ l) (sym (entries_one later gs few))))
        (omega arith) (omega (arith, a.0, head_take 253 g.gaps)) (omega (arith, a.1, s, z, y, v, k)) (run_part first_part format ch (timed p) ws g gs r.some (omega arith) (omega (arith, m)) x)

    entered_by : Entered ed format ch p ws area (first_blocks (length g.gaps))
    entered_by =
        by-test (leb (length g.gaps) max_blocks)
        (λ t. rw t (one_entry (leb-true (length g.gaps) max_blocks t)))
        (λ t. rw t (two_entries (leb-false (length g.gaps) max_blocks t)))

  pub entered : (n : ℕ) → n ≡ suc (joined format (row_as (words_at ws 0)) (plan_from format ch 0 (row_as (words_at ws 0)) (rows_in (drop (row_width * ch) ws)))) → Entered ed format ch p ws area (first_blocks n)
  entered n e = by_plan (plan_from format ch 0 (timed p) (rows_in ws)) refl r.planned
    where
      by_plan : (x : Contents) → plan_from format ch 0 (timed p) (rows_in ws) ≡ x → PlanRoom format area x → Entered ed format ch p ws area (first_blocks n)
      by_plan (refused q) x a = absurd a
      by_plan (groups []) x a = absurd (some_group format ch (timed p) ws r.some h x)
      by_plan (groups (g ∷ gs)) x a = subst (λ (k : ℕ). Entered ed format ch p ws area (first_blocks k)) (first_blocks_lem format ch (timed p) ws g gs r.some x ∙ sym e) (entered_by g gs x a)

-- Written entry by entry

module _ (ed : Edition) (format ch p : ℕ) (ws l : List ℕ) where
  pub put_no_run : length ws < row_width → l ≡ over (plan_bytes format (in_entries (plan_from format ch 0 (timed p) (rows_in ws)))) l
  unfolding plan_from entries_of plan_bytes table_bytes
  put_no_run h = rw (rows_none ws h) (sym (over_none l))

  pub put_run : (n area : ℕ) (d : Entered ed format ch p ws area n) → 0 < ch → (m : List ℕ)
      → m ≡ over (entry_bytes format (leb row_width (length ws - row_width * ch * n)) (run_group format (row_width * ch) n p ws)) l → (size : ℕ) → size ≡ entry_size format n → (z : List ℕ)
      → z ≡ over (plan_bytes format (in_entries (plan_from format ch 0 (timed (get_or ws (row_width * ch * n - row_width * ch) 0)) (rows_in (drop (row_width * ch * n) ws))))) (take (length m - size) (drop size m))
      → put_mid size (length m - size) m z ≡ over (plan_bytes format (in_entries (plan_from format ch 0 (timed p) (rows_in ws)))) l
  unfolding plan_bytes
  put_run n area d c m w size s z q =
      let g = run_group format (row_width * ch) n p ws in
      let os = entries_of d.others in
      let f : leb row_width (length ws - row_width * ch * n) ≡ follow os =
      ap (leb row_width) (sym (length-drop (row_width * ch * n) ws)) ∙ follow_is format ch (timed (get_or ws (row_width * ch * n - row_width * ch) 0)) (drop (row_width * ch * n) ws) d.others c d.after
      ∙ sym (follow_entries d.others) in
      over_part (entry_bytes format (follow os) g) (table_bytes format os) l m z size
      (length_entry format (follow os) g ∙ ap (entry_size format) (length_gaps (step_of format) (row_width * ch) n p ws) ∙ sym s)
      (w ∙ ap (λ (b : Bool). over (entry_bytes format b g) l) f)
      (q ∙ ap (λ (x : Contents). over (plan_bytes format (in_entries x)) (take (length m - size) (drop size m))) d.after)
      ∙ ap (λ (b : List ℕ). over b l) (sym (table_more format g os))
      ∙ ap (λ (x : Contents). over (plan_bytes format x) l) (sym d.planned)
