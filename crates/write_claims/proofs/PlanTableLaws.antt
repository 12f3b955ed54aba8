-- Laws of the plan of a whole list: it is a table that says the list, it is refused as unwritable alone, and where a table says the list there is one.
use mathlib.Core.Path.{◌≡◌, refl, ap, sym, ◌∙◌, subst}
use mathlib.Core.List.{List, [], ◌∷◌}
use mathlib.Core.Bool.{Bool, true, false, cond}
use Prim.Native.Nat.{ℕ, ◌^◌, ◌≤◌, ◌<◌}
use native.Mathlib.Omega.{arith}
use native.Mathlib.Nat.{mod-lt, le-mul_of_pos_right}
use lib.ListN.{length}
use lib.Dec.{ltb, leb, eqb}
use borrow.Author.Tests.{le-ltb, ltb-false, eq-eqb}
use Rattle.rtp.specs.Editions.{Edition}
use Rattle.rtp.specs.Sizes.{max_rows}
use Rattle.formats.specs.Formats.{step_of, max_gap}
use Rattle.read_contents.specs.Contents.{Group, Contents, refused, groups, row_count, frames_in}
use Rattle.read_rows.specs.Rows.{Row, table_rows}
use Rattle.read_payload.proofs.PayloadLaws.{length_table}
use Rattle.write_plan.specs.Entries.{entries_of, in_entries}
use Rattle.write_plan.specs.Plans.{max_payload, unwritable, gap_between, next_channel, follows, joins, head_gap, attach, plan_from, step_before, payload_size, fitting, plan}
use Rattle.write_plan.specs.Lists.{first_time}
use Rattle.write_plan.specs.Room.{lengths_in}
use Rattle.write_plan.proofs.EntriesLaws.{frames_entries}
use Rattle.write_payload.proofs.PayloadLaws.{fitted, in_runs}
use Rattle.write_claims.proofs.TableBackLaws.{Runs, Counts}
use Rattle.write_claims.proofs.TableBlockLaws.{blocks_in, table_blocks, table_frames}
use Rattle.write_claims.proofs.FrameLaws.{plains, lengths_plains, length_plains}
use Rattle.write_claims.proofs.AttachLaws.{Later, first_gap}
use Rattle.write_claims.proofs.RunEntryLaws.{rows_entries, first_entries, runs_entries, counts_entries}
use Rattle.write_claims.proofs.ShortestLaws.{shortest}
use Rattle.write_claims.proofs.TickLaws.{next, first}
use Rattle.write_claims.proofs.PlanBlockLaws.{plan_plain, fit_runs, plan_blocks}
use Rattle.write_claims.proofs.PlanRowLaws.{block_plains, plain_blocks, begun, Times, Planned, planned}

-- The only refusal

abbrev pub Only : Contents → Type 0
Only (refused q) = q ≡ unwritable
Only (groups gs) = Unit {0}

only_either : (t : Bool) (x y : Contents) → Only x → Only y → Only (cond t x y)
only_either true x y a b = a
only_either false x y a b = b

only_attach : (format : ℕ) (r : Row) (gap : ℕ) (x : Contents) → Only x → Only (attach format r gap x)
only_attach format r gap (refused q) h = h
only_attach format r gap (groups []) h = tt
only_attach format r gap (groups (g ∷ gs)) h = only_either (joins format r g) (groups _) _ tt (only_either (leb (head_gap g) (max_gap format)) (groups _) (refused unwritable) tt refl)

only_from : (format ch c : ℕ) (p : Row) (rs : List Row) → Only (plan_from format ch c p rs)
unfolding plan_from
only_from format ch c p [] = only_either (eqb c 0) (groups []) (refused unwritable) tt refl
only_from format ch c p (r ∷ rs) =
    let x = plan_from format ch (next_channel ch c) r rs in
    let o = only_from format ch (next_channel ch c) r rs in
    let gap = gap_between (step_of format) p.time r.time in
    only_either (follows format c p r) (cond (eqb c 0) (attach format r gap x) x) (refused unwritable) (only_either (eqb c 0) (attach format r gap x) x (only_attach format r gap x o) o) refl

only_fitting : (format ch : ℕ) (x : Contents) → Only x → Only (fitting format ch (in_entries x))
only_fitting format ch (refused q) h = h
only_fitting format ch (groups gs) h = only_either (ltb max_payload (payload_size format ch (entries_of gs))) (refused unwritable) (groups (entries_of gs)) refl tt

pub only_plan : (ed : Edition) (format ch : ℕ) (rs : List Row) → Only (plan ed format ch rs)
unfolding plan
only_plan ed format ch [] = refl
only_plan ed format ch (r ∷ rs) =
    let x = plan_from format ch 0 (step_before format r) (r ∷ rs) in
    only_either (ltb (max_rows ed) (length (r ∷ rs))) (refused unwritable) (fitting format ch (in_entries x)) refl
    (only_fitting format ch x (only_from format ch 0 (step_before format r) (r ∷ rs)))

-- The rows of a plan

planned_whole : (format ch : ℕ) (p : Row) (rs : List Row) (gs : List Group) → 1 ≤ ch → p.time < 2 ^ 32 → Times rs → plan_from format ch 0 p rs ≡ groups gs → Planned format ch 0 ch p rs gs
planned_whole format ch p rs gs some t ts h = planned format ch some 0 ch p rs gs some (omega arith) t ts (rw (eq-eqb ch ch refl) h)

planned_rows : (format ch start : ℕ) (p : Row) (rs : List Row) (gs : List Group) → Planned format ch 0 ch p rs gs
    → plains rs ≡ plains (table_rows (step_of format) ch (next (step_of format) p.time) start gs)
unfolding block_plains
planned_rows format ch start p rs gs k =
    let step = step_of format in
    k.rows ∙ sym (plain_blocks step ch (next step p.time) start (blocks_in gs)) ∙ ap plains (sym (table_blocks step ch (next step p.time) start gs))

-- a table that says a list, within a payload
pub record Tabled (ed : Edition) (format ch : ℕ) (rs : List Row) (gs : List Group) : Type 0 where
  pub rows : (start : ℕ) → plains rs ≡ plains (table_rows (step_of format) ch (first_time rs) start gs)
  pub runs : Runs format gs
  pub first : first_gap gs ≡ 0
  pub some : 1 ≤ length gs
  pub few : row_count ch gs ≤ max_rows ed
  pub counts : Counts gs
  pub fits : payload_size format ch gs ≤ max_payload

pub passed : (t : Bool) (x : Contents) (gs : List Group) → cond t (refused unwritable) x ≡ groups gs → (t ≡ false) × (x ≡ groups gs)
passed true x gs h = let z : ◌≡◌ {A = ℕ} 0 1 = cc in absurd (omega arith)
passed false x gs h = (refl, h)

runs_first : (format : ℕ) (gs : List Group) → Later format gs → first_gap gs ≡ 0 → Runs format gs
runs_first format [] l f = tt
runs_first format (g ∷ gs) l f = (l.0, omega arith, l.1)

-- a table that says a row is not empty
some_group : (step ch time start : ℕ) (r : Row) (rs : List Row) (gs : List Group) → plains (r ∷ rs) ≡ plains (table_rows step ch time start gs) → 1 ≤ length gs
unfolding table_rows
some_group step ch time start r rs [] h = let z : ◌≡◌ {A = ℕ} 0 1 = cc in absurd (omega arith)
some_group step ch time start r rs (g ∷ gs) h = omega arith

-- as many rows as the table says
rows_same : (step ch time start : ℕ) (rs : List Row) (gs : List Group) → plains rs ≡ plains (table_rows step ch time start gs) → length rs ≡ row_count ch gs
rows_same step ch time start rs gs h =
    sym (length_plains rs) ∙ ap (λ (l : List Row). length l) h ∙ length_plains (table_rows step ch time start gs) ∙ length_table step ch time start gs

-- and as many bytes of frames
pub frames_same : (step ch time start : ℕ) (rs : List Row) (gs : List Group) → plains rs ≡ plains (table_rows step ch time start gs) → lengths_in rs ≡ frames_in ch gs
frames_same step ch time start rs gs h = sym (lengths_plains rs) ∙ ap lengths_in h ∙ lengths_plains (table_rows step ch time start gs) ∙ table_frames step ch time start gs

pub plan_table : (ed : Edition) (format ch : ℕ) (rs : List Row) (gs : List Group) → 1 ≤ ch → Times rs → plan ed format ch rs ≡ groups gs → Tabled ed format ch rs gs
unfolding plan
plan_table ed format ch [] gs some ts h = let z : ◌≡◌ {A = ℕ} 0 1 = cc in absurd (omega arith)
plan_table ed format ch (r ∷ rs) gs some ts h =
    let step = step_of format in
    let q = step_before format r in
    let a = passed (ltb (max_rows ed) (length (r ∷ rs))) _ gs h in
    let b = fitted format ch _ gs a.1 in
    let i = in_runs _ gs b.0 in
    let os = entries_of i.runs in
    let t : q.time < 2 ^ 32 = mod-lt _ (omega arith) in
    let f = first format r.time ts.0 in
    let k = planned_whole format ch q (r ∷ rs) i.runs some t ts i.planned in
    let l = planned_rows format ch 0 q (r ∷ rs) i.runs k in
    let n : length (r ∷ rs) ≤ max_rows ed = ltb-false (max_rows ed) (length (r ∷ rs)) a.0 in
    let g = (begun format ch q r rs i.runs i.planned).put.first ∙ f.gap in
    let rows : (start : ℕ) → plains (r ∷ rs) ≡ plains (table_rows step ch r.time start os) =
    λ start. planned_rows format ch start q (r ∷ rs) i.runs k ∙ ap (λ (x : ℕ). plains (table_rows step ch x start i.runs)) f.place ∙ ap plains (sym (rows_entries step ch r.time start i.runs)) in
    subst (Tabled ed format ch (r ∷ rs)) (sym i.entries) (record {
      rows = rows;
      runs = runs_entries format i.runs (runs_first format i.runs k.runs g);
      first = first_entries i.runs ∙ g;
      some = some_group step ch r.time 0 r rs os (rows 0);
      few = omega (arith, rows_same step ch r.time 0 (r ∷ rs) os (rows 0), n);
      counts = counts_entries ed ch i.runs some (omega (arith, rows_same step ch (next step q.time) 0 (r ∷ rs) i.runs l, n));
      fits = subst (λ (x : List Group). payload_size format ch x ≤ max_payload) i.entries b.1;
    })

-- The plan of a list that a table says

some_rows : (format ch : ℕ) (hs : List Group) → 1 ≤ ch → Runs format hs → 1 ≤ length hs → 1 ≤ row_count ch hs
unfolding row_count
some_rows format ch [] some v n = absurd (omega arith)
some_rows format ch (h ∷ hs) some v n = omega (arith, v.0.some, le-mul_of_pos_right (length h.gaps) some)

plan_fits : (ed : Edition) (format ch : ℕ) (r : Row) (rs : List Row) (gs : List Group) → length (r ∷ rs) ≤ max_rows ed → plan_from format ch 0 (step_before format r) (r ∷ rs) ≡ groups gs
    → payload_size format ch (entries_of gs) ≤ max_payload → plan ed format ch (r ∷ rs) ≡ groups (entries_of gs)
unfolding plan
plan_fits ed format ch r rs gs few h fits = rw (le-ltb (max_rows ed) (length (r ∷ rs)) few, h) (rw (le-ltb max_payload (payload_size format ch (entries_of gs)) fits))

pub record Plan (ed : Edition) (format ch : ℕ) (rs : List Row) : Type 0 where
  pub table : List Group
  pub is : plan ed format ch rs ≡ groups table

pub table_plan : (ed : Edition) (format ch start : ℕ) (rs : List Row) (hs : List Group) → 1 ≤ ch → Times rs → Runs format hs → Counts hs → 1 ≤ length hs → row_count ch hs ≤ max_rows ed
    → payload_size format ch hs ≤ max_payload → plains rs ≡ plains (table_rows (step_of format) ch (first_time rs) start hs) → Plan ed format ch rs
table_plan ed format ch start [] hs some ts v c nh few fits h = absurd (omega (arith, some_rows format ch hs some v nh, rows_same (step_of format) ch 0 start [] hs h))
table_plan ed format ch start (r ∷ rs) hs some ts v c nh few fits h =
    let step = step_of format in
    let q = step_before format r in
    let t : q.time < 2 ^ 32 = mod-lt _ (omega arith) in
    let f = first format r.time ts.0 in
    let k = shortest format hs v c in
    let e : plan_from format ch 0 q (r ∷ rs) ≡ groups k.table =
    plan_plain format ch 0 q (r ∷ rs) ∙ ap (plan_from format ch 0 q) h ∙ sym (plan_plain format ch 0 q (table_rows step ch r.time start hs))
    ∙ ap (plan_from format ch 0 q) (ap (λ (x : ℕ). table_rows step ch x start hs) (sym f.place) ∙ table_blocks step ch (next step q.time) start hs)
    ∙ plan_blocks format ch (blocks_in hs) q start some t (fit_runs format hs v) ∙ k.made in
    let m = frames_same step ch (next step q.time) 0 (r ∷ rs) k.table (planned_rows format ch 0 q (r ∷ rs) k.table (planned_whole format ch q (r ∷ rs) k.table some t ts e)) in
    let n = frames_same step ch r.time start (r ∷ rs) hs h in
    let l = rows_same step ch r.time start (r ∷ rs) hs h in
    record { table = entries_of k.table; is = plan_fits ed format ch r rs k.table (omega arith) e (omega (arith, k.size, frames_entries ch k.table)) }
