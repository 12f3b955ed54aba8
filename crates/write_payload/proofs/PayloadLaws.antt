-- Laws of a whole payload: its plan, its bytes, and the room that they need.
use mathlib.Core.Path.{◌≡◌, refl, ap, sym, ◌∙◌, subst}
use mathlib.Core.List.{List, [], ◌∷◌, ◌++◌}
use mathlib.Core.Bool.{false}
use Prim.Native.Nat.{ℕ, ◌+◌, ◌-◌, ◌*◌, ◌/◌, ◌%◌, ◌^◌, ◌≤◌, ◌<◌}
use native.Mathlib.Omega.{arith}
use native.Mathlib.Nat.{zero-div}
use lib.ListN.{length, get_or, take, drop, length-append}
use lib.Dec.{ltb}
use borrow.Author.Tests.{ltb-true, ltb-false}
use borrow.Rule.Slice.PartMut.{put_mid}
use Rattle.rtp.specs.Editions.{Edition}
use Rattle.rtp.specs.Sizes.{row_width, max_rows}
use Rattle.rtp.specs.Areas.{over, fitted as laid}
use Rattle.rtp.specs.Time.{difference}
use Rattle.rtp.proofs.TestLaws.{by-test}
use Rattle.rtp.proofs.AreaLaws.{over_part}
use Rattle.formats.specs.Formats.{format_of, step_of}
use Rattle.read_contents.specs.Contents.{Group, Contents, refused, groups, size_in, frames_in}
use Rattle.read_rows.specs.Rows.{Row}
use Rattle.write_plan.specs.Lists.{rows_in, outside}
use Rattle.write_plan.specs.Entries.{entries_of, in_entries}
use Rattle.write_plan.specs.Plans.{max_payload, gap_between, plan_from, step_before, payload_size, fitting, plan}
use Rattle.write_sizes.specs.Asking.{request_bytes}
use Rattle.write_payload.specs.Bytes.{table_bytes, frames}
use Rattle.write_payload.specs.Writings.{planned_bytes, encoded_bytes}
use Rattle.write_plan.specs.Room.{row_as, words_at, lengths_in}
use Rattle.write_payload.specs.Room.{FramesRoom, timed, Near, PlanRoom, TableRoom, plan_bytes, WholePlan, ListRoom, PayloadRoom}
use Rattle.write_plan.proofs.ListLaws.{rows_none, rows_more, length_rows}
use Rattle.write_plan.proofs.EntriesLaws.{frames_entries}
use Rattle.write_plan.proofs.BlockLaws.{no_plan, plan_time, frames_all}
use Rattle.write_payload.proofs.RunLaws.{first_gap_lem}
use Rattle.write_payload.proofs.EntryLaws.{length_table}
use Rattle.write_payload.proofs.FrameBytesLaws.{length_frames}
use Rattle.write_sizes.proofs.RequestLaws.{length_request, lay_request, four_bits}

-- What a plan says of a whole list

pub record Listed (ed : Edition) (format ch : ℕ) (ws : List ℕ) (gs : List Group) : Type 0 where
  pub row : row_width ≤ length ws
  pub few : length ws < row_width * max_rows ed + row_width
  pub runs : List Group
  pub planned : plan_from format ch 0 (step_before format (row_as (words_at ws 0))) (rows_in ws) ≡ groups runs
  pub entries : gs ≡ entries_of runs
  pub fits : payload_size format ch gs ≤ max_payload

pub fitted : (format ch : ℕ) (x : Contents) (gs : List Group) → fitting format ch x ≡ groups gs → (x ≡ groups gs) × (payload_size format ch gs ≤ max_payload)
fitted format ch (refused q) gs h = absurd (no_plan h)
fitted format ch (groups hs) gs h =
    by-test (ltb max_payload (payload_size format ch hs))
    (λ a. absurd (no_plan (rw a at h)))
    (λ a.
    let e : groups hs ≡ groups gs = rw a at h in
    let s : hs ≡ gs = cc in
    (e, subst (λ (k : List Group). payload_size format ch k ≤ max_payload) s (ltb-false max_payload (payload_size format ch hs) a)))

-- the runs of a table
pub record InRuns (x : Contents) (gs : List Group) : Type 0 where
  pub runs : List Group
  pub planned : x ≡ groups runs
  pub entries : gs ≡ entries_of runs

pub in_runs : (x : Contents) (gs : List Group) → in_entries x ≡ groups gs → InRuns x gs
in_runs (refused q) gs h = absurd (no_plan h)
in_runs (groups rs) gs h = let e : gs ≡ entries_of rs = cc in record { runs = rs; planned = refl; entries = e }

pub listed : (ed : Edition) (format ch : ℕ) (ws : List ℕ) (gs : List Group) → plan ed format ch (rows_in ws) ≡ groups gs → Listed ed format ch ws gs
unfolding plan
listed ed format ch ws gs h =
    by-test (ltb (length ws) row_width)
    (λ a. absurd (no_plan (rw (rows_none ws (ltb-true (length ws) row_width a)) at h)))
    (λ a.
    let l = ltb-false (length ws) row_width a in
    let m = rows_more ws l in
    let k = length_rows ws in
    let n = ap (λ (s : List Row). length s) m in
    by-test (ltb (max_rows ed) (length (row_as (words_at ws 0) ∷ rows_in (drop row_width ws))))
    (λ b. absurd (no_plan (rw (m, b) at h)))
    (λ b.
    let x = plan_from format ch 0 (step_before format (row_as (words_at ws 0))) (row_as (words_at ws 0) ∷ rows_in (drop row_width ws)) in
    let f = fitted format ch (in_entries x) gs (rw (m, b) at h) in
    let i = in_runs x gs f.0 in
    record {
      row = l;
      few = omega (arith, ltb-false (max_rows ed) (length (row_as (words_at ws 0) ∷ rows_in (drop row_width ws))) b);
      runs = i.runs;
      planned = ap (plan_from format ch 0 (step_before format (row_as (words_at ws 0)))) m ∙ i.planned;
      entries = i.entries;
      fits = f.1;
    }))

-- the first frame-block stands at the list's own time
gap_none : (step time : ℕ) → gap_between step (difference time step) time ≡ 0
gap_none step time =
    let x = difference time step in
    let e : (x + 2 ^ 32 - x) % 2 ^ 32 ≡ 0 = omega arith in
    ap (λ (n : ℕ). n / step) e ∙ zero-div step

pub list_near : (format ch : ℕ) (ws : List ℕ) (gs : List Group) → 0 < ch → plan_from format ch 0 (step_before format (row_as (words_at ws 0))) (rows_in ws) ≡ groups gs → Near format gs
list_near format ch ws [] l h = tt
list_near format ch ws (g ∷ gs) l h = omega (arith, first_gap_lem format ch (step_before format (row_as (words_at ws 0))) ws g gs l h ∙ gap_none (step_of format) (get_or ws 0 0))

-- the frames are as long as the plan says
list_frames : (ed : Edition) (format ch : ℕ) (ws : List ℕ) (gs : List Group) → 0 < ch → Listed ed format ch ws gs → lengths_in (rows_in ws) ≡ frames_in ch gs
list_frames ed format ch ws gs l d =
    frames_all format ch (step_before format (row_as (words_at ws 0))) (rows_in ws) d.runs l d.planned ∙ sym (frames_entries ch d.runs) ∙ ap (frames_in ch) (sym d.entries)

-- the bytes are as many as the plan says
length_list : (ed : Edition) (format ch : ℕ) (ws bytes : List ℕ) (gs : List Group) → 0 < ch → outside (length bytes) (rows_in ws) ≡ false → plan ed format ch (rows_in ws) ≡ groups gs
    → length (table_bytes format gs ++ frames bytes (rows_in ws)) ≡ size_in format gs + frames_in ch gs
length_list ed format ch ws bytes gs l o h =
    length-append (table_bytes format gs) (frames bytes (rows_in ws))
    ∙ ap (λ (n : ℕ). n + length (frames bytes (rows_in ws))) (length_table format gs)
    ∙ ap (λ (n : ℕ). size_in format gs + n) (length_frames bytes (rows_in ws) o ∙ list_frames ed format ch ws gs l (listed ed format ch ws gs h))

pub length_bytes : (ed : Edition) (format request ch : ℕ) (ws bytes : List ℕ) (gs : List Group) → 0 < ch → outside (length bytes) (rows_in ws) ≡ false → plan ed format ch (rows_in ws) ≡ groups gs
    → length (request_bytes format request ++ (table_bytes format gs ++ frames bytes (rows_in ws))) ≡ payload_size format ch gs
length_bytes ed format request ch ws bytes gs l o h =
    length-append (request_bytes format request) (table_bytes format gs ++ frames bytes (rows_in ws))
    ∙ omega (arith, length_request format request, length_list ed format ch ws bytes gs l o h)

-- The table and the frames, written one after the other

record Whole (format ch table area : ℕ) (x : Contents) : Type 0 where
  table_groups : List Group
  planned : x ≡ groups table_groups
  size : table ≡ size_in format table_groups
  fits : table + frames_in ch table_groups ≤ area

whole_plan : (format ch table area : ℕ) (x : Contents) → WholePlan format ch table area x → Whole format ch table area x
whole_plan format ch table area (refused q) w = absurd w
whole_plan format ch table area (groups gs) w = record { table_groups = gs; planned = refl; size = w.0; fits = w.1 }

module _ (ed : Edition) (format ch table : ℕ) (ws bytes : List ℕ) (area : ℕ) (r : ListRoom ed format ch table (length bytes) ws area) where
  it : Whole format ch table area (plan ed format ch (rows_in ws))
  it = whole_plan format ch table area (plan ed format ch (rows_in ws)) r.planned

  in_list : Listed ed format ch ws it.table_groups
  in_list = listed ed format ch ws it.table_groups it.planned

  pub payload_row : row_width ≤ length ws
  payload_row = in_list.row

  pub payload_table : table ≤ area
  payload_table = omega (arith, it.fits)

  from_before : plan_from format ch 0 (timed (difference (get_or ws 0 0) (step_of format))) (rows_in ws) ≡ groups in_list.runs
  from_before = plan_time format ch (timed (difference (get_or ws 0 0) (step_of format))) (step_before format (row_as (words_at ws 0))) (rows_in ws) refl ∙ in_list.planned

  pub table_room : TableRoom ed format ch (difference (get_or ws 0 0) (step_of format)) ws area
  table_room = record {
    some = r.some;
    channels = r.channels;
    few = in_list.few;
    planned = subst (λ (x : Contents). PlanRoom format area x) (sym from_before) (list_near format ch ws in_list.runs r.some in_list.planned, omega (arith, it.size, it.fits, ap (size_in format) in_list.entries));
  }

  pub frames_room : FramesRoom (length bytes) (rows_in ws) (area - table)
  frames_room = record { inside = r.inside; room = omega (arith, list_frames ed format ch ws it.table_groups r.some in_list, it.fits) }

  pub put_both : (l m z : List ℕ) → m ≡ over (plan_bytes format (in_entries (plan_from format ch 0 (timed (difference (get_or ws 0 0) (step_of format))) (rows_in ws)))) l
      → z ≡ over (frames bytes (rows_in ws)) (take (length m - table) (drop table m))
      → put_mid table (length m - table) m z ≡ over (plan_bytes format (plan ed format ch (rows_in ws)) ++ frames bytes (rows_in ws)) l
  unfolding plan_bytes
  put_both l m z p q =
      over_part (table_bytes format it.table_groups) (frames bytes (rows_in ws)) l m z table (length_table format it.table_groups ∙ sym it.size) (p ∙ ap (λ (x : Contents). over (plan_bytes format x) l) (ap in_entries from_before ∙ ap groups (sym in_list.entries))) q
      ∙ ap (λ (x : Contents). over (plan_bytes format x ++ frames bytes (rows_in ws)) l) (sym it.planned)

-- The mode request before them

whole_bytes : (format request ch table : ℕ) (bytes : List ℕ) (rs : List Row) (area : ℕ) (x : Contents) → WholePlan format ch table area x
    → encoded_bytes (planned_bytes format request bytes rs x) ≡ request_bytes format request ++ (plan_bytes format x ++ frames bytes rs)
unfolding plan_bytes encoded_bytes
whole_bytes format request ch table bytes rs area (refused q) w = absurd w
whole_bytes format request ch table bytes rs area (groups gs) w = refl

module _ (ed : Edition) (format request ch table : ℕ) (ws bytes : List ℕ) (area : ℕ) (r : PayloadRoom ed format request ch table (length bytes) ws area) where
  pub put_all : (l m z : List ℕ) (n : ℕ) → length l ≡ area → n ≡ (format_of format).header → m ≡ laid (request_bytes format (request % 16)) l
      → z ≡ over (plan_bytes format (plan ed format ch (rows_in ws)) ++ frames bytes (rows_in ws)) (take (length m - n) (drop n m))
      → put_mid n (length m - n) m z ≡ over (encoded_bytes (planned_bytes format request bytes (rows_in ws) (plan ed format ch (rows_in ws)))) l
  put_all l m z n k e p q =
      let s : laid (request_bytes format (request % 16)) l ≡ over (request_bytes format request) l = ap (λ (x : ℕ). laid (request_bytes format x) l) (four_bits request r.small) ∙ lay_request format request l (omega (arith, k, r.room)) in
      over_part (request_bytes format request) (plan_bytes format (plan ed format ch (rows_in ws)) ++ frames bytes (rows_in ws)) l m z n (length_request format request ∙ sym e) (p ∙ s) q
      ∙ ap (λ (s : List ℕ). over s l) (sym (whole_bytes format request ch table bytes (rows_in ws) _ (plan ed format ch (rows_in ws)) r.list.planned))
