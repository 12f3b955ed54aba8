-- Demand 2 of writing: what is written reads back, and each answer is given exactly where it is due.
use mathlib.Core.Path.{◌≡◌, refl, ap, sym, ◌∙◌, subst}
use mathlib.Core.List.{List, [], ◌∷◌, ◌++◌, append-nil}
use mathlib.Core.Bool.{true, false}
use Prim.Native.Nat.{ℕ, suc, ◌+◌, ◌≤◌, ◌<◌}
use native.Mathlib.Omega.{arith}
use lib.ListN.{length, length-drop}
use lib.Dec.{ltb, eqb}
use borrow.Author.Tests.{lt-ltb, le-ltb, ltb-true, ltb-false, eqb-true}
use Rattle.rtp.specs.Editions.{Edition}
use Rattle.rtp.specs.Sizes.{max_rows}
use Rattle.rtp.specs.Ranges.{in_range}
use Rattle.rtp.proofs.ByteLaws.{bytes_drop}
use Rattle.rtp.specs.declared.settings.Settings.{Settings}
use Rattle.rtp.specs.declared.refusal.Fault.{Fault}
use Rattle.rtp.specs.declared.refusal.Refusal.TheVariants.{Unwritable, AreaTooShort}
use Rattle.rtp.proofs.TestLaws.{by-test}
use Rattle.formats.specs.Formats.{format_of, step_of}
use Rattle.read_contents.specs.Contents.{Group, Contents, refused, groups, contents, pass_first, row_count, size_in, frames_in, sizes_answer}
use Rattle.row_tags.specs.Tags.{primary_mark}
use Rattle.read_rows.specs.Rows.{Row, table_rows, marked}
use Rattle.read_payload.specs.Payloads.{body, table_start, starting_at, payload, request_of, rows_of, placed_rows, payload_rows}
use Rattle.read_rows.specs.Tables.{exact}
use Rattle.read_contents.proofs.ContentsLaws.{Small, Within, within}
use Rattle.read_rows.proofs.FirstLaws.{sizes_passed}
use Rattle.read_rows.specs.Rows.{rows_in}
use Rattle.write_plan.specs.Lists.{first_time, whole, outside}
use Rattle.write_plan.specs.Plans.{max_payload, plan}
use Rattle.write_payload.specs.Bytes.{table_bytes, frames}
use Rattle.write_sizes.specs.Asking.{request_bytes, max_request, askable}
use Rattle.write_payload.specs.Writings.{no_bytes, bytes_of, planned_bytes, encoded, room_for, writing}
use Rattle.write_plan.proofs.ListLaws.{length_rows}
use Rattle.write_payload.proofs.PayloadLaws.{listed, length_bytes}
use Rattle.write_sizes.proofs.RequestLaws.{asked}
use Rattle.write_payload.proofs.WritingLaws.{in_range_some}
use Rattle.write_claims.specs.ReadingBack.{Bytes, Words, SameFrames, ReadsTo}
use Rattle.write_claims.specs.PayloadClaims.{RoundTrip, PayloadOf, Longer, Unreadable, Answer, written, unwritable, too_short, Writing}
use Rattle.write_claims.proofs.ByteLaws.{bytes_append, bytes_request, bytes_table, bytes_frames}
use Rattle.write_claims.proofs.FrameLaws.{plains, same_plains}
use Rattle.write_claims.proofs.MarkLaws.{plains_marked}
use Rattle.write_claims.proofs.PlanRowLaws.{Times}
use Rattle.write_claims.proofs.PlanTableLaws.{Only, only_plan, plan_table, Plan, table_plan}
use Rattle.write_claims.proofs.PayloadBackLaws.{some_table, request_back, payload_back}
use Rattle.write_claims.proofs.ReadLaws.{read_passed}

-- A list's times

pub times : (ws : List ℕ) → Words ws → Times (rows_in ws)
unfolding rows_in
times [] h = tt
times (a ∷ []) h = tt
times (a ∷ b ∷ []) h = tt
times (a ∷ b ∷ c ∷ []) h = tt
times (a ∷ b ∷ c ∷ d ∷ ws) h = (h 0, times ws (λ i. h (suc (suc (suc (suc i))))))

-- a list that there is a plan for, and what is written of it
module _ (ed : Edition) (st : Settings) (request : ℕ) (ws bytes : List ℕ) (words : Words ws) (range : in_range ed st ≡ true) (inside : outside (length bytes) (rows_in ws) ≡ false) where
  module _ (gs : List Group) (h : plan ed st.format st.channels (rows_in ws) ≡ groups gs) where
    written_length : length (request_bytes st.format request ++ (table_bytes st.format gs ++ frames bytes (rows_in ws))) ≤ max_payload
    written_length =
        omega (arith, length_bytes ed st.format request st.channels ws bytes gs (in_range_some ed st range) inside h, (listed ed st.format st.channels ws gs h).fits)

    written_reads : whole ws ≡ true → ReadsTo ed st (request_bytes st.format request ++ (table_bytes st.format gs ++ frames bytes (rows_in ws))) bytes ws
    unfolding encoded
    written_reads w =
        let p = request_bytes st.format request ++ (table_bytes st.format gs ++ frames bytes (rows_in ws)) in
        let few : 0 + length (rows_in ws) ≤ max_rows ed = omega (arith, length_rows ws, (listed ed st.format st.channels ws gs h).few) in
        let b = (payload_back ed st request bytes p (rows_in ws) (in_range_some ed st range) (times ws words) inside (rw h)).back primary_mark [] [] 0 few in
        record { whole_rows = w; rows = b.rows; read = b.read; same = subst (λ (q : List ℕ). SameFrames q bytes b.rows (rows_in ws)) (append-nil p) b.same; heard = b.heard }

    written_bytes : request ≤ max_request → Bytes bytes → Bytes (request_bytes st.format request ++ (table_bytes st.format gs ++ frames bytes (rows_in ws)))
    written_bytes small bs =
        let v = plan_table ed st.format st.channels (rows_in ws) gs (in_range_some ed st range) (times ws words) h in
        bytes_append (request_bytes st.format request) (table_bytes st.format gs ++ frames bytes (rows_in ws)) (bytes_request st.format request small)
        (bytes_append (table_bytes st.format gs) (frames bytes (rows_in ws)) (bytes_table st.format gs v.runs v.counts)
        (bytes_frames bytes (rows_in ws) bs))

-- Round trip

-- what stands behind bytes that are given
record Success (ed : Edition) (st : Settings) (request : ℕ) (ws bytes p : List ℕ) : Type 0 where
  range : in_range ed st ≡ true
  inside : outside (length bytes) (rows_in ws) ≡ false
  all : whole ws ≡ true
  table : List Group
  is : plan ed st.format st.channels (rows_in ws) ≡ groups table
  same : request_bytes st.format request ++ (table_bytes st.format table ++ frames bytes (rows_in ws)) ≡ p

success : (ed : Edition) (st : Settings) (request : ℕ) (ws bytes : List ℕ) (area : ℕ) (p : List ℕ) → writing ed st request ws bytes area ≡ bytes_of p → Success ed st request ws bytes p
unfolding writing encoded
success ed st request ws bytes area p h =
    by-test (askable ed st request)
    (λ a. by-test (outside (length bytes) (rows_in ws))
    (λ b. let k = rw (a, b) at h in let z : ◌≡◌ {A = ℕ} 0 1 = cc in absurd (omega arith))
    (λ b. by-test (whole ws)
    (λ c. go (asked ed st request a).settings b c (plan ed st.format st.channels (rows_in ws)) refl (rw (a, b, c) at h))
    (λ c. let k = rw (a, b, c) at h in let z : ◌≡◌ {A = ℕ} 0 1 = cc in absurd (omega arith))))
    (λ a. let k = rw a at h in let z : ◌≡◌ {A = ℕ} 0 1 = cc in absurd (omega arith))
  where
    same : (q : List ℕ) → bytes_of q ≡ bytes_of p → q ≡ p
    same q e = cc

    go : in_range ed st ≡ true → outside (length bytes) (rows_in ws) ≡ false → whole ws ≡ true → (x : Contents) → plan ed st.format st.channels (rows_in ws) ≡ x
        → room_for area (planned_bytes st.format request bytes (rows_in ws) x) ≡ bytes_of p → Success ed st request ws bytes p
    go a b c (refused q) e k = let z : ◌≡◌ {A = ℕ} 0 1 = cc in absurd (omega arith)
    go a b c (groups gs) e k =
        let q = request_bytes st.format request ++ (table_bytes st.format gs ++ frames bytes (rows_in ws)) in
        by-test (ltb area (length q))
        (λ t. let y = rw t at k in let z : ◌≡◌ {A = ℕ} 0 1 = cc in absurd (omega arith))
        (λ t. record { range = a; inside = b; all = c; table = gs; is = e; same = same q (rw t at k) })

pub round_trip : (ed : Edition) → RoundTrip ed
round_trip ed st request ws bytes area p words h =
    let w = success ed st request ws bytes area p h in
    let l = written_length ed st request ws bytes words w.range w.inside w.table w.is in (
      omega (arith, ap (λ (q : List ℕ). length q) w.same),
      subst (λ (q : List ℕ). ReadsTo ed st q bytes ws) w.same (written_reads ed st request ws bytes words w.range w.inside w.table w.is w.all),
      ap (request_of st.format) (sym w.same) ∙ request_back st.format request (table_bytes st.format w.table ++ frames bytes (rows_in ws)),
    )

-- A payload that reads to a list

-- the table of a payload that reads to rows
record Parsed (ed : Edition) (format ch time : ℕ) (p : List ℕ) (rows : List Row) : Type 0 where
  table : List Group
  is : pass_first (contents ed format ch 0 (body format p)) ≡ groups table
  size : size_in format table + frames_in ch table ≡ length (body format p)
  same : marked primary_mark (table_rows (step_of format) ch time (0 + (format_of format).header + size_in format table) table) ≡ rows

parsed : (ed : Edition) (format ch time : ℕ) (p : List ℕ) (rows : List Row) → payload_rows ed primary_mark format ch 0 time 0 p ≡ rows_of rows → Parsed ed format ch time p rows
unfolding payload_rows payload placed_rows
parsed ed format ch time p rows h = go (pass_first (contents ed format ch 0 (body format p))) refl h
  where
    same_rows : (a b : List Row) → rows_of a ≡ rows_of b → a ≡ b
    same_rows a b e = cc

    go : (x : Contents) → pass_first (contents ed format ch 0 (body format p)) ≡ x → placed_rows primary_mark format ch time 0 (starting_at (table_start format p) (exact format ch (length (body format p)) x)) ≡ rows_of rows → Parsed ed format ch time p rows
    go (refused q) e k = let z : ◌≡◌ {A = ℕ} 0 1 = cc in absurd (omega arith)
    go (groups gs) e k =
        by-test (eqb (size_in format gs + frames_in ch gs) (length (body format p)))
        (λ t. record { table = gs; is = e; size = eqb-true _ _ t; same = same_rows _ rows (rw t at k) })
        (λ t. let y = rw t at k in let z : ◌≡◌ {A = ℕ} 0 1 = cc in absurd (omega arith))

few_rows : (ed : Edition) (format ch : ℕ) (p : List ℕ) (gs : List Group) → pass_first (contents ed format ch 0 p) ≡ groups gs → row_count ch gs ≤ max_rows ed
unfolding sizes_answer
few_rows ed format ch p gs h =
    let v : Within ed 0 (length p) (sizes_answer format ch (pass_first (contents ed format ch 0 p))) = subst (Within ed 0 (length p)) (sym (sizes_passed format ch (contents ed format ch 0 p))) (within ed format ch 0 p) in
    let w : Small ed 0 (length p) _ = rw h at v in
    omega (arith, w.few)

-- a list that some payload reads to has a plan
readable_plan : (ed : Edition) (st : Settings) (ws bytes p : List ℕ) → Words ws → in_range ed st ≡ true → Bytes p → length p ≤ max_payload → ReadsTo ed st p bytes ws
    → Plan ed st.format st.channels (rows_in ws)
readable_plan ed st ws bytes p words range bs l r =
    let k = parsed ed st.format st.channels (first_time (rows_in ws)) p r.rows r.read in
    let q = body st.format p in
    let v = read_passed ed st.format st.channels 0 q k.table (bytes_drop (format_of st.format).header p bs) k.is in
    table_plan ed st.format st.channels (0 + (format_of st.format).header + size_in st.format k.table) (rows_in ws) k.table (in_range_some ed st range) (times ws words) v.0 v.2 v.1
    (few_rows ed st.format st.channels q k.table k.is)
    (omega (arith, k.size, some_table st.format k.table v.1, length-drop (format_of st.format).header p)) (sym (same_plains p bytes r.rows (rows_in ws) r.same) ∙ ap plains (sym k.same) ∙ plains_marked primary_mark _)

-- Writing

-- room for a payload

no_room : (area : ℕ) (p : List ℕ) → area < length p → room_for area (bytes_of p) ≡ no_bytes AreaTooShort
no_room area p l = rw (lt-ltb area (length p) l)

some_room : (area : ℕ) (p : List ℕ) → length p ≤ area → room_for area (bytes_of p) ≡ bytes_of p
some_room area p l = rw (le-ltb area (length p) l)

data Room (area : ℕ) (p : List ℕ) : Type 0 where
  lacking : area < length p → room_for area (bytes_of p) ≡ no_bytes AreaTooShort → Room area p
  there : length p ≤ area → room_for area (bytes_of p) ≡ bytes_of p → Room area p

room : (area : ℕ) (p : List ℕ) → Room area p
room area p =
    by-test (ltb area (length p))
    (λ t. let l = ltb-true area (length p) t in lacking l (no_room area p l))
    (λ t. let l = ltb-false area (length p) t in there l (some_room area p l))

-- a list has a payload, or writing it is 13
data Due (ed : Edition) (st : Settings) (request : ℕ) (ws bytes : List ℕ) (area : ℕ) : Type 0 where
  none : writing ed st request ws bytes area ≡ no_bytes Unwritable → Due ed st request ws bytes area
  some : (p : List ℕ) → PayloadOf ed st request ws bytes p → writing ed st request ws bytes area ≡ room_for area (bytes_of p) → Due ed st request ws bytes area

module _ (ed : Edition) (st : Settings) (request : ℕ) (ws bytes : List ℕ) (area : ℕ) (words : Words ws) (bs : Bytes bytes) (range : askable ed st request ≡ true) (inside : outside (length bytes) (rows_in ws) ≡ false) where
  writing_room : whole ws ≡ true → writing ed st request ws bytes area ≡ room_for area (encoded ed st request bytes (rows_in ws))
  unfolding writing
  writing_room w = rw (range, inside, w)

  writing_cut : whole ws ≡ false → writing ed st request ws bytes area ≡ no_bytes Unwritable
  unfolding writing
  writing_cut w = rw (range, inside, w)

  planned_encoded : (x : Contents) → plan ed st.format st.channels (rows_in ws) ≡ x → encoded ed st request bytes (rows_in ws) ≡ planned_bytes st.format request bytes (rows_in ws) x
  unfolding encoded
  planned_encoded x e = ap (planned_bytes st.format request bytes (rows_in ws)) e

  due : Due ed st request ws bytes area
  due = by-test (whole ws) (λ w. go w (plan ed st.format st.channels (rows_in ws)) refl (only_plan ed st.format st.channels (rows_in ws))) (λ w. none (writing_cut w))
    where
      go : whole ws ≡ true → (x : Contents) → plan ed st.format st.channels (rows_in ws) ≡ x → Only (plan ed st.format st.channels (rows_in ws)) → Due ed st request ws bytes area
      go w (refused q) e o = none (writing_room w ∙ ap (room_for area) (planned_encoded (refused q) e) ∙ ap (λ (f : Fault). no_bytes f.refusal) (subst Only e o))
      go w (groups gs) e o =
          some (request_bytes st.format request ++ (table_bytes st.format gs ++ frames bytes (rows_in ws))) (record {
            canonical = planned_encoded (groups gs) e;
            made = written_bytes ed st request ws bytes words (asked ed st request range).settings inside gs e (asked ed st request range).small bs;
            short = written_length ed st request ws bytes words (asked ed st request range).settings inside gs e;
            reads = written_reads ed st request ws bytes words (asked ed st request range).settings inside gs e w;
            request_read = request_back st.format request (table_bytes st.format gs ++ frames bytes (rows_in ws));
          }) (writing_room w ∙ ap (room_for area) (planned_encoded (groups gs) e))

  -- one of the three
  answer : Due ed st request ws bytes area → Answer ed st request ws bytes area
  answer (none h) = unwritable h
  answer (some p k h) = by_room (room area p)
    where
      by_room : Room area p → Answer ed st request ws bytes area
      by_room (lacking l e) = too_short (h ∙ e)
      by_room (there l e) = written p (h ∙ e)

  -- the payload, where there is room for it
  to_payload : (p : List ℕ) → Due ed st request ws bytes area → writing ed st request ws bytes area ≡ bytes_of p → PayloadOf ed st request ws bytes p × (length p ≤ area)
  to_payload p (none h) e = let k : no_bytes Unwritable ≡ bytes_of p = sym h ∙ e in let z : ◌≡◌ {A = ℕ} 0 1 = cc in absurd (omega arith)
  to_payload p (some q k h) e = by_room (room area q)
    where
      by_room : Room area q → PayloadOf ed st request ws bytes p × (length p ≤ area)
      by_room (lacking l r) = let y : no_bytes AreaTooShort ≡ bytes_of p = sym r ∙ sym h ∙ e in let z : ◌≡◌ {A = ℕ} 0 1 = cc in absurd (omega arith)
      by_room (there l r) =
          let y : bytes_of q ≡ bytes_of p = sym r ∙ sym h ∙ e in
          let same : q ≡ p = cc in
          subst (λ (t : List ℕ). PayloadOf ed st request ws bytes t × (length t ≤ area)) same (k, l)

  from_payload : (p : List ℕ) → PayloadOf ed st request ws bytes p × (length p ≤ area) → writing ed st request ws bytes area ≡ bytes_of p
  from_payload p h = writing_room h.0.reads.whole_rows ∙ ap (room_for area) h.0.canonical ∙ some_room area p h.1

  -- 13, where no bytes read to the list
  to_unreadable : writing ed st request ws bytes area ≡ no_bytes Unwritable → Unreadable ed st ws bytes
  to_unreadable h p ps l r =
      let k = readable_plan ed st ws bytes p words (asked ed st request range).settings ps (omega (arith, l)) r in
      let q = request_bytes st.format request ++ (table_bytes st.format k.table ++ frames bytes (rows_in ws)) in
      by_room q (sym h ∙ writing_room r.whole_rows ∙ ap (room_for area) (planned_encoded (groups k.table) k.is)) (room area q)
    where
      by_room : (q : List ℕ) → no_bytes Unwritable ≡ room_for area (bytes_of q) → Room area q → ⊥
      by_room q e (lacking l r) = let y : no_bytes Unwritable ≡ no_bytes AreaTooShort = e ∙ r in let z : ◌≡◌ {A = ℕ} 0 1 = cc in absurd (omega arith)
      by_room q e (there l r) = let y : no_bytes Unwritable ≡ bytes_of q = e ∙ r in let z : ◌≡◌ {A = ℕ} 0 1 = cc in absurd (omega arith)

  from_unreadable : Due ed st request ws bytes area → Unreadable ed st ws bytes → writing ed st request ws bytes area ≡ no_bytes Unwritable
  from_unreadable (none h) u = h
  from_unreadable (some p k h) u = absurd (u p k.made (omega (arith, k.short)) k.reads)

  -- 12, where the area is shorter than the payload
  to_longer : Due ed st request ws bytes area → writing ed st request ws bytes area ≡ no_bytes AreaTooShort → Longer ed st request ws bytes area
  to_longer (none h) e = let k : no_bytes Unwritable ≡ no_bytes AreaTooShort = sym h ∙ e in let z : ◌≡◌ {A = ℕ} 0 1 = cc in absurd (omega arith)
  to_longer (some p k h) e = by_room (room area p)
    where
      by_room : Room area p → Longer ed st request ws bytes area
      by_room (lacking l r) = record { payload = p; of_list = k; longer = omega (arith, l) }
      by_room (there l r) = let y : bytes_of p ≡ no_bytes AreaTooShort = sym r ∙ sym h ∙ e in let z : ◌≡◌ {A = ℕ} 0 1 = cc in absurd (omega arith)

  from_longer : Longer ed st request ws bytes area → writing ed st request ws bytes area ≡ no_bytes AreaTooShort
  from_longer h = writing_room h.of_list.reads.whole_rows ∙ ap (room_for area) h.of_list.canonical ∙ no_room area h.payload (omega (arith, h.longer))

pub demand_2 : (ed : Edition) → Writing ed
demand_2 ed st request ws bytes area words bs range inside =
    let d = due ed st request ws bytes area words bs range inside in
    record {
      answers = answer ed st request ws bytes area words bs range inside d;
      written_exactly = λ p. (to_payload ed st request ws bytes area words bs range inside p d, from_payload ed st request ws bytes area words bs range inside p);
      unwritable_exactly = (to_unreadable ed st request ws bytes area words bs range inside, from_unreadable ed st request ws bytes area words bs range inside d);
      too_short_exactly = (to_longer ed st request ws bytes area words bs range inside d, from_longer ed st request ws bytes area words bs range inside);
    }
