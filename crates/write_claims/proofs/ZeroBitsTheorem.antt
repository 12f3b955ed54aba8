-- In the payload of a list reserved and padding bits, and the first entry's DIS1, are 0.
use mathlib.Core.Path.{◌≡◌, refl, ap, sym, ◌∙◌, subst}
use mathlib.Core.List.{List, [], ◌∷◌, ◌++◌, append_assoc}
use mathlib.Core.Bool.{Bool, true, false}
use Prim.Native.Nat.{ℕ, ◌+◌, ◌*◌, ◌%◌, ◌≤◌}
use native.Mathlib.Omega.{arith}
use lib.ListN.{length, drop}
use lib.Seq.{drop-drop, drop_at}
use Rattle.rtp.specs.Editions.{Edition}
use Rattle.rtp.specs.Numbers.{byte_at}
use Rattle.rtp.specs.declared.settings.Settings.{Settings}
use Rattle.formats.specs.Formats.{format_of, max_gap}
use Rattle.frame_codes.specs.Codes.{code_for}
use Rattle.formats.proofs.FormatLaws.{each}
use Rattle.read_contents.specs.Contents.{min_entry, entry_size, Group, Contents, refused, groups, half_at, contents, size_in}
use Rattle.read_rows.specs.Rows.{Row}
use Rattle.read_payload.specs.Payloads.{body}
use Rattle.write_plan.specs.Lists.{rows_in}
use Rattle.write_plan.specs.Plans.{head_gap, plan}
use Rattle.write_payload.specs.Bytes.{halves, flag, first_byte, entry_bytes, table_bytes, frames}
use Rattle.write_sizes.specs.Asking.{request_bytes}
use Rattle.write_payload.specs.Writings.{bytes_of, planned_bytes, encoded}
use Rattle.write_payload.proofs.EntryLaws.{length_entry}
use Rattle.write_payload.proofs.WritingLaws.{in_range_some}
use Rattle.write_sizes.proofs.RequestLaws.{one_request}
use Rattle.write_claims.specs.PayloadClaims.{first_displacement, Zeros, ZeroBits, FirstDisplacement, RequestBits}
use Rattle.write_claims.proofs.EntryBackLaws.{Run, half_later, half_back, first_back, gaps_back, small_gaps}
use Rattle.write_claims.proofs.TableBackLaws.{Runs, table_back}
use Rattle.write_claims.proofs.PlanTableLaws.{Tabled, plan_table}
use Rattle.write_claims.proofs.PayloadBackLaws.{after_request}
use Rattle.write_claims.proofs.PayloadTheorems.{times}

-- past the first entry of a table that goes on
past_entry : (format : ℕ) (b : Group) (before gs : List Group) (rest : List ℕ) → 1 ≤ length gs
    → drop (entry_size format (length b.gaps) + size_in format before) (table_bytes format (b ∷ gs) ++ rest) ≡ drop (size_in format before) (table_bytes format gs ++ rest)
unfolding table_bytes
past_entry format b before [] rest l = absurd (omega arith)
past_entry format b before (g ∷ gs) rest l =
    let n = entry_size format (length b.gaps) in
    let s = table_bytes format (g ∷ gs) ++ rest in
    sym (drop-drop (size_in format before) n ((entry_bytes format true b ++ table_bytes format (g ∷ gs)) ++ rest))
    ∙ ap (drop (size_in format before)) (ap (drop n) (append_assoc (entry_bytes format true b) (table_bytes format (g ∷ gs)) rest) ∙ drop_at (entry_bytes format true b) s n (length_entry format true b))

-- One entry

reserved_zero : (more : Bool) (format code : ℕ) → (flag more + (format_of format).unit * code) % (format_of format).unit ≡ 0
reserved_zero true format code = each (λ f. (128 + f.unit * code) % f.unit ≡ 0) (λ b. omega arith) (omega arith) (omega arith) (omega arith) (omega arith) format
reserved_zero false format code = each (λ f. (0 + f.unit * code) % f.unit ≡ 0) (λ b. omega arith) (omega arith) (omega arith) (omega arith) (omega arith) format

padding_zero : (ns rest : List ℕ) → length ns % 2 ≡ 1 → half_at (halves ns ++ rest) (length ns) ≡ 0
unfolding halves
padding_zero [] rest h = absurd (omega arith)
padding_zero (a ∷ []) rest h = omega arith
padding_zero (a ∷ b ∷ ns) rest h = half_later (16 * a + b) (halves ns ++ rest) (length ns) ∙ padding_zero ns rest (omega arith)

module _ (format : ℕ) (more : Bool) (g : Group) (rest : List ℕ) (r : Run format g) where
  first_reserved : byte_at (entry_bytes format more g ++ rest) 0 % (format_of format).unit ≡ 0
  unfolding first_byte
  first_reserved = rw (first_back format more g rest r) (reserved_zero more format (code_for format g.class g.length))

  displacements : (format_of format).displaced ≡ true → drop (min_entry format) (entry_bytes format more g ++ rest) ≡ halves g.gaps ++ rest
  displacements d = rw d at (gaps_back format more g rest r)

  entry_zeros : Zeros format (length g.gaps) (entry_bytes format more g ++ rest)
  entry_zeros = record {
    reserved = first_reserved;
    padding = λ d o. ap (λ (s : List ℕ). half_at s (length g.gaps)) (displacements d) ∙ padding_zero g.gaps rest (omega (arith, o));
  }

  -- DIS1 is the gap before the entry's first frame-block
  pub first_displacement_lem : head_gap g ≤ max_gap format → (format_of format).displaced ≡ true → first_displacement format (entry_bytes format more g ++ rest) ≡ head_gap g
  first_displacement_lem f d = ap (λ (s : List ℕ). half_at s 0) (displacements d) ∙ half_back g.gaps rest 0 (small_gaps format more g rest r f) (omega (arith, r.some))

-- The entry g of a table

table_zeros : (format : ℕ) (before : List Group) (g : Group) (after : List Group) (rest : List ℕ) → Runs format (before ++ g ∷ after)
    → Zeros format (length g.gaps) (drop (size_in format before) (table_bytes format (before ++ g ∷ after) ++ rest))
unfolding size_in table_bytes
table_zeros format [] g [] rest v = entry_zeros format false g rest v.0
table_zeros format [] g (h ∷ hs) rest v =
    rw append_assoc (entry_zeros format true g (table_bytes format (h ∷ hs) ++ rest) v.0)
table_zeros format (b ∷ []) g after rest v =
    subst (Zeros format (length g.gaps)) (sym (past_entry format b [] (g ∷ after) rest (omega arith))) (table_zeros format [] g after rest v.2)
table_zeros format (b ∷ c ∷ before) g after rest v =
    subst (Zeros format (length g.gaps)) (sym (past_entry format b (c ∷ before) (c ∷ before ++ g ∷ after) rest (omega arith))) (table_zeros format (c ∷ before) g after rest v.2)

-- what stands behind the payload of a list
record Planned (ed : Edition) (st : Settings) (request : ℕ) (bytes : List ℕ) (rs : List Row) (p : List ℕ) : Type 0 where
  table : List Group
  is : plan ed st.format st.channels rs ≡ groups table
  same : request_bytes st.format request ++ (table_bytes st.format table ++ frames bytes rs) ≡ p

planned : (ed : Edition) (st : Settings) (request : ℕ) (bytes : List ℕ) (rs : List Row) (p : List ℕ) → encoded ed st request bytes rs ≡ bytes_of p → Planned ed st request bytes rs p
unfolding encoded
planned ed st request bytes rs p h = go (plan ed st.format st.channels rs) refl h
  where
    go : (x : Contents) → plan ed st.format st.channels rs ≡ x → planned_bytes st.format request bytes rs x ≡ bytes_of p → Planned ed st request bytes rs p
    go (refused q) e k = let z : ◌≡◌ {A = ℕ} 0 1 = cc in absurd (omega arith)
    go (groups gs) e k = let y : request_bytes st.format request ++ (table_bytes st.format gs ++ frames bytes rs) ≡ p = cc in record { table = gs; is = e; same = y }

-- what follows its mode request
planned_body : (ed : Edition) (st : Settings) (request : ℕ) (bytes : List ℕ) (rs : List Row) (p : List ℕ) (w : Planned ed st request bytes rs p) → table_bytes st.format w.table ++ frames bytes rs ≡ body st.format p
planned_body ed st request bytes rs p w = sym (after_request st.format request (table_bytes st.format w.table ++ frames bytes rs)) ∙ ap (body st.format) w.same

-- a table as it is read is the table written
table_same : (ed : Edition) (format ch : ℕ) (rs : List Row) (gs hs : List Group) (rest : List ℕ) → Tabled ed format ch rs gs
    → contents ed format ch 0 (table_bytes format gs ++ rest) ≡ groups hs → gs ≡ hs
table_same ed format ch rs [] hs rest v h = absurd (omega (arith, v.some))
table_same ed format ch rs (g ∷ gs) hs rest v h =
    let e : groups (g ∷ gs) ≡ groups hs = sym (table_back ed format ch 0 g gs rest v.runs (omega (arith, v.few))) ∙ h in
    cc

pub zero_bits : (ed : Edition) → ZeroBits ed
zero_bits ed st request ws bytes p words range h before g after k =
    let w = planned ed st request bytes (rows_in ws) p h in
    let same = planned_body ed st request bytes (rows_in ws) p w in
    let v = plan_table ed st.format st.channels (rows_in ws) w.table (in_range_some ed st range) (times ws words) w.is in
    let rest = frames bytes (rows_in ws) in
    let e = table_same ed st.format st.channels (rows_in ws) w.table (before ++ g ∷ after) rest v
    (ap (contents ed st.format st.channels 0) same ∙ k) in
    subst (λ (q : List ℕ). Zeros st.format (length g.gaps) (drop (size_in st.format before) q))
    (ap (λ (gs : List Group). table_bytes st.format gs ++ rest) (sym e) ∙ same)
    (table_zeros st.format before g after rest (subst (Runs st.format) e v.runs))

table_first : (ed : Edition) (format ch : ℕ) (rs : List Row) (gs : List Group) (rest : List ℕ) → Tabled ed format ch rs gs → (format_of format).displaced ≡ true
    → first_displacement format (table_bytes format gs ++ rest) ≡ 0
unfolding table_bytes
table_first ed format ch rs [] rest v d = absurd (omega (arith, v.some))
table_first ed format ch rs (g ∷ []) rest v d = first_displacement_lem format false g rest v.runs.0 v.runs.1 d ∙ v.first
table_first ed format ch rs (g ∷ h ∷ hs) rest v d = rw append_assoc (first_displacement_lem format true g (table_bytes format (h ∷ hs) ++ rest) v.runs.0 v.runs.1 d ∙ v.first)

pub first_zero : (ed : Edition) → FirstDisplacement ed
first_zero ed st request ws bytes p words range h d =
    let w = planned ed st request bytes (rows_in ws) p h in
    let v = plan_table ed st.format st.channels (rows_in ws) w.table (in_range_some ed st range) (times ws words) w.is in
    subst (λ (q : List ℕ). first_displacement st.format q ≡ 0) (planned_body ed st request bytes (rows_in ws) p w) (table_first ed st.format st.channels (rows_in ws) w.table (frames bytes (rows_in ws)) v d)

pub request_bits : (ed : Edition) → RequestBits ed
request_bits ed st request ws bytes p h s =
    let w = planned ed st request bytes (rows_in ws) p h in
    let t = table_bytes st.format w.table ++ frames bytes (rows_in ws) in
    let e : byte_at p 0 ≡ 16 * request = ap (λ (q : List ℕ). byte_at q 0) (sym w.same) ∙ ap (λ (q : List ℕ). byte_at (q ++ t) 0) (one_request st.format request s) in
    omega (arith, e)
