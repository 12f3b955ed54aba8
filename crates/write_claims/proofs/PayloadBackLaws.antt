-- Laws of a list's payload as it is written: it reads back wherever it stands in a packet.
use mathlib.Core.Path.{◌≡◌, refl, ap, sym, ◌∙◌, subst}
use mathlib.Core.List.{List, [], ◌∷◌, ◌++◌, append_assoc}
use mathlib.Core.Bool.{false}
use Prim.Native.Nat.{ℕ, ◌+◌, ◌≤◌}
use native.Mathlib.Omega.{arith}
use lib.ListN.{length, length-append}
use lib.Seq.{drop_at}
use lib.Dec.{eqb}
use borrow.Author.Tests.{eq-eqb}
use Rattle.rtp.specs.Editions.{Edition}
use Rattle.rtp.proofs.TestLaws.{by-test}
use Rattle.rtp.specs.Sizes.{max_rows}
use Rattle.rtp.specs.declared.settings.Settings.{Settings}
use Rattle.formats.specs.Formats.{format_of, step_of}
use Rattle.read_contents.specs.Contents.{Group, Contents, refused, groups, contents, row_count, size_in, frames_in}
use Rattle.read_rows.specs.Rows.{Row, table_rows, marked}
use Rattle.read_payload.specs.Payloads.{body, payload, request_of, Rows, rows_of, placed_rows, payload_rows}
use Rattle.read_payload.proofs.PayloadLaws.{length_table}
use Rattle.write_plan.specs.Lists.{outside, first_time}
use Rattle.write_plan.specs.Plans.{plan}
use Rattle.write_payload.specs.Bytes.{table_bytes, frames}
use Rattle.write_sizes.specs.Asking.{request_bytes}
use Rattle.write_payload.specs.Writings.{bytes_of, planned_bytes, encoded}
use Rattle.read_contents.proofs.EntryLaws.{size_some}
use Rattle.write_payload.proofs.EntryLaws.{length_table as length_table_bytes}
use Rattle.write_payload.proofs.FrameBytesLaws.{length_frames}
use Rattle.write_sizes.proofs.RequestLaws.{length_request}
use Rattle.write_claims.specs.Marks.{AllMarked}
use Rattle.write_claims.specs.ReadingBack.{read_request, SameFrames}
use Rattle.write_claims.proofs.TableBackLaws.{Runs, table_back}
use Rattle.write_claims.proofs.TableBlockLaws.{blocks_in, table_blocks, Laid, laid_blocks}
use Rattle.write_claims.proofs.FrameLaws.{length_plains, laid_same}
use Rattle.write_claims.proofs.MarkLaws.{all_marked, same_marked}
use Rattle.write_claims.proofs.ReadLaws.{pass_none}
use Rattle.write_claims.proofs.PlanRowLaws.{Times}
use Rattle.write_claims.proofs.PlanTableLaws.{Tabled, plan_table, frames_same}
use Rattle.write_claims.proofs.SameFrameLaws.{same_longer}

-- x is rows of the packet s, and they are the rows of the list rs and heard as H says
pub record Back (s bytes : List ℕ) (rs : List Row) (H : List Row → Type 0) (x : Rows) : Type 0 where
  pub rows : List Row
  pub read : x ≡ rows_of rows
  pub same : SameFrames s bytes rows rs
  pub heard : H rows

-- the payload p gives the rows of the list, at any place of a packet and after any rows that leave room, and the mode request
pub record Reads (ed : Edition) (st : Settings) (request : ℕ) (bytes p : List ℕ) (rs : List Row) : Type 0 where
  pub some : 1 ≤ length p
  pub asked : request_of st.format p ≡ read_request st.format request
  pub back : (mark : ℕ) (front rest : List ℕ) (done : ℕ) → done + length rs ≤ max_rows ed
      → Back (front ++ (p ++ rest)) bytes rs (AllMarked mark) (payload_rows ed mark st.format st.channels done (first_time rs) (length front) p)

pub some_table : (format : ℕ) (gs : List Group) → 1 ≤ length gs → 1 ≤ size_in format gs
unfolding size_in
some_table format [] h = absurd (omega arith)
some_table format (g ∷ gs) h = omega (arith, size_some format (length g.gaps))

-- the mode request
pub request_back : (format request : ℕ) (rest : List ℕ) → request_of format (request_bytes format request ++ rest) ≡ read_request format request
unfolding request_of request_bytes read_request
request_back format request rest = by-test (eqb (format_of format).header 0) (λ a. rw a) (λ a. rw a (omega arith))

-- and what follows it
pub after_request : (format request : ℕ) (rest : List ℕ) → body format (request_bytes format request ++ rest) ≡ rest
after_request format request rest = drop_at (request_bytes format request) rest (format_of format).header (length_request format request)

-- a planned payload
module _ (ed : Edition) (format request ch : ℕ) (bytes : List ℕ) (rs : List Row) (gs : List Group) (v : Tabled ed format ch rs gs) (inside : outside (length bytes) rs ≡ false) where
  abbrev Table : List ℕ
  Table = table_bytes format gs ++ frames bytes rs

  abbrev Planned : List ℕ
  Planned = request_bytes format request ++ Table

  abbrev PlannedRows : ℕ → List Row
  PlannedRows at = table_rows (step_of format) ch (first_time rs) (at + size_in format gs) gs

  table_length : length Table ≡ size_in format gs + frames_in ch gs
  table_length =
      let e = frames_same (step_of format) ch (first_time rs) 0 rs gs (v.rows 0) in
      length-append (table_bytes format gs) (frames bytes rs) ∙ rw (length_table_bytes format gs, length_frames bytes rs inside, e)

  planned_few : length rs ≡ row_count ch gs
  planned_few = sym (length_plains rs) ∙ ap (λ (l : List Row). length l) (v.rows 0) ∙ length_plains (table_rows (step_of format) ch (first_time rs) 0 gs) ∙ length_table (step_of format) ch (first_time rs) 0 gs

  planned_contents : (done : ℕ) → done + length rs ≤ max_rows ed → contents ed format ch done Table ≡ groups gs
  planned_contents done h = go gs v.runs v.some (omega (arith, planned_few))
    where
      go : (gs : List Group) → Runs format gs → 1 ≤ length gs → done + row_count ch gs ≤ max_rows ed → contents ed format ch done (table_bytes format gs ++ frames bytes rs) ≡ groups gs
      go [] r n few = absurd (omega arith)
      go (g ∷ gs) r n few = table_back ed format ch done g gs (frames bytes rs) r few

  planned_read : (mark done at : ℕ) → done + length rs ≤ max_rows ed → payload_rows ed mark format ch done (first_time rs) at Planned ≡ rows_of (marked mark (PlannedRows (at + (format_of format).header)))
  unfolding payload_rows payload placed_rows
  planned_read mark done at h = rw (after_request format request Table, planned_contents done h, pass_none gs v.first, eq-eqb (size_in format gs + frames_in ch gs) (length Table) (sym table_length))

  planned_laid : (at : ℕ) → Laid (at + size_in format gs) (PlannedRows at)
  planned_laid at =
      subst (Laid (at + size_in format gs)) (sym (table_blocks (step_of format) ch (first_time rs) (at + size_in format gs) gs))
      (laid_blocks (step_of format) ch (first_time rs) (at + size_in format gs) (blocks_in gs))

  table_same : (front rest : List ℕ) → SameFrames (front ++ (Table ++ rest)) bytes (PlannedRows (length front)) rs
  table_same front rest =
      let n : length front + size_in format gs ≡ length (front ++ table_bytes format gs) = rw (length-append, length_table_bytes format gs) in
      let qs = PlannedRows (length front) in
      let s : SameFrames ((front ++ table_bytes format gs) ++ frames bytes rs) bytes qs rs =
      laid_same (front ++ table_bytes format gs) bytes qs rs (sym (v.rows (length front + size_in format gs))) (subst (λ (k : ℕ). Laid k qs) n (planned_laid (length front))) inside in
      subst (λ (l : List ℕ). SameFrames l bytes qs rs) (append_assoc front Table rest)
      (same_longer (front ++ Table) rest bytes qs rs inside (subst (λ (l : List ℕ). SameFrames l bytes qs rs) (append_assoc front (table_bytes format gs) (frames bytes rs)) s))

  planned_same : (front rest : List ℕ) → SameFrames (front ++ (Planned ++ rest)) bytes (PlannedRows (length front + (format_of format).header)) rs
  planned_same front rest =
      let q = request_bytes format request in
      let n : length (front ++ q) ≡ length front + (format_of format).header = length-append front q ∙ ap (λ (k : ℕ). length front + k) (length_request format request) in
      let e : (front ++ q) ++ (Table ++ rest) ≡ front ++ (Planned ++ rest) = append_assoc front q (Table ++ rest) ∙ ap (λ (l : List ℕ). front ++ l) (sym (append_assoc q Table rest)) in
      subst (λ (k : ℕ). SameFrames (front ++ (Planned ++ rest)) bytes (PlannedRows k) rs) n
      (subst (λ (l : List ℕ). SameFrames l bytes (PlannedRows (length (front ++ q))) rs) e (table_same (front ++ q) rest))

-- the payload of a list
pub payload_back : (ed : Edition) (st : Settings) (request : ℕ) (bytes p : List ℕ) (rs : List Row) → 1 ≤ st.channels → Times rs → outside (length bytes) rs ≡ false → encoded ed st request bytes rs ≡ bytes_of p
    → Reads ed st request bytes p rs
unfolding encoded
payload_back ed st request bytes p rs some times inside h = go (plan ed st.format st.channels rs) refl h
  where
    same : (q : List ℕ) → bytes_of q ≡ bytes_of p → q ≡ p
    same q e = cc

    go : (x : Contents) → plan ed st.format st.channels rs ≡ x → planned_bytes st.format request bytes rs x ≡ bytes_of p → Reads ed st request bytes p rs
    go (refused q) e k = let z : ◌≡◌ {A = ℕ} 0 1 = cc in absurd (omega arith)
    go (groups gs) e k =
        let v = plan_table ed st.format st.channels rs gs some times e in
        subst (λ (q : List ℕ). Reads ed st request bytes q rs) (same _ k) (record {
          some = omega (arith, length-append (request_bytes st.format request) (table_bytes st.format gs ++ frames bytes rs), table_length ed st.format request st.channels bytes rs gs v inside, some_table st.format gs v.some);
          asked = request_back st.format request (table_bytes st.format gs ++ frames bytes rs);
          back = λ mark front rest done few. let qs = PlannedRows ed st.format request st.channels bytes rs gs v inside (length front + (format_of st.format).header) in record {
            rows = marked mark qs;
            read = planned_read ed st.format request st.channels bytes rs gs v inside mark done (length front) few;
            same = same_marked _ bytes mark qs rs (planned_same ed st.format request st.channels bytes rs gs v inside front rest);
            heard = all_marked mark qs;
          };
        })
