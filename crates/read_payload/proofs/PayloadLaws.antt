-- Laws of a payload, from what reading its table answered.
use mathlib.Core.Path.{◌≡◌, refl, ap, sym, subst, ◌∙◌}
use Rattle.std.specs.Prelude.{Err, Ok, Result}
use mathlib.Core.List.{List, [], ◌∷◌}
use mathlib.Core.Bool.{true, false}
use Prim.Native.Nat.{ℕ, ◌+◌, ◌*◌, ◌/◌, ◌≤◌, ◌<◌}
use native.Mathlib.Omega.{arith}
use lib.ListN.{length, length-append, length-drop}
use lib.Dec.{eqb}
use borrow.Author.Tests.{eq-eqb, ne_eqb, eqb-true, eqb-false, lt-ltb, le-ltb}
use Rattle.rtp.specs.Editions.{Edition}
use Rattle.rtp.proofs.TestLaws.{by-test}
use Rattle.rtp.specs.Sizes.{row_width, row_area, max_packet}
use Rattle.rtp.specs.Numbers.{byte_at}
use Rattle.rtp.specs.Areas.{over}
use Rattle.rtp.specs.Ranges.{in_range}
use Rattle.rtp.specs.declared.settings.Settings.{Settings}
use Rattle.rtp.specs.Faults.{fault_at, fault}
use Rattle.rtp.specs.declared.refusal.Fault.{Fault}
use Rattle.rtp.specs.declared.refusal.Refusal.TheVariants.{PacketLength, ContentsTruncated, LengthMismatch, SettingsOutOfRange, AreaTooShort}
use Rattle.rtp.proofs.AreaLaws.{over_none}
use Rattle.read_contents.specs.declared.entries.Sizes.{Sizes}
use Rattle.formats.specs.Formats.{format_of}
use Rattle.formats.specs.Frames.{step_of}
use Rattle.read_contents.specs.Contents.{min_entry, entry_of, Group, Contents, refused, groups, contents, pass_first, row_count, size_in, sizes_answer}
use Rattle.read_rows.specs.Rows.{table_rows, time_after}
use Rattle.read_payload.specs.Payloads.{body, table_start, starting_at, payload, no_request, request_of, Rows, no_rows, placed_rows, payload_rows, rows_words, rows_answer, asked_rows}
use Rattle.read_rows.specs.Tables.{exact, fitting_words}
use Rattle.formats.proofs.FormatLaws.{header_small}
use Rattle.read_contents.proofs.EntryLaws.{min_some}
use Rattle.read_contents.proofs.ContentsLaws.{at_refused, Small, Within, within}
use Rattle.read_rows.proofs.RowLaws.{length_marked}
use Rattle.read_rows.proofs.GroupLaws.{length_group}
use Rattle.read_rows.proofs.FirstLaws.{sizes_passed}
use Rattle.read_rows.proofs.ExactLaws.{same_sizes, exact_refused, Exact, exact_is, answer_refused, exact_within}

-- as many rows as the table says
pub length_table : (step ch time start : ℕ) (gs : List Group) → length (table_rows step ch time start gs) ≡ row_count ch gs
unfolding table_rows row_count
length_table step ch time start [] = refl
length_table step ch time start (g ∷ gs) =
    let e = length_table step ch (time_after step time g.gaps) (start + length g.gaps * ch * g.length) gs in
    simp (length-append, length_group, e)

-- the answer of a table that was read
rows_in : (mark format ch time at k : ℕ) (t : Sizes) (p : Contents) → sizes_answer format ch p ≡ Ok t → rows_answer (placed_rows mark format ch time at (starting_at k p)) ≡ Ok t.rows
unfolding sizes_answer placed_rows rows_answer
rows_in mark format ch time at k t (refused r) h = let z : ◌≡◌ {A = ℕ} 0 1 = cc in absurd (omega arith)
rows_in mark format ch time at k t (groups gs) h =
    let start = at + (format_of format).header + size_in format gs in
    ap Ok (length_marked mark (table_rows (step_of format) ch time start gs) ∙ length_table (step_of format) ch time start gs ∙ ap (λ (x : Sizes). x.rows) (same_sizes _ t h))

-- its words
words_in : (mark format ch time at k : ℕ) (p : Contents) → fitting_words mark format ch time (at + (format_of format).header) p ≡ rows_words (placed_rows mark format ch time at (starting_at k p))
unfolding placed_rows rows_words fitting_words
words_in mark format ch time at k (refused r) = refl
words_in mark format ch time at k (groups gs) = refl

-- the rows of a payload, by what reading its table answered
module _ (ed : Edition) (mark format ch done time at : ℕ) (s : List ℕ) where
  abbrev Table : Contents
  Table = contents ed format ch done (body format s)

  -- where its table starts, if its header is there
  starts : (format_of format).header ≤ length s → table_start format s ≡ (format_of format).header
  starts l = by-test (eqb (length s) 0) (λ z. rw z (omega (arith, eqb-true (length s) 0 z))) (λ z. rw z)

  -- its table starts inside it
  pub start_in : table_start format s + length (body format s) ≤ length s
  start_in =
      by-test (eqb (length s) 0)
      (λ z. rw (z, length-drop) (omega (arith, eqb-true (length s) 0 z)))
      (λ z. rw (z, length-drop) (omega (arith, eqb-false (length s) 0 z, header_small format)))

  pub at_fault : (r : Fault) → sizes_answer format ch (contents ed format ch done (body format s)) ≡ Err r
      → payload_rows ed mark format ch done time at s ≡ no_rows (fault_at (at + (table_start format s + r.offset)) r.refusal)
  unfolding payload_rows payload placed_rows
  at_fault r h = rw (exact_refused format ch (length (body format s)) r (pass_first Table) (sizes_passed format ch Table ∙ h))

  pub pay_refused : (r : Fault) (n : ℕ) → (format_of format).header ≤ length s → n ≡ at + (format_of format).header + r.offset
      → sizes_answer format ch (contents ed format ch done (body format s)) ≡ Err r → payload_rows ed mark format ch done time at s ≡ no_rows (fault_at n r.refusal)
  pay_refused r n l e h = at_fault r h ∙ ap (λ (k : ℕ). no_rows (fault_at k r.refusal)) (omega (arith, e, starts l))

  -- the place at fault lies in the body
  pub pay_place : (r : Fault) → sizes_answer format ch (contents ed format ch done (body format s)) ≡ Err r → r.offset ≤ length (body format s)
  pay_place r h = subst (λ (x : Result Sizes Fault). Within ed done (length (body format s)) x) h (within ed format ch done (body format s))

  -- no table follows a header that is cut short
  pub pay_headless : length s < (format_of format).header → payload_rows ed mark format ch done time at s ≡ no_rows (fault_at at ContentsTruncated)
  unfolding entry_of
  pay_headless l =
      let z : length (body format s) ≡ 0 = rw length-drop (omega arith) in
      let n : length s ≡ 0 = omega (arith, header_small format) in
      let b : table_start format s ≡ 0 = rw (eq-eqb (length s) 0 n) in
      at_fault (fault ContentsTruncated) (at_refused ed format ch done (body format s) ContentsTruncated (rw (lt-ltb (length (body format s)) (min_entry format) (omega (arith, min_some format)))))
      ∙ ap (λ (k : ℕ). no_rows (fault_at k ContentsTruncated)) (omega (arith, b))

  module _ (t : Sizes) (h : sizes_answer format ch (contents ed format ch done (body format s)) ≡ Ok t) where
    passed : sizes_answer format ch (pass_first Table) ≡ Ok t
    passed = sizes_passed format ch Table ∙ h

    table_is : Exact mark format ch (length (body format s)) time at (pass_first Table) t
    table_is = exact_is mark format ch (length (body format s)) time at t (pass_first Table) passed

    pub part_fault : (t.size + t.frames ≡ length (body format s) → ⊥)
        → payload_rows ed mark format ch done time at s ≡ no_rows (fault_at (at + (table_start format s + t.size)) LengthMismatch)
    unfolding payload_rows payload placed_rows
    part_fault f = rw (table_is.part f)

    pub pay_part : (n : ℕ) → (format_of format).header ≤ length s → n ≡ at + (format_of format).header + t.size → (t.size + t.frames ≡ length (body format s) → ⊥)
        → payload_rows ed mark format ch done time at s ≡ no_rows (fault_at n LengthMismatch)
    pay_part n l e f = part_fault f ∙ ap (λ (k : ℕ). no_rows (fault_at k LengthMismatch)) (omega (arith, e, starts l))

    pub pay_rows : t.size + t.frames ≡ length (body format s) → rows_answer (payload_rows ed mark format ch done time at s) ≡ Ok t.rows
    unfolding payload_rows payload
    pay_rows f = rw (table_is.whole f) (rows_in mark format ch time at (table_start format s) t (pass_first Table) passed)

    pub pay_small : Small ed done (length (body format s)) t
    pay_small = subst (λ (r : Result Sizes Fault). Within ed done (length (body format s)) r) h (within ed format ch done (body format s))

  -- The same by what putting its table and its frames answered, which stand after its header

  abbrev Put : Contents
  Put = exact format ch (length (body format s)) (pass_first Table)

  pub put_words : fitting_words mark format ch time (at + (format_of format).header) Put ≡ rows_words (payload_rows ed mark format ch done time at s)
  unfolding payload_rows payload
  put_words = words_in mark format ch time at (table_start format s) Put

  pub put_within : Within ed done (length (body format s)) (sizes_answer format ch (exact format ch (length (body format s)) (pass_first (contents ed format ch done (body format s)))))
  put_within = exact_within ed format ch done (body format s)

  pub put_refused : (r : Fault) (n : ℕ) → (format_of format).header ≤ length s → n ≡ at + (format_of format).header + r.offset
      → sizes_answer format ch (exact format ch (length (body format s)) (pass_first (contents ed format ch done (body format s)))) ≡ Err r
      → payload_rows ed mark format ch done time at s ≡ no_rows (fault_at n r.refusal)
  unfolding payload_rows payload placed_rows
  put_refused r n l e h = rw (answer_refused format ch r Put h) (ap (λ (k : ℕ). no_rows (fault_at k r.refusal)) (omega (arith, e, starts l)))

  pub put_rows : (t : Sizes) → sizes_answer format ch (exact format ch (length (body format s)) (pass_first (contents ed format ch done (body format s)))) ≡ Ok t
      → rows_answer (payload_rows ed mark format ch done time at s) ≡ Ok t.rows
  unfolding payload_rows payload
  put_rows t h = rows_in mark format ch time at (table_start format s) t Put h

-- The payload of a call

pub asked_out : (ed : Edition) (mark : ℕ) (st : Settings) (done area time at : ℕ) (s : List ℕ) → in_range ed st ≡ false → asked_rows ed mark st done area time at s ≡ no_rows (fault SettingsOutOfRange)
unfolding asked_rows
asked_out ed mark st done area time at s h = rw h

module _ (ed : Edition) (mark : ℕ) (st : Settings) (done area time at : ℕ) (s : List ℕ) (h : in_range ed st ≡ true) where
  pub asked_short : row_width * done + area < row_area ed → asked_rows ed mark st done area time at s ≡ no_rows (fault AreaTooShort)
  unfolding asked_rows
  asked_short a = rw (h, lt-ltb (row_width * done + area) (row_area ed) a)

  pub asked_long : row_area ed ≤ row_width * done + area → max_packet < at + length s → asked_rows ed mark st done area time at s ≡ no_rows (fault PacketLength)
  unfolding asked_rows
  asked_long a b = rw (h, le-ltb (row_width * done + area) (row_area ed) a, lt-ltb max_packet (at + length s) b)

  pub asked_in : row_area ed ≤ row_width * done + area → at + length s ≤ max_packet → asked_rows ed mark st done area time at s ≡ payload_rows ed mark st.format st.channels done time at s
  unfolding asked_rows
  asked_in a b = rw (h, le-ltb (row_width * done + area) (row_area ed) a, le-ltb max_packet (at + length s) b)

-- the answer and the words of a refusal
pub answer_none : (x : Rows) (r : Fault) → x ≡ no_rows r → Err r ≡ rows_answer x
unfolding rows_answer
answer_none x r h = rw h

pub words_none : (x : Rows) (r : Fault) (l : List ℕ) → x ≡ no_rows r → l ≡ over (rows_words x) l
unfolding rows_words
words_none x r l h = rw h (sym (over_none l))

-- The mode request

module _ (format : ℕ) (s : List ℕ) where
  pub request_none : (format_of format).header ≡ 0 → request_of format s ≡ no_request
  unfolding request_of
  request_none h = rw (eq-eqb _ _ h)

  pub request_some : ((format_of format).header ≡ 0 → ⊥) → request_of format s ≡ byte_at s 0 / 16
  unfolding request_of
  request_some h = rw (ne_eqb _ _ h)

pub no_byte : (s : List ℕ) → length s ≡ 0 → byte_at s 0 ≡ 0
no_byte [] h = refl
no_byte (b ∷ s) h = absurd (omega arith)
