-- Laws of writing a payload, case by case.
use mathlib.Core.Path.{◌≡◌, refl, ap, sym, ◌∙◌, subst}
use Rattle.std.specs.Prelude.{Err, Ok}
use mathlib.Core.List.{List, ◌++◌}
use mathlib.Core.Bool.{true, false}
use Prim.Native.Nat.{ℕ, ◌-◌, ◌%◌, ◌≤◌, ◌<◌}
use native.Mathlib.Omega.{arith}
use lib.ListN.{length}
use borrow.Author.Tests.{lt-ltb, le-ltb, eq-eqb, ne_eqb}
use Rattle.rtp.specs.Editions.{Edition}
use Rattle.rtp.specs.Sizes.{row_width}
use Rattle.rtp.specs.Areas.{over}
use Rattle.rtp.specs.Ranges.{in_range}
use Rattle.rtp.specs.declared.settings.Settings.{Settings}
use Rattle.rtp.specs.declared.refusal.Refusal.{Refusal}
use Rattle.rtp.specs.declared.refusal.Refusal.TheVariants.{SettingsOutOfRange, RowOutsideBytes, Unwritable, AreaTooShort}
use Rattle.rtp.proofs.TestLaws.{by-test}
use Rattle.rtp.proofs.AreaLaws.{over_none}
use Rattle.formats.specs.Formats.{format_of}
use Rattle.read_contents.specs.Contents.{Contents, refused, groups}
use Rattle.write_plan.specs.declared.planning.Sizes.{Sizes}
use Rattle.write_sizes.specs.Asking.{request_bytes, max_request, askable}
use Rattle.write_sizes.specs.Measures.{written_numbers, planned_numbers, measured}
use Rattle.write_plan.specs.Lists.{rows_in, whole, outside}
use Rattle.write_plan.specs.Plans.{max_payload, unwritable, plan}
use Rattle.write_payload.specs.Bytes.{table_bytes, frames}
use Rattle.write_payload.specs.Writings.{Encoded, no_bytes, bytes_of, planned_bytes, encoded, room_for, writing, encoded_numbers, encoded_bytes}
use Rattle.write_payload.specs.Room.{WholePlan, PayloadRoom}
pub use Rattle.rtp.proofs.RangeLaws.{in_range_some}
use Rattle.write_sizes.proofs.RequestLaws.{asked}
use Rattle.write_sizes.proofs.MeasureLaws.{Answered}
use Rattle.write_payload.proofs.PayloadLaws.{listed, length_bytes}

-- Writing

pub refused_pair : (x : Encoded) (q : Refusal) (l : List ℕ) → x ≡ no_bytes q → (written_numbers (Err q) ≡ encoded_numbers x) × (l ≡ over (encoded_bytes x) l)
unfolding encoded_numbers encoded_bytes
refused_pair x q l e = (rw e, rw e (sym (over_none l)))

pub writing_out : (ed : Edition) (st : Settings) (request : ℕ) (ws bytes : List ℕ) (area : ℕ) → askable ed st request ≡ false → writing ed st request ws bytes area ≡ no_bytes SettingsOutOfRange
unfolding writing
writing_out ed st request ws bytes area h = rw h

module _ (ed : Edition) (st : Settings) (request : ℕ) (ws bytes : List ℕ) (area : ℕ) (i : askable ed st request ≡ true) where
  pub writing_outside : outside (length bytes) (rows_in ws) ≡ true → writing ed st request ws bytes area ≡ no_bytes RowOutsideBytes
  unfolding writing
  writing_outside o = rw (i, o)

  module _ (o : outside (length bytes) (rows_in ws) ≡ false) where
    pub writing_cut : (length ws % row_width ≡ 0 → ⊥) → writing ed st request ws bytes area ≡ no_bytes Unwritable
    unfolding writing
    writing_cut w = rw (i, o, ne_eqb (length ws % row_width) 0 w)

    module _ (w : length ws % row_width ≡ 0) where
      writing_planned : writing ed st request ws bytes area ≡ room_for area (planned_bytes st.format request bytes (rows_in ws) (plan ed st.format st.channels (rows_in ws)))
      unfolding writing encoded
      writing_planned = rw (i, o, eq-eqb (length ws % row_width) 0 w)

      pub writing_none : plan ed st.format st.channels (rows_in ws) ≡ refused unwritable → writing ed st request ws bytes area ≡ no_bytes Unwritable
      writing_none e = writing_planned ∙ ap (λ (x : Contents). room_for area (planned_bytes st.format request bytes (rows_in ws) x)) e

      module _ (s : Sizes) (d : Answered st.format st.channels (plan ed st.format st.channels (rows_in ws)) s) where
        bytes_of_lem : planned_bytes st.format request bytes (rows_in ws) (plan ed st.format st.channels (rows_in ws)) ≡ bytes_of (request_bytes st.format request ++ (table_bytes st.format d.table_groups ++ frames bytes (rows_in ws)))
        bytes_of_lem = ap (planned_bytes st.format request bytes (rows_in ws)) d.planned

        size_of : length (request_bytes st.format request ++ (table_bytes st.format d.table_groups ++ frames bytes (rows_in ws))) ≡ s.payload
        size_of = length_bytes ed st.format request st.channels ws bytes d.table_groups (in_range_some ed st (asked ed st request i).settings) o d.planned ∙ sym d.payload

        pub writing_short : area < s.payload → writing ed st request ws bytes area ≡ no_bytes AreaTooShort
        writing_short l = writing_planned ∙ ap (room_for area) bytes_of_lem ∙ rw (size_of, lt-ltb area s.payload l)

        pub writing_all : s.payload ≤ area → writing ed st request ws bytes area ≡ planned_bytes st.format request bytes (rows_in ws) (plan ed st.format st.channels (rows_in ws))
        writing_all l =
            let n : length (request_bytes st.format request ++ (table_bytes st.format d.table_groups ++ frames bytes (rows_in ws))) ≤ area = omega (arith, size_of) in
            writing_planned ∙ ap (room_for area) bytes_of_lem ∙ rw (le-ltb area (length (request_bytes st.format request ++ (table_bytes st.format d.table_groups ++ frames bytes (rows_in ws)))) n) (sym bytes_of_lem)

        pub numbers_all : s.payload ≤ area → written_numbers (Ok s.payload) ≡ encoded_numbers (writing ed st request ws bytes area)
        unfolding encoded_numbers
        numbers_all l = sym (ap encoded_numbers (writing_all l ∙ bytes_of_lem) ∙ rw size_of)

        pub payload_room : st.channels < 256 → s.payload ≤ area → PayloadRoom ed st.format request st.channels s.table (length bytes) ws area
        payload_room c l = record {
          small = (asked ed st request i).small;
          room = omega (arith, d.payload);
          list = record {
            some = in_range_some ed st (asked ed st request i).settings;
            channels = c;
            inside = o;
            planned = subst (λ (x : Contents). WholePlan st.format st.channels s.table (area - (format_of st.format).header) x) (sym d.planned) (d.table, omega (arith, d.table, d.payload));
          };
        }

-- what is measured is what is encoded, where the rows lie inside their bytes
pub numbers_encoded : (ed : Edition) (st : Settings) (request : ℕ) (ws bytes : List ℕ) → 0 < st.channels → outside (length bytes) (rows_in ws) ≡ false
    → encoded_numbers (encoded ed st request bytes (rows_in ws)) ≡ planned_numbers st.format st.channels (plan ed st.format st.channels (rows_in ws))
unfolding encoded encoded_numbers
numbers_encoded ed st request ws bytes l o = by_plan (plan ed st.format st.channels (rows_in ws)) refl
  where
    by_plan : (x : Contents) → plan ed st.format st.channels (rows_in ws) ≡ x → encoded_numbers (planned_bytes st.format request bytes (rows_in ws) x) ≡ planned_numbers st.format st.channels x
    by_plan (refused q) e = refl
    by_plan (groups gs) e = rw (length_bytes ed st.format request st.channels ws bytes gs l o e)

-- and what is written, in an area that has room for any payload
room_enough : (ed : Edition) (st : Settings) (request : ℕ) (ws bytes : List ℕ) (area : ℕ) → 0 < st.channels → outside (length bytes) (rows_in ws) ≡ false → max_payload ≤ area
    → room_for area (encoded ed st request bytes (rows_in ws)) ≡ encoded ed st request bytes (rows_in ws)
unfolding encoded
room_enough ed st request ws bytes area l o a = by_plan (plan ed st.format st.channels (rows_in ws)) refl
  where
    by_plan : (x : Contents) → plan ed st.format st.channels (rows_in ws) ≡ x → room_for area (planned_bytes st.format request bytes (rows_in ws) x) ≡ planned_bytes st.format request bytes (rows_in ws) x
    by_plan (refused q) e = refl
    by_plan (groups gs) e =
        rw (le-ltb area (length (request_bytes st.format request ++ (table_bytes st.format gs ++ frames bytes (rows_in ws)))) (omega (arith, length_bytes ed st.format request st.channels ws bytes gs l o e, (listed ed st.format st.channels ws gs e).fits)))

pub measured_writing : (ed : Edition) (st : Settings) (request : ℕ) (ws bytes : List ℕ) (area : ℕ) → request ≤ max_request → outside (length bytes) (rows_in ws) ≡ false → max_payload ≤ area → encoded_numbers (writing ed st request ws bytes area) ≡ measured ed st ws
unfolding writing askable measured encoded_numbers
measured_writing ed st request ws bytes area q o a =
    let k = le-ltb max_request request q in
    by-test (in_range ed st)
    (λ i. by-test (whole ws)
    (λ w. rw (k, i, o, w, room_enough ed st request ws bytes area (in_range_some ed st i) o a) (numbers_encoded ed st request ws bytes (in_range_some ed st i) o))
    (λ w. rw (k, i, o, w)))
    (λ i. rw (k, i))
