-- Bits above the mark of a row belong to its class, which no format has: its list is not written.
use mathlib.Core.Path.{◌≡◌, refl, ap, subst}
use mathlib.Core.List.{List, [], ◌∷◌, ◌++◌}
use Prim.Native.Nat.{ℕ, ◌+◌, ◌%◌, ◌≤◌}
use native.Mathlib.Omega.{arith}
use lib.ListN.{length, take, drop, take-append-drop}
use lib.Dec.{ltb, eqb}
use borrow.Author.Tests.{eqb-true, eqb-false}
use Rattle.rtp.specs.Editions.{Edition}
use Rattle.rtp.specs.Sizes.{max_rows, row_width}
use Rattle.rtp.specs.declared.settings.Settings.{Settings}
use Rattle.rtp.specs.declared.refusal.Fault.{Fault}
use Rattle.rtp.specs.declared.refusal.Refusal.TheVariants.{Unwritable}
use Rattle.rtp.proofs.TestLaws.{by-test}
use Rattle.formats.specs.Frames.{max_class}
use Rattle.row_tags.specs.Tags.{tag_class}
use Rattle.frame_codes.proofs.CodeLaws.{code_small}
use Rattle.read_contents.specs.Contents.{Group, Contents, refused, groups}
use Rattle.read_rows.specs.Rows.{Row, rows_in}
use Rattle.read_payload.proofs.RowFactLaws.{AllRows, all_append}
use Rattle.write_plan.specs.Lists.{whole}
use Rattle.write_plan.specs.Plans.{plan_from, plan, step_before}
use Rattle.write_payload.specs.Writings.{no_bytes, bytes_of, planned_bytes, encoded, room_for, writing}
use Rattle.write_payload.proofs.PayloadLaws.{fitted, in_runs}
use Rattle.write_parts.specs.Parts.{primary_time, Part, Parts, no_parts, parts_of, parts, counts_fit}
use Rattle.write_packet.specs.Packets.{assembled_from, assembled, sending}
use Rattle.write_parts.specs.declared.headers.Heading.{Heading}
use Rattle.write_claims.specs.Marks.{BitAbove}
use Rattle.write_claims.specs.PayloadClaims.{BitAboveRefused}
use Rattle.write_claims.specs.PacketClaims.{PacketBitAboveRefused}
use Rattle.write_claims.proofs.MarkLaws.{first_count, later_counts}
use Rattle.write_claims.proofs.PlanBlockLaws.{standing}
use Rattle.write_claims.proofs.PlanRowLaws.{begun, gone_on}
use Rattle.write_claims.proofs.PlanTableLaws.{Only, only_plan, passed}
use Rattle.write_claims.proofs.PartLaws.{Made, made}

-- The rows of a plan are of classes that there are

abbrev Known : Row → Type 0
Known r = r.class ≤ max_class

known_from : (format ch c : ℕ) (p : Row) (rs : List Row) (gs : List Group) → Known p → plan_from format ch c p rs ≡ groups gs → AllRows Known rs
known_from format ch c p [] gs k h = tt
known_from format ch c p (r ∷ rs) gs k h =
    by-test (eqb c 0)
    (λ z.
    let b = begun format ch p r rs gs (subst (λ (n : ℕ). plan_from format ch n p (r ∷ rs) ≡ groups gs) (eqb-true c 0 z) h) in
    let s : Known r = (code_small format r.class r.length b.code).classes in
    (s, known_from format ch (standing ch 1) r rs b.table s b.rest))
    (λ z.
    let g = gone_on format ch c p r rs gs (eqb-false c 0 z) h in
    let s : Known r = omega (arith, g.same.class) in
    (s, known_from format ch (standing ch (c + 1)) r rs gs s g.rest))

known_plan : (ed : Edition) (format ch : ℕ) (rs : List Row) (gs : List Group) → plan ed format ch rs ≡ groups gs → AllRows Known rs
unfolding plan
known_plan ed format ch [] gs h = tt
known_plan ed format ch (r ∷ rs) gs h =
    let a = passed (ltb (max_rows ed) (length (r ∷ rs))) _ gs h in
    let f = fitted format ch _ gs a.1 in
    let i = in_runs _ gs f.0 in
    let b = begun format ch (step_before format r) r rs i.runs i.planned in
    let s : Known r = (code_small format r.class r.length b.code).classes in
    (s, known_from format ch (standing ch 1) r rs b.table s b.rest)

known_encoded : (ed : Edition) (st : Settings) (request : ℕ) (bytes p : List ℕ) (rs : List Row) → encoded ed st request bytes rs ≡ bytes_of p → AllRows Known rs
unfolding encoded
known_encoded ed st request bytes p rs h = go (plan ed st.format st.channels rs) refl h
  where
    go : (x : Contents) → plan ed st.format st.channels rs ≡ x → planned_bytes st.format request bytes rs x ≡ bytes_of p → AllRows Known rs
    go (refused q) e k = let z : ◌≡◌ {A = ℕ} 0 1 = cc in absurd (omega arith)
    go (groups gs) e k = known_plan ed st.format st.channels rs gs e

known_made : (ed : Edition) (st : Settings) (request : ℕ) (bytes : List ℕ) (time : ℕ) (counts : List ℕ) (bs : List Part) (p : List ℕ) (rs : List Row) → Made ed st request bytes time counts bs p rs → AllRows Known rs
known_made ed st request bytes time counts [] p rs m = known_encoded ed st request bytes p rs m.0
known_made ed st request bytes time counts (b ∷ bs) p rs m =
    let n = first_count counts in
    subst (AllRows Known) (take-append-drop n rs)
    (all_append Known (take n rs) (drop n rs) (known_encoded ed st request bytes b.bytes (take n rs) m.0.payload)
    (known_made ed st request bytes time (later_counts counts) bs p (drop n rs) m.1))

-- A row with a bit above the mark is of none

known_tag : (before : List ℕ) (time tag start size : ℕ) (after : List ℕ) → length before % row_width ≡ 0 → AllRows Known (rows_in (before ++ time ∷ tag ∷ start ∷ size ∷ after)) → tag_class tag ≤ max_class
unfolding rows_in
known_tag [] time tag start size after h k = k.0
known_tag (a ∷ []) time tag start size after h k = absurd (omega arith)
known_tag (a ∷ b ∷ []) time tag start size after h k = absurd (omega arith)
known_tag (a ∷ b ∷ c ∷ []) time tag start size after h k = absurd (omega arith)
known_tag (a ∷ b ∷ c ∷ d ∷ before) time tag start size after h k = known_tag before time tag start size after (omega arith) k.1

unknown : (ws : List ℕ) → BitAbove ws → AllRows Known (rows_in ws) → ⊥
unknown ws b k =
    let h = known_tag b.before b.time b.tag b.start b.size b.after b.rows (subst (λ (l : List ℕ). AllRows Known (rows_in l)) b.is k) in
    omega (arith, h, b.above)

-- Writing and sending

none_encoded : (ed : Edition) (st : Settings) (request : ℕ) (bytes : List ℕ) (rs : List Row) → (AllRows Known rs → ⊥) → encoded ed st request bytes rs ≡ no_bytes Unwritable
unfolding encoded
none_encoded ed st request bytes rs h = go (plan ed st.format st.channels rs) refl (only_plan ed st.format st.channels rs)
  where
    go : (x : Contents) → plan ed st.format st.channels rs ≡ x → Only x → planned_bytes st.format request bytes rs x ≡ no_bytes Unwritable
    go (refused q) e o = ap (λ (f : Fault). no_bytes f.refusal) o
    go (groups gs) e o = absurd (h (known_plan ed st.format st.channels rs gs e))

pub bit_above_refused : (ed : Edition) → BitAboveRefused ed
unfolding writing
bit_above_refused ed st request ws bytes area range inside b =
    by-test (whole ws)
    (λ w. rw (range, inside, w) (ap (room_for area) (none_encoded ed st request bytes (rows_in ws) (unknown ws b))))
    (λ w. rw (range, inside, w))

none_assembled : (ed : Edition) (st : Settings) (request : ℕ) (h : Heading) (counts bytes : List ℕ) (rs : List Row) → (AllRows Known rs → ⊥) → assembled ed st request h counts bytes rs ≡ no_bytes Unwritable
unfolding assembled
none_assembled ed st request h counts bytes rs k = go (parts ed st request bytes time counts rs) refl
  where
    time : ℕ
    time = primary_time counts rs

    go : (x : Parts) → parts ed st request bytes time counts rs ≡ x → assembled_from st h time x ≡ no_bytes Unwritable
    go no_parts e = refl
    go (parts_of bs p) e = absurd (k (known_made ed st request bytes time counts bs p rs (made ed st request bytes time counts rs bs p refl e)))

pub packet_bit_above_refused : (ed : Edition) → PacketBitAboveRefused ed
unfolding sending
packet_bit_above_refused ed st request h counts ws bytes area range inside b =
    by-test (counts_fit ed counts ws)
    (λ w. rw (range, inside, w) (ap (room_for area) (none_assembled ed st request h counts bytes (rows_in ws) (unknown ws b))))
    (λ w. rw (range, inside, w))
