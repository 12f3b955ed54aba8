-- A buffer is well-formed exactly if the plain facts hold, and it is then the encoding of what it holds: the proofs of the claims.
use Prim.Native.Nat.{ℕ, zero, suc, ◌^◌, ◌≤◌, ◌<◌}
use mathlib.Core.Path.{◌≡◌, refl, ap, subst}
use mathlib.Core.Logic.{◌↔◌, ◌⊎◌, inl, inr}
use mathlib.Core.List.Memᴰ.{head as here}
use mathlib.Core.List.Memᴰ.{not-nil as nowhere}
use mathlib.Core.List.Memᴰ.{tail as there}
use mathlib.Core.List.{List, [], ◌∷◌, Memᴰ}
use mathlib.Core.Bool.{true, false}
use native.Mathlib.Omega.{arith}
use borrow.Author.Tests.{eq-eqb, ne_eqb, lt-ltb, ltb-true, eqb-true}
use lib.ListN.{length, get_or, drop}
use lib.Dec.{eqb}
use Rattle.rtp.specs.Editions.{Edition}
use Rattle.rtp.proofs.TestLaws.{not-both, both as in_turn_lem, and_then, either}
use Rattle.rtp.proofs.RangeLaws.{few_channels}
use Rattle.formats.specs.Frames.{no_data}
use Rattle.frame_codes.specs.Codes.{no_code, code_for}
use Rattle.frame_codes.proofs.CodeLaws.{code_back, code_below_lem, code_some}
use Rattle.buffer_copies.specs.Sizes.{slots}
use Rattle.buffer_copies.specs.Entries.{Entry}
use Rattle.buffer_copies.proofs.RankLaws.{frame_class}
use Rattle.buffer_copies.proofs.DistinctLaws.{Differ}
use Rattle.buffer_copies.proofs.HeldLaws.{Rising, Stretch, rising_sorted, sorted_stretch}
use Rattle.buffer_layout.specs.declared.buffer.Buffer.{Buffer}
use Rattle.buffer_slots.specs.Bits.{mark_of, held_in}
use Rattle.buffer_layout.specs.Columns.{zeros}
use Rattle.buffer_layout.specs.Arrays.{Machine}
use Rattle.buffer_layout.specs.Layout.{entry_at, entries_from, decode, is_flag, unused_zero}
use Rattle.frame_codes.specs.Allowed.{allowed}
use Rattle.buffer_layout.specs.WellFormed.{well_formed}
use Rattle.buffer_slots.proofs.WordLaws.{slot_of, SlotFacts, own_distinct, own_few}
use Rattle.buffer_layout.proofs.LayoutLaws.{by_flag, Octets}
use Rattle.row_tags.proofs.TagLaws.{mark_small}
use Rattle.frame_codes.proofs.AllowedLaws.{allowed_frame}
use Rattle.buffer_layout.proofs.ModelLaws.{both, and, Facts, facts_fine, fine_exactly}
use Rattle.buffer_layout.proofs.WellFormedLaws.{facts, words_held, times_word, encode_decode, back, well_formed_lem}
use Rattle.buffer_claims.specs.WellFormedClaims.{Typed, AscendingEntries, EntriesWithinStretch, SlotsDistinct, HasSlot, FrameAllowed, WellFormedFacts, WellFormedExactly, UndoEachOther}
use Rattle.buffer_claims.proofs.MarkLaws.{words_exactly, marks_same}

-- Facts of entries, in the words of the claim and of the laws

to_ascending : (es : List Entry) → Rising es → AscendingEntries es
to_ascending [] r = tt
to_ascending (e ∷ []) r = tt
to_ascending (e ∷ f ∷ es) r = (r.0, to_ascending (f ∷ es) r.1)

of_ascending : (es : List Entry) → AscendingEntries es → Rising es
of_ascending [] r = tt
of_ascending (e ∷ []) r = tt
of_ascending (e ∷ f ∷ es) r = (r.0, of_ascending (f ∷ es) r.1)

to_distinct : (es : List Entry) → Differ slot_of es → SlotsDistinct es
to_distinct [] d = tt
to_distinct (e ∷ es) d = (d.0, to_distinct es d.1)

of_distinct : (es : List Entry) → SlotsDistinct es → Differ slot_of es
of_distinct [] d = tt
of_distinct (e ∷ es) d = (d.0, of_distinct es d.1)

pub to_stretch : (es : List Entry) → ((e : Entry) → Memᴰ e es → e.time < 2 ^ 32) → Stretch es → EntriesWithinStretch es
to_stretch [] w s = record { base = 0; word = omega arith; within = λ e m. absurd (nowhere m) }
to_stretch (e ∷ es) w s = record { base = e.time; word = w e (here refl); within = s }

of_stretch : (es : List Entry) → ((e : Entry) → Memᴰ e es → e.time < 2 ^ 32) → Octets es → Rising es → EntriesWithinStretch es → Stretch es
of_stretch es w o r s =
    sorted_stretch s.base es
    (rising_sorted s.base s.word es (λ e m. record { word = w e m; octet = o e m; near = s.within e m }) r)

-- a class and a length allowed are those of a code
to_frame : (format class n : ℕ) → allowed format class n ≡ true → FrameAllowed format class n
to_frame format class n h =
    let a = either (eqb class no_data) _ h in
    let c = ltb-true (code_for format class n) no_code a.1 in
    record {
      classes = (allowed_frame format class n h).0;
      code = code_for format class n;
      in_table = code_below_lem format class n c;
      stands = code_back format class n c;
    }

of_frame : (format class n : ℕ) → FrameAllowed format class n → allowed format class n ≡ true
of_frame format class n f =
    rw (ne_eqb class no_data (λ z. absurd (omega (arith, z, (frame_class class f.classes).0))))
    (lt-ltb (code_for format class n) no_code (code_some format class n f.code f.in_table f.stands))

-- Unused places

zeros_at : (n : ℕ) (xs : List ℕ) → zeros (drop n xs) ≡ true → (i : ℕ) → n ≤ i → get_or xs i 0 ≡ 0
unfolding zeros
zeros_at n [] h i l = refl
zeros_at zero (x ∷ xs) h zero l = eqb-true x 0 (in_turn_lem (eqb x 0) (zeros xs) h).0
zeros_at zero (x ∷ xs) h (suc i) l = zeros_at zero xs (in_turn_lem (eqb x 0) (zeros xs) h).1 i (omega arith)
zeros_at (suc n) (x ∷ xs) h zero l = absurd (omega arith)
zeros_at (suc n) (x ∷ xs) h (suc i) l = zeros_at n xs h i (omega arith)

at_zeros : (n : ℕ) (xs : List ℕ) → ((i : ℕ) → n ≤ i → i < length xs → get_or xs i 0 ≡ 0) → zeros (drop n xs) ≡ true
unfolding zeros
at_zeros zero [] f = refl
at_zeros (suc n) [] f = refl
at_zeros zero (x ∷ xs) f = and_then (eqb x 0) (zeros xs) (eq-eqb x 0 (f 0 (omega arith) (omega arith))) (at_zeros zero xs (λ i l m. f (suc i) (omega arith) (omega arith)))
at_zeros (suc n) (x ∷ xs) f = at_zeros n xs (λ i l m. f (suc i) (omega arith) (omega arith))

-- The flag

flag_of_lem : (d : ℕ) → is_flag d ≡ true → (d ≡ 0) ⊎ (d ≡ 1)
flag_of_lem = by_flag (λ (d : ℕ). (d ≡ 0) ⊎ (d ≡ 1)) (inl refl) (inr refl)

is_flag_lem : (d : ℕ) → (d ≡ 0) ⊎ (d ≡ 1) → is_flag d ≡ true
is_flag_lem d (inl e) = rw e refl
is_flag_lem d (inr e) = rw e refl

not_drawn : (d : ℕ) → (d ≡ 0) ⊎ (d ≡ 1) → eqb d 1 ≡ false → d ≡ 0
not_drawn d (inl e) h = e
not_drawn d (inr e) h = not-both (eqb d 1) (eq-eqb d 1 e) h

module _ (b : Buffer) (t : Typed b) where
  abbrev es : List Entry
  es = (decode b).entries

  abbrev m : Machine b
  m = t.machine

  octets : (k i : ℕ) → Octets (entries_from b k i)
  unfolding entries_from
  octets zero i e x = absurd (nowhere x)
  octets (suc k) i e (here q) = rw q (let z : (entry_at b i).channel < 256 = omega arith in z)
  octets (suc k) i e (there x) = octets k (suc i) e x

  marks : (k i : ℕ) (e : Entry) → Memᴰ e (entries_from b k i) → e.primary < 2
  unfolding entries_from
  marks zero i e x = absurd (nowhere x)
  marks (suc k) i e (here q) = rw q (mark_small (get_or b.tags i 0))
  marks (suc k) i e (there x) = marks k (suc i) e x

  words : (k i : ℕ) (e : Entry) → Memᴰ e (entries_from b k i) → e.time < 2 ^ 32
  unfolding entries_from
  words zero i e x = absurd (nowhere x)
  words (suc k) i e (here q) = rw q (m.times.1 i)
  words (suc k) i e (there x) = words k (suc i) e x

  -- the facts of a well-formed buffer
  module _ (w : well_formed b ≡ true) where
    record Tests : Type 0 where
      pub flag : is_flag b.drawn ≡ true
      pub rest : unused_zero b.times b.tags b.lengths b.slots (held_in b.occupied) ≡ true

    tests : Tests
    unfolding well_formed
    tests = let a = both w in let c = both a.0 in let d = both c.0 in record { flag = d.0; rest = d.1 }

    to_facts : WellFormedFacts b
    to_facts =
        let F = facts b m w in
        let r = both tests.rest in
        let q = both r.0 in
        let p = both q.0 in
        record {
          ascending = to_ascending es F.rising;
          stretch = to_stretch es (times_word b m w) F.stretch;
          distinct = to_distinct es F.slot_facts.differ;
          slots_in = F.slot_facts.within;
          marked = λ s l. subst (λ (ws : List ℕ). mark_of ws s ≡ 1 ↔ HasSlot es s) (words_held b m w) (words_exactly es (own_distinct es F.slot_facts) s l);
          frames = λ e i. to_frame b.settings.format e.class e.length (F.each e i).frame;
          channels = λ e i. (F.each e i).channel;
          marks = λ e i. (F.each e i).mark;
          last_channel_lem = λ d. F.last_channel_lem (eq-eqb b.drawn 1 d);
          unused = λ i l h. (zeros_at (held_in b.occupied) b.times p.0 i (omega arith), zeros_at (held_in b.occupied) b.tags p.1 i (omega arith), zeros_at (held_in b.occupied) b.lengths q.1 i (omega arith), zeros_at (held_in b.occupied) b.slots r.1 i (omega arith));
          after_last = λ d e i. F.after_last (eq-eqb b.drawn 1 d) e i;
          no_last = λ d. F.no_last (ap (λ (x : ℕ). eqb x 1) d);
          flag = flag_of_lem b.drawn tests.flag;
        }

  -- and they make it so
  module _ (S : WellFormedFacts b) where
    own : SlotFacts es
    own = record { differ = of_distinct es S.distinct; within = S.slots_in }

    of_facts : Facts b.settings (decode b)
    of_facts = record {
      rising = of_ascending es S.ascending;
      stretch = of_stretch es (words (held_in b.occupied) 0) (octets (held_in b.occupied) 0) (of_ascending es S.ascending) S.stretch;
      each = λ e i. record { frame = of_frame b.settings.format e.class e.length (S.frames e i); channel = S.channels e i; octet = octets (held_in b.occupied) 0 e i; mark = marks (held_in b.occupied) 0 e i };
      slot_facts = own;
      room = own_few es own;
      after_last = λ d e i. S.after_last (eqb-true b.drawn 1 d) e i;
      last_channel_lem = λ d. S.last_channel_lem (eqb-true b.drawn 1 d);
      no_last = λ d. S.no_last (not_drawn b.drawn S.flag d);
    }

    unused_column : (xs : List ℕ) → length xs ≡ slots → ((i : ℕ) → held_in b.occupied ≤ i → i < slots → get_or xs i 0 ≡ 0) → zeros (drop (held_in b.occupied) xs) ≡ true
    unused_column xs e f = at_zeros (held_in b.occupied) xs (λ i l h. f i l (omega arith))

    from_facts : well_formed b ≡ true
    unfolding well_formed
    from_facts =
        and (and (and (is_flag_lem b.drawn S.flag)
        (and (and (and (unused_column b.times m.times.0 (λ i l h. (S.unused i (omega arith) h).0))
        (unused_column b.tags m.tags.0 (λ i l h. (S.unused i (omega arith) h).1)))
        (unused_column b.lengths m.lengths.0 (λ i l h. (S.unused i (omega arith) h).2)))
        (unused_column b.slots m.slots_column.0 (λ i l h. (S.unused i (omega arith) h).3))))
        (marks_same es (own_distinct es own) b.occupied t.marks S.marked))
        (facts_fine b.settings (decode b) of_facts)

pub well_formed_exactly : WellFormedExactly
well_formed_exactly b t = (to_facts b t, from_facts b t)

pub undo_each_other : (ed : Edition) → UndoEachOther ed
undo_each_other ed = record {
  encode_decode = encode_decode;
  decode_encode = λ st r h f.
      let few = few_channels ed st r in
      let F = (fine_exactly st h (omega arith)).0 f in
      (well_formed_lem st h F, back st h F);
}
