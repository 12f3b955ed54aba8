-- A well-formed buffer has the facts of its model and is the encoding of it; and the encoding of a model with these facts is well-formed.
use Prim.Native.Nat.{ℕ, zero, suc, ◌+◌, ◌^◌, ◌≤◌, ◌<◌}
use mathlib.Core.Path.{◌≡◌, refl, sym, ap, ◌∙◌}
use mathlib.Core.List.{List, [], ◌∷◌, map, Memᴰ}
use mathlib.Core.Bool.{Bool, true, false}
use native.Mathlib.Omega.{arith}
use borrow.Author.Tests.{eqb-true, eq-eqb}
use lib.Count.{ones}
use lib.Dec.{eqb}
use lib.ListN.{length, get_or, take, drop, length-map}
use lib.Seq.{drop-cons}
use Rattle.rtp.specs.declared.settings.Settings.{Settings}
use Rattle.row_tags.specs.Tags.{tag_channel}
use Rattle.buffer_copies.specs.Sizes.{slots}
use Rattle.buffer_copies.specs.Entries.{Entry, Held}
use Rattle.buffer_layout.specs.declared.buffer.Buffer.{Buffer}
use Rattle.buffer_slots.specs.Bits.{held_in, word_at, words_of, same_words}
use Rattle.buffer_layout.specs.Columns.{zeros}
use Rattle.buffer_layout.specs.Layout.{entry_tag, pad_to, column, flag_of, encode, entry_at, entries_from, decode, model, is_flag, unused_zero, marks_kept, fresh}
use Rattle.buffer_layout.specs.Model.{ascending, slots_apart, entries_fine, fine}
use Rattle.buffer_layout.specs.WellFormed.{well_formed}
use Rattle.buffer_layout.specs.Arrays.{Machine}
use Rattle.rtp.proofs.TestLaws.{both as in_turn_lem, and_then}
use Rattle.buffer_slots.proofs.WordLaws.{slot_of, slots_of, held_slots}
use Rattle.buffer_layout.proofs.LayoutLaws.{by_flag, tag_back, Octets, entries_each, decode_encode}
use Rattle.buffer_layout.proofs.ModelLaws.{both, and, in_tag, Facts, fine_facts, facts_fine}

-- Columns with zeros after the first n values

zero_rest : (xs : List ℕ) → zeros xs ≡ true → pad_to (length xs) [] ≡ xs
unfolding zeros pad_to
zero_rest [] h = refl
zero_rest (x ∷ xs) h = let a = in_turn_lem (eqb x 0) (zeros xs) h in λ j. sym (eqb-true x 0 a.0) j ∷ zero_rest xs a.1 j

pad_take : (n : ℕ) (xs : List ℕ) → zeros (drop n xs) ≡ true → pad_to (length xs) (take n xs) ≡ xs
unfolding pad_to
pad_take zero xs h = zero_rest xs h
pad_take (suc n) [] h = refl
pad_take (suc n) (x ∷ xs) h = ap (λ (l : List ℕ). x ∷ l) (pad_take n xs h)

pad_zeros : (n : ℕ) (xs : List ℕ) → zeros (drop (length xs) (pad_to n xs)) ≡ true
unfolding zeros pad_to
pad_zeros zero [] = refl
pad_zeros zero (x ∷ xs) = refl
pad_zeros (suc n) [] = pad_zeros n []
pad_zeros (suc n) (x ∷ xs) = pad_zeros n xs

entries_length : (b : Buffer) (k i : ℕ) → length (entries_from b k i) ≡ k
unfolding entries_from
entries_length b zero i = refl
entries_length b (suc k) i = ap suc (entries_length b k (suc i))

entries_map : (b : Buffer) (f : Entry → ℕ) (xs : List ℕ) → ((j : ℕ) → f (entry_at b j) ≡ get_or xs j 0) → (k i : ℕ) → i + k ≤ length xs
    → map f (entries_from b k i) ≡ take k (drop i xs)
unfolding entries_from
entries_map b f xs p zero i h = refl
entries_map b f xs p (suc k) i h =
    let l : i < length xs = omega arith in
    rw (drop-cons xs i 0 l) (λ j. p i j ∷ entries_map b f xs p k (suc i) (omega arith) j)

-- The marks

three_words : (w : List ℕ) → length w ≡ 3 → w ≡ get_or w 0 0 ∷ get_or w 1 0 ∷ get_or w 2 0 ∷ []
three_words [] e = absurd (omega arith)
three_words (a ∷ []) e = absurd (omega arith)
three_words (a ∷ b ∷ []) e = absurd (omega arith)
three_words (a ∷ b ∷ c ∷ []) e = refl
three_words (a ∷ b ∷ c ∷ d ∷ w) e = absurd (omega arith)

same_words_lem : (ss w : List ℕ) → length w ≡ 3 → same_words (words_of ss) w ≡ true → words_of ss ≡ w
same_words_lem ss w e h =
    let a = in_turn_lem (eqb (word_at 0 ss) (get_or w 0 0)) _ h in
    let c = in_turn_lem (eqb (word_at 1 ss) (get_or w 1 0)) _ a.1 in
    let p = eqb-true (word_at 0 ss) (get_or w 0 0) a.0 in
    let q = eqb-true (word_at 1 ss) (get_or w 1 0) c.0 in
    let r = eqb-true (word_at 2 ss) (get_or w 2 0) c.1 in
    (λ j. p j ∷ q j ∷ r j ∷ []) ∙ sym (three_words w e)

words_same : {v w : List ℕ} → v ≡ w → same_words v w ≡ true
words_same {w = w} e = ap (λ (v : List ℕ). same_words v w) e ∙ and_then (eqb (get_or w 0 0) (get_or w 0 0)) _ (eq-eqb (get_or w 0 0) (get_or w 0 0) refl)
    (and_then (eqb (get_or w 1 0) (get_or w 1 0)) _ (eq-eqb (get_or w 1 0) (get_or w 1 0) refl) (eq-eqb (get_or w 2 0) (get_or w 2 0) refl))

-- The flag

flag_is : (d : ℕ) → is_flag d ≡ true → flag_of (eqb d 1) ≡ d
flag_is = by_flag (λ (d : ℕ). flag_of (eqb d 1) ≡ d) refl refl

is_flag_lem : (d : Bool) → is_flag (flag_of d) ≡ true
is_flag_lem true = refl
is_flag_lem false = refl

module _ (b : Buffer) where
  entries_octets : (k i : ℕ) → Octets (entries_from b k i)
  entries_octets k i e m = entries_each b (λ x. x.channel < 256) (λ j. let z : tag_channel (get_or b.tags j 0) < 256 = omega arith in z) k i e m

  entries_word : ((i : ℕ) → get_or b.times i 0 < 2 ^ 32) → (k i : ℕ) (e : Entry) → Memᴰ e (entries_from b k i) → e.time < 2 ^ 32
  entries_word w k i e m = entries_each b (λ x. x.time < 2 ^ 32) w k i e m

-- A well-formed buffer

module _ (b : Buffer) (machine : Machine b) (ok : well_formed b ≡ true) where
  abbrev n : ℕ
  n = held_in b.occupied

  pub decode_length : length (decode b).entries ≡ held_in b.occupied
  decode_length = entries_length b n 0

  record Tests : Type 0 where
    pub flag : is_flag b.drawn ≡ true
    pub rest : unused_zero b.times b.tags b.lengths b.slots n ≡ true
    pub marks : marks_kept b ≡ true
    pub held : fine (model b) ≡ true

  tests : Tests
  unfolding well_formed
  tests = let a = both ok in let c = both a.0 in let d = both c.0 in record { flag = d.0; rest = d.1; marks = c.1; held = a.1 }

  pub facts : Facts b.settings (decode b)
  facts = fine_facts b.settings (decode b) (entries_octets b n 0) tests.held

  pub held_room : held_in b.occupied ≤ slots
  held_room = omega (arith, facts.room, decode_length)

  pub words_held : words_of (slots_of (decode b).entries) ≡ b.occupied
  words_held = same_words_lem (slots_of (decode b).entries) b.occupied machine.occupied tests.marks

  pub times_word : (e : Entry) → Memᴰ e (decode b).entries → e.time < 2 ^ 32
  times_word e m = entries_word b machine.times.1 n 0 e m

  column_back : (f : Entry → ℕ) (xs : List ℕ) → ((j : ℕ) → f (entry_at b j) ≡ get_or xs j 0) → length xs ≡ slots → zeros (drop n xs) ≡ true
      → column f (decode b).entries ≡ xs
  column_back f xs p e z =
      ap (pad_to slots) (entries_map b f xs p n 0 (omega (arith, held_room))) ∙ ap (λ (m : ℕ). pad_to m (take n xs)) (sym e) ∙ pad_take n xs z

  pub encode_decode : encode b.settings (decode b) ≡ b
  encode_decode =
      let r = both tests.rest in
      let q = both r.0 in
      let p = both q.0 in
      λ i. record {
        times = column_back (λ e. e.time) b.times (λ j. refl) machine.times.0 p.0 i;
        tags = column_back entry_tag b.tags (λ j. tag_back (get_or b.tags j 0)) machine.tags.0 p.1 i;
        lengths = column_back (λ e. e.length) b.lengths (λ j. refl) machine.lengths.0 q.1 i;
        slots = column_back slot_of b.slots (λ j. refl) machine.slots_column.0 r.1 i;
        occupied = words_held i;
        last_time = b.last_time;
        last_channel = b.last_channel;
        drawn = flag_is b.drawn tests.flag i;
        settings = b.settings;
      }

-- The encoding of a model

module _ (st : Settings) (h : Held) (F : Facts st h) where
  pub back : decode (encode st h) ≡ h
  back = decode_encode st h F.room (λ e m. in_tag st e (F.each e m)) F.slot_facts

  zero_rest_of : (f : Entry → ℕ) → zeros (drop (held_in (words_of (slots_of h.entries))) (column f h.entries)) ≡ true
  zero_rest_of f =
      ap (λ (k : ℕ). zeros (drop k (column f h.entries))) (held_slots h.entries F.slot_facts ∙ sym (length-map h.entries f))
      ∙ pad_zeros slots (map f h.entries)

  pub well_formed_lem : well_formed (encode st h) ≡ true
  unfolding well_formed
  well_formed_lem =
      and (and (and (is_flag_lem h.drawn) (and (and (and (zero_rest_of (λ e. e.time)) (zero_rest_of entry_tag)) (zero_rest_of (λ e. e.length))) (zero_rest_of slot_of)))
      (words_same (ap (λ (g : Held). words_of (slots_of g.entries)) back)))
      (ap (λ (g : Held). fine (record { settings = st; held = g })) back ∙ facts_fine st h F)

pub fresh_formed : (st : Settings) → well_formed (fresh st) ≡ true
unfolding well_formed fine ascending slots_apart entries_fine zeros entries_from ones word_at
fresh_formed st = refl
