-- The columns of a list of entries: what they hold, and what insertion, replacement and removal make of them. Decoding an encoded model gives it back.
use Prim.Native.Nat.{ℕ, zero, suc, ◌+◌, ◌-◌, ◌≤◌, ◌<◌, zero-le, suc-le-suc}
use mathlib.Core.Path.{◌≡◌, refl, sym, ap, subst, ◌∙◌}
use mathlib.Core.List.Memᴰ.{head as here}
use mathlib.Core.List.Memᴰ.{not-nil as nowhere}
use mathlib.Core.List.Memᴰ.{tail as there}
use mathlib.Core.List.{List, [], ◌∷◌, ◌++◌, map, Memᴰ}
use mathlib.Core.Bool.{Bool, true, false}
use native.Mathlib.Nat.{not-suc-le-zero, le_of_suc-le-suc, add-zero, add-suc, suc-add, zero-add}
use native.Mathlib.Omega.{arith}
use lib.Dec.{eqb}
use borrow.Author.Tests.{ne_eqb}
use lib.ListN.{length, get_or, take, drop, set, length-map, get_or-map}
use lib.Seq.{map-set_same}
use Rattle.rtp.specs.declared.settings.Settings.{Settings}
use Rattle.rtp.proofs.TestLaws.{not-both}
use Rattle.row_tags.specs.Tags.{tag_of, tag_mark, tag_class, tag_channel}
use Rattle.row_tags.proofs.TagLaws.{of_parts, mark_of, class_of}
use Rattle.buffer_copies.specs.Sizes.{slots}
use Rattle.buffer_copies.specs.Entries.{Entry, Held}
use Rattle.buffer_layout.specs.declared.buffer.Buffer.{Buffer}
use Rattle.buffer_slots.specs.Bits.{weight, word_at, words_of, marked, unmarked}
use Rattle.buffer_layout.specs.Columns.{insert_at, remove_first}
use Rattle.buffer_layout.specs.Layout.{entry_tag, pad_to, column, flag_of, encode, entry_at, entries_from, decode, is_flag, fresh}
use Rattle.buffer_layout.proofs.ColumnLaws.{inserting, insert_start, inserted, map_inserted}
use Rattle.buffer_slots.proofs.WordLaws.{slot_of, slots_of, SlotFacts, held_slots, mark_adds, words_rest}

abbrev pub no_entry : Entry
no_entry = record { time = 0; channel = 0; class = 0; length = 0; slot = 0; primary = 0 }

-- Padded lists

pad_skip : (n : ℕ) (xs : List ℕ) → length xs ≤ n → take (length xs) (pad_to (suc n) xs) ++ drop (suc (length xs)) (pad_to (suc n) xs) ≡ pad_to n xs
unfolding pad_to
pad_skip n [] h = refl
pad_skip zero (x ∷ xs) h = absurd (not-suc-le-zero h)
pad_skip (suc n) (x ∷ xs) h = ap (λ (l : List ℕ). x ∷ l) (pad_skip n xs (le_of_suc-le-suc h))

pad_insert : (n : ℕ) (xs : List ℕ) (k i v : ℕ) → i + k ≡ suc (length xs) → i ≤ length xs → length xs < n
    → inserting (pad_to n xs) (suc (length xs)) k i v ≡ pad_to n (inserted i v xs)
unfolding pad_to inserted
pad_insert zero xs k i v e h l = absurd (not-suc-le-zero l)
pad_insert (suc n) xs k zero v e h l =
    let q : k ≡ suc (length xs) = omega arith in
    rw q (ap (λ (l : List ℕ). v ∷ l) (pad_skip n xs (le_of_suc-le-suc l)))
pad_insert (suc n) [] k (suc i) v e h l = absurd (not-suc-le-zero h)
pad_insert (suc n) (x ∷ xs) k (suc i) v e h l = ap (λ (l : List ℕ). x ∷ l) (pad_insert n xs k i v (omega arith) (le_of_suc-le-suc h) (le_of_suc-le-suc l))

pad_set : (n : ℕ) (xs : List ℕ) (i v : ℕ) → i < length xs → set (pad_to n xs) i v ≡ pad_to n (set xs i v)
unfolding pad_to
pad_set zero xs i v h = refl
pad_set (suc n) [] i v h = absurd (not-suc-le-zero h)
pad_set (suc n) (x ∷ xs) zero v h = refl
pad_set (suc n) (x ∷ xs) (suc i) v h = ap (λ (l : List ℕ). x ∷ l) (pad_set n xs i v (le_of_suc-le-suc h))

pad_rest : (n : ℕ) (xs : List ℕ) → length xs ≤ n → take (length xs) (pad_to n xs) ++ (0 ∷ drop (length xs) (pad_to n xs)) ≡ pad_to (suc n) xs
unfolding pad_to
pad_rest n [] h = refl
pad_rest zero (x ∷ xs) h = absurd (not-suc-le-zero h)
pad_rest (suc n) (x ∷ xs) h = ap (λ (l : List ℕ). x ∷ l) (pad_rest n xs (le_of_suc-le-suc h))

pad_at : (n i : ℕ) (xs : List ℕ) → i < n → get_or (pad_to n xs) i 0 ≡ get_or xs i 0
unfolding pad_to
pad_at zero i xs h = absurd (not-suc-le-zero h)
pad_at (suc n) zero [] h = refl
pad_at (suc n) zero (x ∷ xs) h = refl
pad_at (suc n) (suc i) [] h = pad_at n i [] (le_of_suc-le-suc h)
pad_at (suc n) (suc i) (x ∷ xs) h = pad_at n i xs (le_of_suc-le-suc h)

pub pad_length : (n : ℕ) (xs : List ℕ) → length (pad_to n xs) ≡ n
unfolding pad_to
pad_length zero xs = refl
pad_length (suc n) [] = ap suc (pad_length n [])
pad_length (suc n) (x ∷ xs) = ap suc (pad_length n xs)

-- Columns of entries

module _ (f : Entry → ℕ) where
  pub column_length : (es : List Entry) → length (column f es) ≡ slots
  column_length es = pad_length slots (map f es)

  -- the value at a place
  pub column_at : (es : List Entry) (i : ℕ) → f no_entry ≡ 0 → i < slots → get_or (column f es) i 0 ≡ f (get_or es i no_entry)
  column_at es i z h = pad_at slots i (map f es) h ∙ ap (get_or (map f es) i) (sym z) ∙ get_or-map f es i no_entry

  pub column_insert : (es : List Entry) (i : ℕ) (e : Entry) → i ≤ length es → length es < slots
      → column f (inserted i e es) ≡ insert_at (column f es) (length es) i (f e)
  column_insert es i e h l =
      let q : suc (length (map f es)) ≡ length es + 1 = omega (arith, length-map es f) in
      ap (pad_to slots) (map_inserted f i e es)
      ∙ sym (pad_insert slots (map f es) (length es + 1 - i) i (f e) (omega (arith, length-map es f)) (omega (arith, length-map es f)) (omega (arith, length-map es f)))
      ∙ ap (λ (m : ℕ). inserting (column f es) m (length es + 1 - i) i (f e)) q
      ∙ insert_start (column f es) (length es) i (f e) h

  pub column_set : (es : List Entry) (i : ℕ) (e : Entry) → i < length es → column f (set es i e) ≡ set (column f es) i (f e)
  column_set es i e h = ap (pad_to slots) (map_set es i) ∙ sym (pad_set slots (map f es) i (f e) (omega (arith, length-map es f)))
    where
      map_set : (es : List Entry) (i : ℕ) → map f (set es i e) ≡ set (map f es) i (f e)
      map_set [] i = refl
      map_set (x ∷ es) zero = refl
      map_set (x ∷ es) (suc i) = ap (λ (l : List ℕ). f x ∷ l) (map_set es i)

  -- a replacement that keeps the value
  pub column_same : (es : List Entry) (i : ℕ) (e : Entry) → f e ≡ f (get_or es i no_entry) → column f (set es i e) ≡ column f es
  column_same es i e h = ap (pad_to slots) (map-set_same f es i e no_entry h)

  pub column_rest : (e : Entry) (es : List Entry) → length (e ∷ es) ≤ slots → column f es ≡ remove_first (column f (e ∷ es)) (length (e ∷ es))
  unfolding remove_first pad_to
  column_rest e es h =
      sym (rest (length-map es f) (pad_rest 191 (map f es) (omega (arith, length-map es f))))
    where
      rest : {m : ℕ} → m ≡ length es → take m (pad_to 191 (map f es)) ++ (0 ∷ drop m (pad_to 191 (map f es))) ≡ pad_to 192 (map f es)
          → take (suc (length es) - 1) (pad_to 191 (map f es)) ++ (0 ∷ drop (length es) (pad_to 191 (map f es))) ≡ pad_to 192 (map f es)
      rest q p = let z : suc (length es) - 1 ≡ length es = omega arith in rw (z, ← q) p

  pub column_first : (e : Entry) (es : List Entry) → get_or (column f (e ∷ es)) 0 0 ≡ f e
  unfolding pad_to
  column_first e es = refl

-- The words of their slots

word_inserted : (k i s : ℕ) (ss : List ℕ) → word_at k (inserted i s ss) ≡ word_at k ss + weight k s
unfolding inserted word_at
word_inserted k zero s ss = omega arith
word_inserted k (suc i) s [] = omega arith
word_inserted k (suc i) s (x ∷ ss) = omega (arith, word_inserted k i s ss)

words_inserted : (i s : ℕ) (ss : List ℕ) → s < slots → words_of (inserted i s ss) ≡ marked (words_of ss) s
words_inserted i s ss l = sym (mark_adds ss (inserted i s ss) s l (word_inserted 0 i s ss) (word_inserted 1 i s ss) (word_inserted 2 i s ss))

pub words_insert : (es : List Entry) (i : ℕ) (e : Entry) → e.slot < slots → words_of (slots_of (inserted i e es)) ≡ marked (words_of (slots_of es)) e.slot
words_insert es i e h = ap words_of (map_inserted slot_of i e es) ∙ words_inserted i e.slot (slots_of es) h

pub words_set : (es : List Entry) (i : ℕ) (e : Entry) → e.slot ≡ (get_or es i no_entry).slot → words_of (slots_of (set es i e)) ≡ words_of (slots_of es)
words_set es i e h = ap words_of (map-set_same slot_of es i e no_entry h)

pub words_remove : (e : Entry) (es : List Entry) → e.slot < slots → words_of (slots_of es) ≡ unmarked (words_of (slots_of (e ∷ es))) e.slot
words_remove e es h = words_rest e.slot (slots_of es) h

-- Decoding

-- channels that a tag can hold
abbrev pub Octets : List Entry → Type 0
Octets es = (e : Entry) → Memᴰ e es → e.channel < 256

pub at_member : (es : List Entry) (i : ℕ) → i < length es → Memᴰ (get_or es i no_entry) es
at_member [] i h = absurd (not-suc-le-zero h)
at_member (e ∷ es) zero h = here refl
at_member (e ∷ es) (suc i) h = there (at_member es i (le_of_suc-le-suc h))

pub tag_back : (g : ℕ) → tag_of (tag_mark g) (tag_class g) (tag_channel g) ≡ g
tag_back g = of_parts g

pub tag_channel_lem : (e : Entry) → e.channel < 256 → tag_channel (entry_tag e) ≡ e.channel
tag_channel_lem e h = omega arith

-- all that a tag can hold
pub record InTag (e : Entry) : Type 0 where
  pub mark : e.primary < 2
  pub class : e.class < 256
  pub octet : e.channel < 256

tag_mark_lem : (e : Entry) → InTag e → tag_mark (entry_tag e) ≡ e.primary
tag_mark_lem e t = mark_of e.primary e.class e.channel t.mark t.class t.octet

tag_class_lem : (e : Entry) → InTag e → tag_class (entry_tag e) ≡ e.class
tag_class_lem e t = class_of e.primary e.class e.channel t.mark t.class t.octet

-- entries read one by one
pub entries_list : (b : Buffer) (es : List Entry) (i : ℕ) → ((j : ℕ) → j < length es → entry_at b (i + j) ≡ get_or es j no_entry) → entries_from b (length es) i ≡ es
unfolding entries_from
entries_list b [] i p = refl
entries_list b (e ∷ es) i p =
    λ k. (ap (entry_at b) (sym (add-zero i)) ∙ p 0 (suc-le-suc zero-le)) k
    ∷ entries_list b es (suc i) (λ j h. ap (entry_at b) (suc-add i j ∙ sym (add-suc i j)) ∙ p (suc j) (suc-le-suc h)) k

-- what holds of the entry at each place
pub entries_each : (b : Buffer) (P : Entry → Type 0) → ((i : ℕ) → P (entry_at b i)) → (k i : ℕ) (e : Entry) → Memᴰ e (entries_from b k i) → P e
unfolding entries_from
entries_each b P p zero i e m = absurd (nowhere m)
entries_each b P p (suc k) i e (here q) = subst P (sym q) (p i)
entries_each b P p (suc k) i e (there m) = entries_each b P p k (suc i) e m

-- a flag is 0 or 1
pub by_flag : (P : ℕ → Type 0) → P 0 → P 1 → (d : ℕ) → is_flag d ≡ true → P d
by_flag P p q zero h = p
by_flag P p q (suc zero) h = q
by_flag P p q (suc (suc d)) h = not-both false (rw (ne_eqb (suc (suc d)) 0 (omega arith), ne_eqb (suc (suc d)) 1 (omega arith)) at h) refl

flag_back : (d : Bool) → eqb (flag_of d) 1 ≡ d
flag_back true = refl
flag_back false = refl

module _ (st : Settings) (h : Held) (room : length h.entries ≤ slots) (tagged : (e : Entry) → Memᴰ e h.entries → InTag e) where
  entry_back : (i : ℕ) → i < length h.entries → entry_at (encode st h) i ≡ get_or h.entries i no_entry
  entry_back i l = λ j. record {
    time = column_at (λ e. e.time) h.entries i refl (omega arith) j;
    channel = (ap tag_channel (column_at entry_tag h.entries i refl (omega arith)) ∙ tag_channel_lem (get_or h.entries i no_entry) (tagged _ (at_member h.entries i l)).octet) j;
    class = (ap tag_class (column_at entry_tag h.entries i refl (omega arith)) ∙ tag_class_lem (get_or h.entries i no_entry) (tagged _ (at_member h.entries i l))) j;
    length = column_at (λ e. e.length) h.entries i refl (omega arith) j;
    slot = column_at slot_of h.entries i refl (omega arith) j;
    primary = (ap tag_mark (column_at entry_tag h.entries i refl (omega arith)) ∙ tag_mark_lem (get_or h.entries i no_entry) (tagged _ (at_member h.entries i l))) j;
  }

  pub entries_back : entries_from (encode st h) (length h.entries) 0 ≡ h.entries
  entries_back = entries_list (encode st h) h.entries 0 (λ j l. ap (entry_at (encode st h)) (zero-add j) ∙ entry_back j l)

  pub decode_encode : SlotFacts h.entries → decode (encode st h) ≡ h
  decode_encode own = λ k. record {
    entries = (ap (λ (n : ℕ). entries_from (encode st h) n 0) (held_slots h.entries own) ∙ entries_back) k;
    drawn = flag_back h.drawn k;
    last_time = h.last_time;
    last_channel = h.last_channel;
  }

pub fresh_encode : (st : Settings) → encode st (record { entries = []; drawn = false; last_time = 0; last_channel = 0 }) ≡ fresh st
unfolding pad_to word_at
fresh_encode st = refl
