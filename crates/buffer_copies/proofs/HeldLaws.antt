-- What holds of the entries of a well-formed buffer, and that judging copies and drawing the first entry keep it.
use mathlib.Core.Path.{◌≡◌, refl, sym, ap, subst, ◌∙◌}
use mathlib.Core.Logic.{◌⊎◌, inl, inr}
use mathlib.Core.List.Memᴰ.{cases_cons as cases}
use mathlib.Core.List.Memᴰ.{head as here}
use mathlib.Core.List.Memᴰ.{not-nil as nowhere}
use mathlib.Core.List.Memᴰ.{tail as there}
use mathlib.Core.List.{List, [], ◌∷◌, Memᴰ}
use mathlib.Core.Bool.{Bool, true, false, not, ◌||◌, true≢false, and-eq-true_iff}
use mathlib.Core.Option.{some}
use Prim.Native.Nat.{ℕ, ◌*◌, ◌^◌, ◌≤◌, ◌<◌, Ordering}
use native.Mathlib.Omega.{arith}
use lib.ListN.{length, drop, length-drop}
use lib.Seq.{length-take-le}
use lib.Dec.{ltb}
use borrow.Author.Tests.{ltb-true}
use Rattle.row_tags.specs.Tags.{either_mark}
use Rattle.row_tags.proofs.TagLaws.{either_small}
use Rattle.buffer_copies.specs.Sizes.{slots, slot_size, store_size}
use Rattle.buffer_copies.specs.Pairs.{half, ahead, order, is_after}
use Rattle.formats.specs.Frames.{FrameClass}
use Rattle.buffer_copies.specs.Copies.{Copy, Received}
use Rattle.buffer_copies.specs.Entries.{Entry, Held, frame_of, view, entry_of, remarked, side_of_entry, find_by, free_slot, always, placed, stored}
use Rattle.buffer_copies.specs.Verdicts.{is_late, is_far, all_within, fits, holding, judge, judge_all}
use Rattle.buffer_copies.specs.Lists.{copies_of}
use Rattle.buffer_copies.proofs.InsertionLaws.{compare_is, by_key, Asc, Chain, Agree, asc_chain, chain_asc, put_from, find_mem, put_cong, put_asc}
use Rattle.buffer_copies.proofs.DistinctLaws.{differ_one}
use Rattle.buffer_copies.proofs.WrapLaws.{ahead_self, Near, place, after_near, place_near, order_place, order_after}
use Rattle.buffer_copies.proofs.SlotLaws.{slot_of, OwnSlots, Clash, put_slots, slot_unused, free_slot_lem, stored_length}
use Rattle.buffer_copies.proofs.JudgeLaws.{find_pair, found_again, judge_cases}

-- a copy that a row of a class other than no data gives
pub record IsFrame (x : Copy) : Type 0 where
  pub word : x.time < 2 ^ 32
  pub octet : x.channel < 256
  pub class : FrameClass x.class
  pub size : length x.bytes ≤ slot_size

abbrev pub Frames : List Copy → Type 0
Frames cs = (x : Copy) → Memᴰ x cs → IsFrame x

-- marks of 0 or 1
abbrev pub Marks : List Received → Type 0
Marks xs = (x : Received) → Memᴰ x xs → x.primary < 2

pub record IsEntry (e : Entry) : Type 0 where
  pub word : e.time < 2 ^ 32
  pub octet : e.channel < 256
  pub class : FrameClass e.class
  pub size : e.length ≤ slot_size
  pub slot : e.slot < slots
  pub mark : e.primary < 2

-- each after the one before
abbrev pub Rising : List Entry → Type 0
Rising es = Chain side_of_entry es

-- less than half the range of time ahead of the first
abbrev pub Stretch : List Entry → Type 0
Stretch [] = Unit {0}
Stretch (e ∷ es) = (f : Entry) → Memᴰ f (e ∷ es) → ahead f.time e.time < half

abbrev pub AfterLast : Held → Entry → Type 0
AfterLast h e = order e.time e.channel h.last_time h.last_channel ≡ Ordering.gt

pub record HeldFacts (h : Held) (s : List ℕ) : Type 0 where
  pub rising : Rising h.entries
  pub stretch : Stretch h.entries
  pub each : (e : Entry) → Memᴰ e h.entries → IsEntry e
  pub own_slots : OwnSlots h.entries
  pub after_last : h.drawn ≡ true → (e : Entry) → Memᴰ e h.entries → AfterLast h e
  pub last_word : h.last_time < 2 ^ 32
  pub last_octet : h.last_channel < 256
  pub room : store_size ≤ length s

-- nothing held, nothing drawn
abbrev pub fresh : Held
fresh = record { entries = []; drawn = false; last_time = 0; last_channel = 0 }

pub fresh_facts : (s : List ℕ) → store_size ≤ length s → HeldFacts fresh s
fresh_facts s l = record {
  rising = tt;
  stretch = tt;
  each = λ e m. absurd (nowhere m);
  own_slots = tt;
  after_last = λ d e m. absurd (nowhere m);
  last_word = omega arith;
  last_octet = omega arith;
  room = l;
}

-- an entry holds a frame
module _ (s : List ℕ) (room : store_size ≤ length s) (e : Entry) (E : IsEntry e) where
  pub frame_length : length (frame_of s e) ≡ e.length
  frame_length = length-take-le e.length (drop (slot_size * e.slot) s) (omega (arith, length-drop (slot_size * e.slot) s, E.slot, E.size))

  pub view_frame : IsFrame (view s e)
  unfolding view
  view_frame = record { word = E.word; octet = E.octet; class = E.class; size = omega (arith, frame_length, E.size) }

-- ---- the entries within a stretch
abbrev pub entry_place : ℕ → Entry → ℕ
entry_place b e = place b e.time e.channel

-- in order, in the stretch from b
pub record Sorted (b : ℕ) (es : List Entry) : Type 0 where
  pub base : b < 2 ^ 32
  pub near : (e : Entry) → Memᴰ e es → Near b e.time e.channel
  pub asc : Asc (entry_place b) es

module _ (b : ℕ) (lb : b < 2 ^ 32) (es : List Entry) (near : (e : Entry) → Memᴰ e es → Near b e.time e.channel) where
  agree : Agree side_of_entry (entry_place b) es
  agree x y m n = order_place b lb (near x m) (near y n)

  pub rising_sorted : Rising es → Sorted b es
  rising_sorted r = record { base = lb; near = near; asc = chain_asc side_of_entry (entry_place b) es agree r }

  pub sorted_rising : Asc (entry_place b) es → Rising es
  sorted_rising a = asc_chain side_of_entry (entry_place b) es agree a

-- each is found by its pair
pub find_member : (b : ℕ) (es : List Entry) → Sorted b es → (e : Entry) → Memᴰ e es → find_by (side_of_entry e) es ≡ some e
unfolding find_by
find_member b es S e m = go es S.near S.asc m
  where
    u : Near b e.time e.channel
    u = S.near e m

    go : (es : List Entry) → ((x : Entry) → Memᴰ x es → Near b x.time x.channel) → Asc (entry_place b) es → Memᴰ e es → find_by (side_of_entry e) es ≡ some e
    go [] near asc x3 = elim x3 [ ]
    go (x ∷ es) near asc (here q) =
        let o : side_of_entry e x ≡ Ordering.eq = order_place b S.base u (near x (here refl)) ∙ sym (compare_is Ordering.eq (entry_place b e) (entry_place b x) (ap (entry_place b) q)) in
        rw o (ap some (sym q))
    go (x ∷ es) near asc (there m) =
        let o : side_of_entry e x ≡ Ordering.gt = order_after b S.base u (near x (here refl)) (asc.0 e m) in
        rw o (go es (λ y n. near y (there n)) asc.1 m)

-- all lie after the first
pub first_before : (b : ℕ) (e : Entry) (es : List Entry) → Sorted b (e ∷ es) → (f : Entry) → Memᴰ f es → side_of_entry f e ≡ Ordering.gt
first_before b e es S f m = order_after b S.base (S.near f (there m)) (S.near e (here refl)) (S.asc.0 f m)

pub sorted_stretch : (b : ℕ) (es : List Entry) → Sorted b es → Stretch es
sorted_stretch b [] S = tt
sorted_stretch b (e ∷ es) S = λ f m. later f m (cases m)
  where
    later : (f : Entry) → Memᴰ f (e ∷ es) → (f ≡ e) ⊎ Memᴰ f es → ahead f.time e.time < half
    later f m (inl q) = rw q (ahead_self e.time)
    later f m (inr n) = place_near b S.base (S.near f m) (S.near e (here refl)) (omega (arith, S.asc.0 f n))

-- a well-formed buffer is sorted from its first entry, and after a draw from the last pair
pub sorted_first : (es : List Entry) → Rising es → Stretch es → ((e : Entry) → Memᴰ e es → IsEntry e) → (b : ℕ) × Sorted b es
sorted_first [] r t each = (0, record { base = omega arith; near = λ e m. absurd (nowhere m); asc = tt })
sorted_first (e ∷ es) r t each =
    (e.time, rising_sorted e.time (each e (here refl)).word (e ∷ es) (λ f m. record { word = (each f m).word; octet = (each f m).octet; near = t f m }) r)

pub sorted_last : (h : Held) (s : List ℕ) → HeldFacts h s → h.drawn ≡ true → Sorted h.last_time h.entries
sorted_last h s S d =
    rising_sorted h.last_time S.last_word h.entries
    (λ e m. after_near e.time e.channel h.last_time h.last_channel (S.each e m).word (S.each e m).octet (S.after_last d e m)) S.rising

-- ---- a copy that is neither late nor far lies in a stretch with the entries
not_after : (o : Ordering) → not (is_after o) ≡ false → o ≡ Ordering.gt
not_after Ordering.lt e = absurd (true≢false e)
not_after Ordering.eq e = absurd (true≢false e)
not_after Ordering.gt e = refl

not_false : (b : Bool) → not b ≡ false → b ≡ true
not_false true e = refl
not_false false e = absurd (true≢false e)

pub all_within_lem : (b : ℕ) (es : List Entry) → all_within b es ≡ true → (e : Entry) → Memᴰ e es → ahead e.time b < half
unfolding all_within
all_within_lem b [] p e x'' = elim x'' [ ]
all_within_lem b (h ∷ t) p e (here q) = rw q (ltb-true (ahead h.time b) half ((and-eq-true_iff (ltb (ahead h.time b) half) (all_within b t)).0 p).0)
all_within_lem b (h ∷ t) p e (there m) = all_within_lem b t ((and-eq-true_iff (ltb (ahead h.time b) half) (all_within b t)).0 p).1 e m

-- a time from which the copy and the entries are less than half the range ahead
pub fits_base : (t : ℕ) (es : List Entry) → t < 2 ^ 32 → ((e : Entry) → Memᴰ e es → e.time < 2 ^ 32) → Stretch es → fits t es ≡ true → (b : ℕ) × (b < 2 ^ 32) × (ahead t b < half) × ((e : Entry) → Memᴰ e es → ahead e.time b < half)
unfolding fits
fits_base t [] lt word r p = (t, lt, ahead_self t, λ e m. absurd (nowhere m))
fits_base t (h ∷ es) lt word r p = go (ltb (ahead t h.time) half) refl p
  where
    go : (d : Bool) → ltb (ahead t h.time) half ≡ d → (d || all_within t (h ∷ es)) ≡ true → (b : ℕ) × (b < 2 ^ 32) × (ahead t b < half) × ((e : Entry) → Memᴰ e (h ∷ es) → ahead e.time b < half)
    go true q p = (h.time, word h (here refl), ltb-true (ahead t h.time) half q, r)
    go false q p = (t, lt, ahead_self t, all_within_lem t (h ∷ es) p)

module _ (h : Held) (s : List ℕ) (c : Copy) (S : HeldFacts h s) (F : IsFrame c) where
  -- after a draw, what is not late is after the last pair
  pub not_late : is_late h c ≡ false → h.drawn ≡ true → order c.time c.channel h.last_time h.last_channel ≡ Ordering.gt
  not_late l d = not_after (order c.time c.channel h.last_time h.last_channel) (rw d at l)

  -- before a draw, what is not far fits
  pub not_far : is_far h c ≡ false → h.drawn ≡ false → fits c.time h.entries ≡ true
  not_far f d = not_false (fits c.time h.entries) (rw d at f)

  pub sorted_with : is_late h c ≡ false → is_far h c ≡ false → (b : ℕ) × Sorted b h.entries × Near b c.time c.channel
  sorted_with l f = go h.drawn refl
    where
      go : (d : Bool) → h.drawn ≡ d → (b : ℕ) × Sorted b h.entries × Near b c.time c.channel
      go true d = (h.last_time, sorted_last h s S d, after_near c.time c.channel h.last_time h.last_channel F.word F.octet (not_late l d))
      go false d =
          let k = fits_base c.time h.entries F.word (λ e m. (S.each e m).word) S.stretch (not_far f d) in
          (k.0, rising_sorted k.0 k.1 h.entries (λ e m. record { word = (S.each e m).word; octet = (S.each e m).octet; near = k.3 e m }) S.rising, record { word = F.word; octet = F.octet; near = k.2 })

  -- ---- an entry in its place, over a store with room
  module _ (b : ℕ) (T : Sorted b h.entries) (n : Entry) (N : Near b n.time n.channel) where
    near_placed : (e : Entry) → Memᴰ e (placed n h.entries) → Near b e.time e.channel
    unfolding placed
    near_placed e m = go (put_from side_of_entry always n h.entries e m)
      where
        go : (e ≡ n) ⊎ Memᴰ e h.entries → Near b e.time e.channel
        go (inl q) = subst (λ (x : Entry). Near b x.time x.channel) (sym q) N
        go (inr m) = T.near e m

    pub placed_sorted : Sorted b (placed n h.entries)
    placed_sorted = record { base = T.base; near = near_placed; asc = asc_placed }
      where
        agree_new : (y : Entry) → Memᴰ y h.entries → side_of_entry n y ≡ by_key (entry_place b) n y
        agree_new y m = order_place b T.base N (T.near y m)

        asc_placed : Asc (entry_place b) (placed n h.entries)
        asc_placed =
            unfold placed in
            (rw (put_cong side_of_entry (by_key (entry_place b)) always n h.entries agree_new)
            (put_asc (entry_place b) always n h.entries T.asc))

    pub placed_facts : (t : List ℕ) → store_size ≤ length t → IsEntry n → (h.drawn ≡ true → AfterLast h n) → Clash n h.entries → HeldFacts (holding n h) t
    placed_facts t room new after q = record {
      rising = sorted_rising b T.base (placed n h.entries) near_placed placed_sorted.asc;
      stretch = sorted_stretch b (placed n h.entries) placed_sorted;
      each = λ e m. inside e (unfold placed in put_from side_of_entry always n h.entries e m);
      own_slots = unfold placed in put_slots n h.entries S.own_slots q;
      after_last = λ d e m. later d e (unfold placed in put_from side_of_entry always n h.entries e m);
      last_word = S.last_word;
      last_octet = S.last_octet;
      room = room;
    }
      where
        inside : (e : Entry) → (e ≡ n) ⊎ Memᴰ e h.entries → IsEntry e
        inside e (inl p) = subst IsEntry (sym p) new
        inside e (inr m) = S.each e m

        later : h.drawn ≡ true → (e : Entry) → (e ≡ n) ⊎ Memᴰ e h.entries → AfterLast h e
        later d e (inl p) = subst (λ (x : Entry). AfterLast h x) (sym p) (after d)
        later d e (inr m) = S.after_last d e m

  -- ---- one copy judged
  -- the slot of the entry that is replaced, and a free one
  pub found_clash : (mark : ℕ) (e : Entry) → find_pair c h.entries ≡ some e → (e.slot < slots) × Clash (entry_of c mark e.slot) h.entries
  unfolding entry_of
  found_clash mark e w =
      let m = find_mem (side_of_entry (entry_of c 0 0)) h.entries e w in
      ((S.each e m).slot, λ y n v. w ∙ ap some (differ_one slot_of h.entries S.own_slots e y m n v))

  pub free_clash : (mark : ℕ) → length h.entries < slots → (free_slot h.entries < slots) × Clash (entry_of c mark (free_slot h.entries)) h.entries
  unfolding entry_of
  free_clash mark l =
      let f = free_slot_lem h.entries l in
      (f.0, λ y n v. absurd (slot_unused (free_slot h.entries) h.entries f.1 y n v))

  -- a copy laid into a slot
  laid_facts : (mark k : ℕ) → mark < 2 → is_late h c ≡ false → is_far h c ≡ false → (k < slots) × Clash (entry_of c mark k) h.entries → HeldFacts (holding (entry_of c mark k) h) (stored s k c.bytes)
  laid_facts mark k lm u v f =
      let t = sorted_with u v in
      placed_facts t.0 t.1 (entry_of c mark k) (unfold entry_of in t.2) (stored s k c.bytes) (rw (stored_length c h.entries s S.room F.size k f.0) S.room)
      (unfold entry_of in record { word = F.word; octet = F.octet; class = F.class; size = F.size; slot = f.0; mark = lm })
      (λ d. unfold entry_of in not_late u d) f.1

  -- an entry held, with another mark
  remarked_facts : (mark : ℕ) (e : Entry) → mark < 2 → is_late h c ≡ false → is_far h c ≡ false → find_pair c h.entries ≡ some e → HeldFacts (holding (remarked mark e) h) s
  unfolding remarked
  remarked_facts mark e lm u v w =
      let t = sorted_with u v in
      let m = find_mem (side_of_entry (entry_of c 0 0)) h.entries e w in
      let E = S.each e m in
      placed_facts t.0 t.1 (remarked mark e) (t.1.near e m) s S.room
      (record { word = E.word; octet = E.octet; class = E.class; size = E.size; slot = E.slot; mark = lm })
      (λ d. S.after_last d e m)
      (λ y n q. found_again c mark h.entries e w ∙ ap some (differ_one slot_of h.entries S.own_slots e y m n q))

  pub judge_facts : (mark : ℕ) → mark < 2 → HeldFacts (judge h s c mark).held (judge h s c mark).store
  judge_facts mark lm =
      judge_cases h s c mark (λ j. HeldFacts j.held j.store)
      (λ u. S) (λ u v. S)
      (λ u v e w q. remarked_facts (either_mark e.primary mark) e (either_small e.primary mark (old e w) lm) u v w)
      (λ u v e w q. let m = either_mark mark e.primary in laid_facts m e.slot (either_small mark e.primary lm (old e w)) u v (found_clash m e w))
      (λ u v w q. S)
      (λ u v w q. laid_facts mark (free_slot h.entries) lm u v (free_clash mark q))
    where
      old : (e : Entry) → find_pair c h.entries ≡ some e → e.primary < 2
      old e w = (S.each e (find_mem (side_of_entry (entry_of c 0 0)) h.entries e w)).mark

  pub judge_length : (mark : ℕ) → length (judge h s c mark).store ≡ length s
  judge_length mark =
      judge_cases h s c mark (λ j. length j.store ≡ length s)
      (λ u. refl) (λ u v. refl) (λ u v e w q. refl)
      (λ u v e w q. stored_length c h.entries s S.room F.size e.slot (found_clash mark e w).0)
      (λ u v w q. refl)
      (λ u v w q. stored_length c h.entries s S.room F.size (free_slot h.entries) (free_clash mark q).0)

-- ---- copies judged in turn
pub judge_all_facts : (h : Held) (s : List ℕ) (xs : List Received) → HeldFacts h s → Frames (copies_of xs) → Marks xs → HeldFacts (judge_all h s xs).held (judge_all h s xs).store
unfolding judge_all
judge_all_facts h s [] S F M = S
judge_all_facts h s (x ∷ xs) S F M =
    let j = judge h s x.copy x.primary in
    judge_all_facts j.held j.store xs (judge_facts h s x.copy S (F x.copy (here refl)) x.primary (M x (here refl))) (λ y m. F y (there m)) (λ y m. M y (there m))

pub judge_all_length : (h : Held) (s : List ℕ) (xs : List Received) → HeldFacts h s → Frames (copies_of xs) → Marks xs → length (judge_all h s xs).store ≡ length s
unfolding judge_all
judge_all_length h s [] S F M = refl
judge_all_length h s (x ∷ xs) S F M =
    let j = judge h s x.copy x.primary in
    let f = F x.copy (here refl) in
    judge_all_length j.held j.store xs (judge_facts h s x.copy S f x.primary (M x (here refl))) (λ y m. F y (there m)) (λ y m. M y (there m))
    ∙ judge_length h s x.copy S f x.primary

-- ---- the first entry drawn
abbrev pub drawn_first : Entry → List Entry → Held
drawn_first e es = record { entries = es; drawn = true; last_time = e.time; last_channel = e.channel }

module _ (h : Held) (s : List ℕ) (e : Entry) (es : List Entry) (q : h.entries ≡ e ∷ es) (S : HeldFacts h s) where
  each_left : (f : Entry) → Memᴰ f (e ∷ es) → IsEntry f
  each_left = rw q at S.each

  left : (b : ℕ) × Sorted b (e ∷ es)
  left = sorted_first (e ∷ es) (rw q at S.rising) (rw q at S.stretch) each_left

  -- all entries left are after it
  pub rest_after : (f : Entry) → Memᴰ f es → AfterLast (drawn_first e es) f
  rest_after f m = first_before left.0 e es left.1 f m

  pub draw_facts : HeldFacts (drawn_first e es) s
  draw_facts =
      let T = left.1 in
      let own : OwnSlots (e ∷ es) = rw q at S.own_slots in
      let R : Sorted left.0 es = record { base = T.base; near = λ f m. T.near f (there m); asc = T.asc.1 } in
      record {
        rising = sorted_rising left.0 R.base es R.near R.asc;
        stretch = sorted_stretch left.0 es R;
        each = λ f m. each_left f (there m);
        own_slots = own.1;
        after_last = λ d. rest_after;
        last_word = (each_left e (here refl)).word;
        last_octet = (each_left e (here refl)).octet;
        room = S.room;
      }
