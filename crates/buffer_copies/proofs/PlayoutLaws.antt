-- What is gathered from nothing held is the playout list of the copies accepted, and there is one playout list.
use mathlib.Core.Path.{◌≡◌, refl, sym, ap, ◌∙◌}
use mathlib.Core.Logic.{◌⊎◌, inl, inr, ⊎_elim}
use mathlib.Core.List.Memᴰ
use mathlib.Core.List.Memᴰ.{cases_cons as cases}
use mathlib.Core.List.Memᴰ.{head as here}
use mathlib.Core.List.Memᴰ.{not-nil as nowhere}
use mathlib.Core.List.Memᴰ.{tail as there}
use mathlib.Core.List.{List, [], ◌∷◌, map, Memᴰ}
use mathlib.Core.Bool.{Bool, true, false, ◌||◌, true≢false}
use mathlib.Core.Option
use mathlib.Core.Option.{none, none-ne-some as none≢some, some-injective}
use Prim.Native.Nat.{ℕ, ◌^◌, ◌≤◌, ◌<◌, compare, Ordering}
use native.Mathlib.Omega.{arith}
use lib.ListN.{length, length-map}
use lib.Dec.{ltb}
use borrow.Author.Tests.{lt-ltb}
use Rattle.row_tags.specs.Tags.{either_mark}
use Rattle.buffer_copies.specs.declared.verdict.Verdict.{Verdict}
use Rattle.buffer_copies.specs.declared.verdict.Verdict.TheVariants.{Late, Far, Repeated, Better, NoRoom, Inserted}
use Rattle.buffer_copies.specs.Sizes.{slots, store_size}
use Rattle.buffer_copies.specs.Pairs.{half, ahead}
use Rattle.buffer_copies.specs.Copies.{Copy, Received, side, rank, better_frame, better}
use Rattle.buffer_copies.specs.Entries.{Entry, Held, view, views, entry_of, put, find_by, free_slot}
use Rattle.buffer_copies.specs.Verdicts.{all_within, fits, judge, Counts, no_counts, counted, Judgement, tally, Gathered, judge_all}
use Rattle.buffer_copies.specs.Lists.{Ascending, SamePair, Playout, WithinStretch, Distinct, AtMost, copies_of}
use Rattle.buffer_copies.proofs.InsertionLaws.{Cmp, cmp, Ranks, by_key, Asc, Chain, Agree, asc_chain, chain_asc, asc_one, put_longer, put_same, find_map, put_cong, Bests, bests_none, bests_like, bests_put, bests_one}
use Rattle.buffer_copies.proofs.RankLaws.{greater_self, greater_chain, greater_turn, better_equal}
use Rattle.buffer_copies.proofs.WrapLaws.{Near, place, same_place, place_near, order_place}
use Rattle.buffer_copies.proofs.SlotLaws.{laid_views, remarked_views}
use Rattle.buffer_copies.proofs.JudgeLaws.{find_pair, found_again, judge_cases, judge_last}
use Rattle.buffer_copies.proofs.HeldLaws.{IsFrame, Frames, Marks, HeldFacts, fresh, fresh_facts, entry_place, Sorted, rising_sorted, found_clash, free_clash, judge_facts}

-- ---- a verdict after which the best of the copy's pair is held
abbrev pub Settled : Verdict → Type 0
Settled Late = ⊥
Settled Far = ⊥
Settled Repeated = Unit {0}
Settled Better = Unit {0}
Settled NoRoom = ⊥
Settled Inserted = Unit {0}

module _ (h : Held) (s : List ℕ) (c : Copy) where
  find_views : find_by (side c) (views s h.entries) ≡ Option.map (view s) (find_pair c h.entries)
  unfolding view entry_of
  find_views = find_map (side c) (view s) h.entries

  -- the copies held, with this one in its place
  pub judge_views : (mark : ℕ) → HeldFacts h s → IsFrame c → Settled (judge h s c mark).verdict → views (judge h s c mark).store (judge h s c mark).held.entries ≡ put side better c (views s h.entries)
  judge_views mark S F =
      judge_cases h s c mark (λ j. Settled j.verdict → views j.store j.held.entries ≡ put side better c (views s h.entries))
      (λ u z. absurd z) (λ u v z. absurd z)
      (λ u v e w q z. let m = either_mark e.primary mark in remarked_views s m e h.entries (found_again c m h.entries e w) ∙ sym (put_same side better c (views s h.entries) (view s e) (find_views ∙ ap (Option.map (view s)) w) q))
      (λ u v e w q z. let m = either_mark mark e.primary in let f = found_clash h s c S F m e w in laid_views c h.entries s S.room F.size e.slot f.0 m S.own_slots (λ y m. (S.each y m).size) f.1 (λ y p. rw (← (some-injective e y (sym w ∙ unfold entry_of in p))) q))
      (λ u v w q z. absurd z)
      (λ u v w q z. let f = free_clash h s c S F mark q in laid_views c h.entries s S.room F.size (free_slot h.entries) f.0 mark S.own_slots (λ y m. (S.each y m).size) f.1 (λ y p. absurd (none≢some y (sym w ∙ unfold entry_of in p))))

-- ---- copies within the stretch from b
abbrev pub copy_place : ℕ → Copy → ℕ
copy_place b x = place b x.time x.channel

pub record InStretch (b : ℕ) (x : Copy) : Type 0 where
  pub frame : IsFrame x
  pub near : ahead x.time b < half

pub near_copy : (b : ℕ) (x : Copy) → InStretch b x → Near b x.time x.channel
near_copy b x u = record { word = u.frame.word; octet = u.frame.octet; near = u.near }

or_true : (p : Bool) → (p || true) ≡ true
or_true true = refl
or_true false = refl

pub within_all : (b : ℕ) (es : List Entry) → ((e : Entry) → Memᴰ e es → ahead e.time b < half) → all_within b es ≡ true
unfolding all_within
within_all b [] f = refl
within_all b (h ∷ t) f = rw (lt-ltb (ahead h.time b) half (f h (here refl)), within_all b t (λ e m. f e (there m)))

pub mem_map : {A B : Type 0} (f : A → B) (l : List A) (a : A) → Memᴰ a l → Memᴰ (f a) (map f l)
mem_map {A = A} {B = B} f [] a x' = elim x' [ ]
mem_map f (x ∷ l) a (here e) = here (ap f e)
mem_map f (x ∷ l) a (there m) = there (mem_map f l a m)

pub map_mem : {A B : Type 0} (f : A → B) (l : List A) (y : B) → Memᴰ y (map f l) → (a : A) × Memᴰ a l × (y ≡ f a)
map_mem {A = A} {B = B} f [] y x' = elim x' [ ]
map_mem f (x ∷ l) y (here e) = (x, here refl, e)
map_mem f (x ∷ l) y (there m) = let r = map_mem f l y m in (r.0, there r.1, r.2)

module _ (b : ℕ) (lb : b < 2 ^ 32) where
  pub place_same : (x y : Copy) → SamePair x y → copy_place b x ≡ copy_place b y
  place_same x y e = rw (e.0, e.1)

  pub ranks : Ranks (InStretch b) (copy_place b) better
  unfolding better_frame
  ranks = record {
    self = λ x. greater_self (rank x.class x.bytes);
    chain = λ x y z. greater_chain (rank x.class x.bytes) (rank y.class y.bytes) (rank z.class z.bytes);
    turn = λ x y. greater_turn (rank x.class x.bytes) (rank y.class y.bytes);
    equal = λ x y u v e. better_equal x y u.frame.class v.frame.class (same_place b lb (near_copy b x u) (near_copy b y v) e);
  }

  abbrev pub Best : (Copy → Type 0) → List Copy → Type 0
  Best P l = Bests (copy_place b) better ranks P l

  -- a copy in the stretch of the entries fits
  pub fits_stretch : (t c : ℕ) (es : List Entry) → Near b t c → Sorted b es → fits t es ≡ true
  unfolding fits
  fits_stretch t c [] N S = refl
  fits_stretch t c (e ∷ es) N S = go (compare (place b t c) (entry_place b e)) (cmp (place b t c) (entry_place b e))
    where
      at_e : Near b e.time e.channel
      at_e = S.near e (here refl)

      no_earlier : place b t c < entry_place b e → (y : Entry) → (y ≡ e) ⊎ Memᴰ y es → place b t c ≤ entry_place b y
      no_earlier l y (inl q) = omega (arith, ap (entry_place b) q)
      no_earlier l y (inr m) = omega (arith, S.asc.0 y m)

      go : (o : Ordering) → Cmp o (place b t c) (entry_place b e) → (ltb (ahead t e.time) half || all_within t (e ∷ es)) ≡ true
      go Ordering.lt l = rw (within_all t (e ∷ es) (λ y m. place_near b lb (S.near y m) N (no_earlier l y (cases m)))) (or_true (ltb (ahead t e.time) half))
      go Ordering.eq l = rw (lt-ltb (ahead t e.time) half (place_near b lb N at_e (omega arith)))
      go Ordering.gt l = rw (lt-ltb (ahead t e.time) half (place_near b lb N at_e (omega arith)))

  distinct : (l : List Copy) → Asc (copy_place b) l → Distinct l
  distinct [] s = tt
  distinct (h ∷ t) s = (λ e m p. omega (arith, s.0 e m, place_same h e p), distinct t s.1)

  -- ---- one copy judged, where nothing was drawn
  module _ (h : Held) (s : List ℕ) (c : Copy) (S : HeldFacts h s) (fresh-one : h.drawn ≡ false) {P : Copy → Type 0} (okc : InStretch b c) (ok : (x : Copy) → P x → InStretch b x) (B : Best P (views s h.entries)) where
    okl : (y : Copy) → Memᴰ y (views s h.entries) → InStretch b y
    okl y m = ok y (B.from y m)

    sorted : Sorted b h.entries
    sorted = rising_sorted b lb h.entries (λ e m. unfold view in near_copy b (view s e) (okl (view s e) (mem_map (view s) h.entries e m))) S.rising

    pub put_is : put side better c (views s h.entries) ≡ put (by_key (copy_place b)) better c (views s h.entries)
    put_is = put_cong side (by_key (copy_place b)) better c (views s h.entries) (λ y m. order_place b lb (near_copy b c okc) (near_copy b y (okl y m)))

    pub settled : (mark : ℕ) → (find_pair c h.entries ≡ none → length h.entries < slots) → Settled (judge h s c mark).verdict
    settled mark room =
        judge_cases h s c mark (λ j. Settled j.verdict)
        (λ u. true≢false (sym u ∙ rw fresh-one))
        (λ u v. true≢false (sym v ∙ rw (fresh-one, fits_stretch c.time c.channel h.entries (near_copy b c okc) sorted)))
        (λ u v e w q. tt) (λ u v e w q. tt)
        (λ u v w q. omega (arith, room w))
        (λ u v w q. tt)

    pub more : Best (λ x. (x ≡ c) ⊎ P x) (put side better c (views s h.entries))
    more = rw put_is (bests_put (copy_place b) better ranks c B)

    -- a pair that is not held has room
    pub room_for : (accepted : List Copy) → AtMost slots accepted → Memᴰ c accepted → ((x : Copy) → P x → Memᴰ x accepted) → find_pair c h.entries ≡ none → length h.entries < slots
    room_for accepted few m own w =
        omega (
          arith,
          few (put side better c (views s h.entries)) (λ d n. mine d (more.from d n)) (distinct (put side better c (views s h.entries)) more.asc),
          put_longer side better c (views s h.entries) (find_views h s c ∙ ap (Option.map (view s)) w),
          length-map h.entries (view s),
        )
      where
        mine : (d : Copy) → (d ≡ c) ⊎ P d → Memᴰ d accepted
        mine d (inl e) = Memᴰ.cast e m
        mine d (inr p) = own d p

-- ---- what is counted
abbrev pub NoLoss : Counts → Counts → Type 0
NoLoss n m = (m.late ≡ n.late) × (m.far ≡ n.far) × (m.no_room ≡ n.no_room)

pub settled_counts : (n : Counts) (v : Verdict) → Settled v → NoLoss n (counted n v)
settled_counts n Late z = absurd z
settled_counts n Far z = absurd z
settled_counts n Repeated z = (refl, refl, refl)
settled_counts n Better z = (refl, refl, refl)
settled_counts n NoRoom z = absurd z
settled_counts n Inserted z = (refl, refl, refl)

-- all verdicts were such
abbrev pub AllSettled : List Judgement → Type 0
AllSettled [] = Unit {0}
AllSettled (j ∷ js) = Settled j.verdict × AllSettled js

-- one more item before the others
module _ {A : Type 0} (P : A → Type 0) (c : A) (cs : List A) where
  pub merge : (x : A) → Memᴰ x cs ⊎ ((x ≡ c) ⊎ P x) → Memᴰ x (c ∷ cs) ⊎ P x
  merge x (inl m) = inl (there m)
  merge x (inr (inl e)) = inl (here e)
  merge x (inr (inr p)) = inr p

  pub split : (x : A) → Memᴰ x (c ∷ cs) ⊎ P x → Memᴰ x cs ⊎ ((x ≡ c) ⊎ P x)
  split x (inl (here e)) = inr (inl e)
  split x (inl (there m)) = inl m
  split x (inr p) = inr (inr p)

-- ---- copies judged in turn, where nothing was drawn
module _ (b : ℕ) (lb : b < 2 ^ 32) (accepted : List Copy) (ok : (x : Copy) → Memᴰ x accepted → InStretch b x) where
  module _ (few : AtMost slots accepted) where
    abbrev Gathers : (Copy → Type 0) → List Copy → Counts → Gathered → Type 0
    Gathers P cs n g = Best b lb (λ x. Memᴰ x cs ⊎ P x) (views g.store g.held.entries) × NoLoss n (tally n g.judgements) × AllSettled g.judgements

    gathers : {P : Copy → Type 0} (xs : List Received) (h : Held) (s : List ℕ) (n : Counts) → HeldFacts h s → h.drawn ≡ false → Marks xs → ((x : Copy) → Memᴰ x (copies_of xs) → Memᴰ x accepted) → ((x : Copy) → P x → Memᴰ x accepted) → Best b lb P (views s h.entries) → Gathers P (copies_of xs) n (judge_all h s xs)
    unfolding judge_all tally
    gathers [] h s n S d M all own B = (bests_like (copy_place b) better (ranks b lb) (λ x p. inr p) (λ x q. ⊎_elim (λ m. absurd (nowhere m)) (λ p. p) q) B, (refl, refl, refl), tt)
    gathers {P} (x ∷ xs) h s n S d M all own B =
        let c = x.copy in
        let j = judge h s c x.primary in
        let m = all c (here refl) in
        let okp : (y : Copy) → P y → InStretch b y = λ y p. ok y (own y p) in
        let z = settled b lb h s c S d (ok c m) okp B x.primary (room_for b lb h s c S d (ok c m) okp B accepted few m own) in
        let N : Best b lb (λ y. (y ≡ c) ⊎ P y) (views j.store j.held.entries) = rw (judge_views h s c x.primary S (ok c m).frame z) (more b lb h s c S d (ok c m) okp B) in
        let r =
        gathers xs j.held j.store (counted n j.verdict) (judge_facts h s c S (ok c m).frame x.primary (M x (here refl))) ((judge_last h s c x.primary).0 ∙ d) (λ y k. M y (there k)) (λ y k. all y (there k))
        (λ y o. ⊎_elim (λ (q : y ≡ c). Memᴰ.cast q m) (own y) o) N in
        let k = settled_counts n j.verdict z in
        (bests_like (copy_place b) better (ranks b lb) (merge P x.copy (copies_of xs)) (split P x.copy (copies_of xs)) r.0, (r.1.0 ∙ k.0, r.1.1 ∙ k.1, r.1.2 ∙ k.2), (z, r.2))

  -- the two forms of the playout list
  of_ascending : (l : List Copy) → Ascending l → Chain side l
  of_ascending [] s = tt
  of_ascending (d ∷ []) s = tt
  of_ascending (d ∷ e ∷ l) s = (s.0, of_ascending (e ∷ l) s.1)

  to_ascending : (l : List Copy) → Chain side l → Ascending l
  to_ascending [] s = tt
  to_ascending (d ∷ []) s = tt
  to_ascending (d ∷ e ∷ l) s = (s.0, to_ascending (e ∷ l) s.1)

  agree : (l : List Copy) → ((x : Copy) → Memᴰ x l → Memᴰ x accepted) → Agree side (copy_place b) l
  agree l v x y m n = order_place b lb (near_copy b x (ok x (v x m))) (near_copy b y (ok y (v y n)))

  pub to_playout : (ds : List Copy) → Best b lb (λ x. Memᴰ x accepted) ds → Playout accepted ds
  to_playout ds B = record {
    once = distinct b lb ds B.asc;
    ascending = to_ascending ds (asc_chain side (copy_place b) ds (agree ds B.from) B.asc);
    copies = B.from;
    all = λ x m. let t = B.top x m in (t.0, t.1, same_place b lb (near_copy b t.0 (ok t.0 (B.from t.0 t.1))) (near_copy b x (ok x m)) t.2);
    best = λ d x m n p. let t = B.top x n in rw (asc_one (copy_place b) ds B.asc t.0 d t.1 m (t.2 ∙ sym (place_same b lb d x p))) at t.3;
  }

  pub of_playout : (ds : List Copy) → Playout accepted ds → Best b lb (λ x. Memᴰ x accepted) ds
  of_playout ds D = record {
    asc = chain_asc side (copy_place b) ds (agree ds D.copies) (of_ascending ds D.ascending);
    from = D.copies;
    top = λ x m. let t = D.all x m in (t.0, t.1, place_same b lb t.0 x t.2, D.best t.0 x t.1 m t.2);
  }

-- ---- the statements
-- copies judged from nothing held
abbrev pub gathered : List ℕ → List Received → Gathered
gathered s xs = judge_all fresh s xs

pub in_stretch_lem : (cs : List Copy) → Frames cs → (W : WithinStretch cs) → (x : Copy) → Memᴰ x cs → InStretch W.base x
in_stretch_lem cs F W x m = record { frame = F x m; near = W.within x m }

module _ (s : List ℕ) (xs : List Received) (l : store_size ≤ length s) (F : Frames (copies_of xs)) (M : Marks xs) (W : WithinStretch (copies_of xs)) (few : AtMost slots (copies_of xs)) where
  whole : Gathers W.base W.word (copies_of xs) (in_stretch_lem (copies_of xs) F W) few (λ x. ⊥) (copies_of xs) no_counts (gathered s xs)
  whole = gathers W.base W.word (copies_of xs) (in_stretch_lem (copies_of xs) F W) few xs fresh s no_counts (fresh_facts s l) refl M (λ x m. m) (λ x p. absurd p) (bests_none (copy_place W.base) better (ranks W.base W.word) (λ x p. p))

  pub playout_of : Playout (copies_of xs) (views (gathered s xs).store (gathered s xs).held.entries)
  playout_of =
      to_playout W.base W.word (copies_of xs) (in_stretch_lem (copies_of xs) F W) (views (gathered s xs).store (gathered s xs).held.entries)
      (bests_like (copy_place W.base) better (ranks W.base W.word) (λ x o. ⊎_elim (λ m. m) (λ p. absurd p) o) (λ x m. inl m) whole.0)

  -- and no copy is late, far or without room
  pub premises_settled : NoLoss no_counts (tally no_counts (gathered s xs).judgements)
  premises_settled = whole.1

  pub all_settled : AllSettled (gathered s xs).judgements
  all_settled = whole.2

-- the same copies, in whatever order and however often, have the same playout list
pub playout_like : (a b l : List Copy) → ((x : Copy) → Memᴰ x a → Memᴰ x b) → ((x : Copy) → Memᴰ x b → Memᴰ x a) → Playout a l → Playout b l
playout_like a b l f g D = record {
  once = D.once;
  ascending = D.ascending;
  copies = λ d m. f d (D.copies d m);
  all = λ x m. D.all x (g x m);
  best = λ d x m n. D.best d x m (g x n);
}

pub playout_unique : (a b l m : List Copy) → Frames a → WithinStretch a → ((x : Copy) → Memᴰ x a → Memᴰ x b) → ((x : Copy) → Memᴰ x b → Memᴰ x a) → Playout a l → Playout b m → l ≡ m
playout_unique a b l m F W f g D E =
    bests_one (copy_place W.base) better (ranks W.base W.word) (in_stretch_lem a F W) l m
    (of_playout W.base W.word a (in_stretch_lem a F W) l D)
    (of_playout W.base W.word a (in_stretch_lem a F W) m (playout_like b a m g f E))

-- the first entry drawn leaves the rest of the copies
pub views_first : (s : List ℕ) (e : Entry) (es : List Entry) → views s (e ∷ es) ≡ view s e ∷ views s es
views_first s e es = refl
