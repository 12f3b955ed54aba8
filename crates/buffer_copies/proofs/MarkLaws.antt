-- The marks of what is held (document 02, P6): each is set exactly if some copy received of its pair was heard first-hand. What is gathered is the marked
-- playout list, and there is one such list.
use mathlib.Core.Path.{◌≡◌, refl, sym, ap, ap₂, subst, ◌∙◌}
use mathlib.Core.Logic.{◌⊎◌, inl, inr, ⊎_elim}
use mathlib.Core.List.Memᴰ.{head as here}
use mathlib.Core.List.Memᴰ.{not-nil as nowhere}
use mathlib.Core.List.Memᴰ.{tail as there}
use mathlib.Core.List.{List, [], ◌∷◌, map, Memᴰ}
use mathlib.Core.Option.{none, some, none-ne-some as none≢some}
use Prim.Native.Nat.{Ordering}
use Prim.Native.Nat.{ℕ, ◌≤◌, ◌<◌}
use native.Mathlib.Omega.{arith}
use lib.ListN.{length}
use lib.Dec.{eqb}
use borrow.Author.Tests.{eqb-true, eqb-false}
use Rattle.rtp.proofs.TestLaws.{by-test}
use Rattle.row_tags.specs.Tags.{primary_mark, redundant_mark, either_mark}
use Rattle.buffer_copies.specs.Sizes.{slots, store_size}
use Rattle.buffer_copies.specs.Pairs.{order}
use Rattle.buffer_copies.specs.Copies.{Copy, Received}
use Rattle.buffer_copies.specs.Entries.{Entry, Held, view, views, entry_of, remarked, side_of_entry, find_by, free_slot, always, placed}
use Rattle.buffer_copies.specs.Verdicts.{holding, judge, Judged, judge_all}
use Rattle.buffer_copies.specs.Lists.{Playout, WithinStretch, AtMost, copies_of, HeardFirst, MarkedPlayout}
use Rattle.buffer_copies.proofs.InsertionLaws.{asc_one, put_from, put_new, put_keeps, find_mem}
use Rattle.buffer_copies.proofs.WrapLaws.{order_same}
use Rattle.buffer_copies.proofs.JudgeLaws.{find_pair, found_pair, judge_cases}
use Rattle.buffer_copies.proofs.HeldLaws.{IsFrame, Frames, Marks, HeldFacts, fresh, fresh_facts, entry_place, sorted_first, find_member, judge_facts}
use Rattle.buffer_copies.proofs.PlayoutLaws.{Settled, AllSettled, merge, split, mem_map, map_mem, gathered, playout_of, all_settled, playout_unique}

-- ---- either of two marks
either_from : (a b : ℕ) → (either_mark a b ≡ a) ⊎ (either_mark a b ≡ b)
either_from a b = by-test (eqb a 0) (λ t. inr (rw t)) (λ t. inl (rw t))

either_set : (a b : ℕ) → a < 2 → (a ≡ primary_mark) ⊎ (b ≡ primary_mark) → either_mark a b ≡ primary_mark
either_set a b l (inl e) = rw e
either_set a b l (inr e) = by-test (eqb a 0) (λ t. rw t e) (λ t. let n = eqb-false a 0 t in rw t (omega (arith, n)))

mark_cases : (a : ℕ) → a < 2 → (a ≡ redundant_mark) ⊎ (a ≡ primary_mark)
mark_cases a l = by-test (eqb a 0) (λ t. inl (eqb-true a 0 t)) (λ t. let n = eqb-false a 0 t in inr (omega (arith, n)))

-- ---- the marks of entries, of the received copies that have P
-- an entry of a copy's pair
abbrev pub PairOf : Entry → Copy → Type 0
PairOf e c = (e.time ≡ c.time) × (e.channel ≡ c.channel)

-- some copy of its pair was heard first-hand
abbrev pub FirstHand : (Received → Type 0) → Entry → Type 0
FirstHand P e = (x : Received) × P x × PairOf e x.copy × (x.primary ≡ primary_mark)

-- each pair received is held, and marked exactly if some copy of it was heard first-hand
pub record Marked (P : Received → Type 0) (es : List Entry) : Type 0 where
  pub held : (x : Received) → P x → (e : Entry) × Memᴰ e es × PairOf e x.copy
  pub set : (e : Entry) → Memᴰ e es → FirstHand P e → e.primary ≡ primary_mark
  pub unset : (e : Entry) → Memᴰ e es → (e.primary ≡ redundant_mark) ⊎ FirstHand P e

pub marked_none : (P : Received → Type 0) → ((x : Received) → P x → ⊥) → Marked P []
marked_none P n = record { held = λ x p. absurd (n x p); set = λ e m. absurd (nowhere m); unset = λ e m. absurd (nowhere m) }

pub marked_like : (P Q : Received → Type 0) (es : List Entry) → ((x : Received) → P x → Q x) → ((x : Received) → Q x → P x) → Marked P es → Marked Q es
marked_like P Q es f g K = record {
  held = λ x q. K.held x (g x q);
  set = λ e m t. K.set e m (t.0, g t.0 t.1, t.2, t.3);
  unset = λ e m. ⊎_elim (λ z. inl z) (λ (t : FirstHand P e). inr (t.0, f t.0 t.1, t.2, t.3)) (K.unset e m);
}

-- an entry of a copy's pair is the one found
found_member : (h : Held) (s : List ℕ) → HeldFacts h s → (c : Copy) (e : Entry) → Memᴰ e h.entries → PairOf e c → find_pair c h.entries ≡ some e
unfolding entry_of
found_member h s S c e m p =
    let T = sorted_first h.entries S.rising S.stretch S.each in
    subst (λ (k : ℕ × ℕ). find_by (λ (y : Entry). order k.0 k.1 y.time y.channel) h.entries ≡ some e) (λ i. (p.0 i, p.1 i)) (find_member T.0 h.entries T.1 e m)

-- ---- one copy more
module _ (P : Received → Type 0) (h : Held) (s : List ℕ) (S : HeldFacts h s) (K : Marked P h.entries) (x : Received) where
  abbrev More : Received → Type 0
  More y = (y ≡ x) ⊎ P y

  more_first : (e : Entry) → FirstHand P e → FirstHand More e
  more_first e t = (t.0, inr t.1, t.2, t.3)

  -- its entry in its place
  module _ (n : Entry) (own : PairOf n x.copy) (t : List ℕ) (N : HeldFacts (holding n h) t) where
    in_place : Memᴰ n (placed n h.entries)
    unfolding placed
    in_place = put_new side_of_entry always n h.entries (λ y. refl)

    one_entry : (y : Entry) → Memᴰ y (placed n h.entries) → PairOf y x.copy → y ≡ n
    one_entry y m p =
        let T = sorted_first (placed n h.entries) N.rising N.stretch N.each in
        let q : (y.time ≡ n.time) × (y.channel ≡ n.channel) = (p.0 ∙ sym own.0, p.1 ∙ sym own.1) in
        asc_one (entry_place T.0) (placed n h.entries) T.1.asc y n m in_place (rw (q.0, q.1))

    placed_marked : (FirstHand More n → n.primary ≡ primary_mark) → (n.primary ≡ redundant_mark) ⊎ FirstHand More n → Marked More (placed n h.entries)
    placed_marked set_new unset-new = record {
      held = λ y. keep y;
      set = λ y m f. set_at y m f (come y m);
      unset = λ y m. unset_at y (come y m);
    }
      where
        come : (y : Entry) → Memᴰ y (placed n h.entries) → (y ≡ n) ⊎ Memᴰ y h.entries
        come y m = unfold placed in put_from side_of_entry always n h.entries y m

        stay : (y : Received) (e : Entry) → PairOf e y.copy → (side_of_entry n e ≡ Ordering.eq) ⊎ Memᴰ e (placed n h.entries) → (f : Entry) × Memᴰ f (placed n h.entries) × PairOf f y.copy
        stay y e p (inl q) = let r = order_same n.time n.channel e.time e.channel q in (n, in_place, (r.0 ∙ p.0, r.1 ∙ p.1))
        stay y e p (inr m) = (e, m, p)

        keep : (y : Received) → More y → (f : Entry) × Memᴰ f (placed n h.entries) × PairOf f y.copy
        keep y (inl q) = (n, in_place, subst (λ (z : Received). PairOf n z.copy) (sym q) own)
        keep y (inr p) = let k = K.held y p in stay y k.0 k.2 (unfold placed in put_keeps side_of_entry always n h.entries k.0 k.1)

        set_is : (y : Entry) → y ≡ n → FirstHand More y → y.primary ≡ primary_mark
        set_is y q f = subst (λ (z : Entry). FirstHand More z → z.primary ≡ primary_mark) (sym q) set_new f

        set_old : (y : Entry) → Memᴰ y (placed n h.entries) → Memᴰ y h.entries → (f : FirstHand More y) → More f.0 → y.primary ≡ primary_mark
        set_old y m k f (inl q) = set_is y (one_entry y m (subst (λ (z : Received). PairOf y z.copy) q f.2)) f
        set_old y m k f (inr p) = K.set y k (f.0, p, f.2, f.3)

        set_at : (y : Entry) → Memᴰ y (placed n h.entries) → FirstHand More y → (y ≡ n) ⊎ Memᴰ y h.entries → y.primary ≡ primary_mark
        set_at y m f (inl q) = set_is y q f
        set_at y m f (inr k) = set_old y m k f f.1

        unset_at : (y : Entry) → (y ≡ n) ⊎ Memᴰ y h.entries → (y.primary ≡ redundant_mark) ⊎ FirstHand More y
        unset_at y (inl q) = subst (λ (z : Entry). (z.primary ≡ redundant_mark) ⊎ FirstHand More z) (sym q) unset-new
        unset_at y (inr k) = ⊎_elim (λ z. inl z) (λ (f : FirstHand P y). inr (more_first y f)) (K.unset y k)

  -- the mark of a first copy, and of one that joins an entry held
  module _ (l : x.primary < 2) (n : Entry) (own : PairOf n x.copy) where
    first_copy : n.primary ≡ x.primary → (n.primary ≡ redundant_mark) ⊎ FirstHand More n
    first_copy q = ⊎_elim (λ (z : x.primary ≡ redundant_mark). inl (q ∙ z)) (λ z. inr (x, inl refl, own, z)) (mark_cases x.primary l)

    set_first : find_pair x.copy h.entries ≡ none → n.primary ≡ x.primary → FirstHand More n → n.primary ≡ primary_mark
    set_first w q f = go f.1
      where
        go : More f.0 → n.primary ≡ primary_mark
        go (inl e) = q ∙ sym (ap (λ (z : Received). z.primary) e) ∙ f.3
        go (inr p) =
            let k = K.held f.0 p in
            let o : PairOf k.0 x.copy = (k.2.0 ∙ sym f.2.0 ∙ own.0, k.2.1 ∙ sym f.2.1 ∙ own.1) in
            absurd (none≢some k.0 (sym w ∙ found_member h s S x.copy k.0 k.1 o))

    module _ (e : Entry) (m : Memᴰ e h.entries) (same : PairOf e x.copy) where
      alike : (c : Copy) → PairOf n c → PairOf e c
      alike c p = (same.0 ∙ sym own.0 ∙ p.0, same.1 ∙ sym own.1 ∙ p.1)

      alike_back : (c : Copy) → PairOf e c → PairOf n c
      alike_back c p = (own.0 ∙ sym same.0 ∙ p.0, own.1 ∙ sym same.1 ∙ p.1)

      joined : (n.primary ≡ e.primary) ⊎ (n.primary ≡ x.primary) → (n.primary ≡ redundant_mark) ⊎ FirstHand More n
      joined (inl q) = ⊎_elim (λ (z : e.primary ≡ redundant_mark). inl (q ∙ z)) (λ (f : FirstHand P e). inr (f.0, inr f.1, alike_back f.0.copy f.2, f.3)) (K.unset e m)
      joined (inr q) = first_copy q

      set_joined : ((e.primary ≡ primary_mark) ⊎ (x.primary ≡ primary_mark) → n.primary ≡ primary_mark) → FirstHand More n → n.primary ≡ primary_mark
      set_joined up f = up (go f.1)
        where
          go : More f.0 → (e.primary ≡ primary_mark) ⊎ (x.primary ≡ primary_mark)
          go (inl q) = inr (sym (ap (λ (z : Received). z.primary) q) ∙ f.3)
          go (inr p) = inl (K.set e m (f.0, p, alike f.0.copy f.2, f.3))

  pub judge_marked : IsFrame x.copy → x.primary < 2 → Settled (judge h s x.copy x.primary).verdict → Marked More (judge h s x.copy x.primary).held.entries
  judge_marked F l z =
      judge_cases h s x.copy x.primary (λ (j : Judged). HeldFacts j.held j.store → Settled j.verdict → Marked More j.held.entries)
      (λ u N z. absurd z) (λ u v N z. absurd z)
      (λ u v e w q N z. repeated e w N)
      (λ u v e w q N z. replaced e w _ N)
      (λ u v w q N z. absurd z)
      (λ u v w q N z. inserted w _ N)
      (judge_facts h s x.copy S F x.primary l) z
    where
      turned : {A : Type 0} {B : Type 0} → A ⊎ B → B ⊎ A
      turned o = ⊎_elim (λ a. inr a) (λ b. inl b) o

      in_held : (e : Entry) → find_pair x.copy h.entries ≡ some e → Memᴰ e h.entries
      in_held e w = find_mem (side_of_entry (entry_of x.copy 0 0)) h.entries e w

      same : (e : Entry) → find_pair x.copy h.entries ≡ some e → PairOf e x.copy
      same e w = let p = found_pair x.copy h.entries e w in (sym p.0, sym p.1)

      repeated : (e : Entry) → find_pair x.copy h.entries ≡ some e → (let n = remarked (either_mark e.primary x.primary) e in HeldFacts (holding n h) s → Marked More (placed n h.entries))
      repeated e w N =
          let n = remarked (either_mark e.primary x.primary) e in
          let own : PairOf n x.copy = unfold remarked in same e w in
          let m = in_held e w in
          placed_marked n own s N
          (set_joined l n own e m (same e w) (λ o. unfold remarked in either_set e.primary x.primary (S.each e m).mark o))
          (joined l n own e m (same e w) (unfold remarked in either_from e.primary x.primary))

      replaced : (e : Entry) → find_pair x.copy h.entries ≡ some e → (t : List ℕ) → (let n = entry_of x.copy (either_mark x.primary e.primary) e.slot in HeldFacts (holding n h) t → Marked More (placed n h.entries))
      replaced e w t N =
          let n = entry_of x.copy (either_mark x.primary e.primary) e.slot in
          let own : PairOf n x.copy = unfold entry_of in (refl, refl) in
          let m = in_held e w in
          placed_marked n own t N
          (set_joined l n own e m (same e w) (λ o. unfold entry_of in either_set x.primary e.primary l (turned o)))
          (joined l n own e m (same e w) (turned (unfold entry_of in either_from x.primary e.primary)))

      inserted : find_pair x.copy h.entries ≡ none → (t : List ℕ) → (let n = entry_of x.copy x.primary (free_slot h.entries) in HeldFacts (holding n h) t → Marked More (placed n h.entries))
      inserted w t N =
          let n = entry_of x.copy x.primary (free_slot h.entries) in
          let own : PairOf n x.copy = unfold entry_of in (refl, refl) in
          let q : n.primary ≡ x.primary = unfold entry_of in refl in
          placed_marked n own t N (set_first l n own w q) (first_copy l n own q)

-- ---- copies in turn
pub judge_all_marked : (P : Received → Type 0) (xs : List Received) (h : Held) (s : List ℕ) → HeldFacts h s → Frames (copies_of xs) → Marks xs → AllSettled (judge_all h s xs).judgements → Marked P h.entries → Marked (λ y. Memᴰ y xs ⊎ P y) (judge_all h s xs).held.entries
unfolding judge_all
judge_all_marked P [] h s S F M z K = marked_like P (λ y. Memᴰ y [] ⊎ P y) h.entries (λ y p. inr p) (λ y q. ⊎_elim (λ m. absurd (nowhere m)) (λ p. p) q) K
judge_all_marked P (x ∷ xs) h s S F M z K =
    let j = judge h s x.copy x.primary in
    let f = F x.copy (here refl) in
    let l = M x (here refl) in
    let Q : Received → Type 0 = λ y. (y ≡ x) ⊎ P y in
    marked_like (λ y. Memᴰ y xs ⊎ Q y) (λ y. Memᴰ y (x ∷ xs) ⊎ P y) (judge_all j.held j.store xs).held.entries (merge P x xs) (split P x xs)
    (judge_all_marked Q xs j.held j.store (judge_facts h s x.copy S f x.primary l) (λ y m. F y (there m)) (λ y m. M y (there m)) z.1 (judge_marked P h s S K x f l z.0))

-- ---- the statements
-- the copy that an entry holds, with its mark
abbrev pub marked_view : List ℕ → Entry → Received
marked_view s e = record { copy = view s e; primary = e.primary }

abbrev pub marked_views : List ℕ → List Entry → List Received
marked_views s es = map (marked_view s) es

pub copies_views : (s : List ℕ) (es : List Entry) → copies_of (marked_views s es) ≡ views s es
copies_views s [] = refl
copies_views s (e ∷ es) = ap (λ (l : List Copy). view s e ∷ l) (copies_views s es)

-- entries whose copies are the playout list, with such marks, are the marked playout list
pub marked_playout : (xs : List Received) (s : List ℕ) (es : List Entry) → Playout (copies_of xs) (views s es) → Marked (λ y. Memᴰ y xs) es → MarkedPlayout xs (marked_views s es)
unfolding view
marked_playout xs s es D K = record {
  playout = subst (Playout (copies_of xs)) (sym (copies_views s es)) D;
  set = λ d m f. let k = map_mem (marked_view s) es d m in subst (λ (y : Received). HeardFirst xs y.copy → y.primary ≡ primary_mark) (sym k.2) (λ f. K.set k.0 k.1 (f.one, f.among, f.pair, f.primary)) f;
  unset = λ d m.
      let k = map_mem (marked_view s) es d m in
      subst (λ (y : Received). (y.primary ≡ redundant_mark) ⊎ HeardFirst xs y.copy) (sym k.2)
      (⊎_elim (λ z. inl z) (λ (f : FirstHand (λ y. Memᴰ y xs) k.0). inr (record { one = f.0; among = f.1; pair = f.2; primary = f.3 })) (K.unset k.0 k.1));
}

-- what is gathered from nothing held
pub marked_playout_of : (s : List ℕ) (xs : List Received) → store_size ≤ length s → Frames (copies_of xs) → Marks xs → WithinStretch (copies_of xs) → AtMost slots (copies_of xs) → MarkedPlayout xs (marked_views (gathered s xs).store (gathered s xs).held.entries)
marked_playout_of s xs l F M W few =
    marked_playout xs (gathered s xs).store (gathered s xs).held.entries (playout_of s xs l F M W few)
    (marked_like (λ y. Memᴰ y xs ⊎ ⊥) (λ y. Memᴰ y xs) (gathered s xs).held.entries (λ y o. ⊎_elim (λ m. m) (λ p. absurd p) o) (λ y m. inl m)
    (judge_all_marked (λ y. ⊥) xs fresh s (fresh_facts s l) F M (all_settled s xs l F M W few) (marked_none (λ y. ⊥) (λ y p. p))))

-- copies received that are all among others
pub copies_in_lem : (a b : List Received) → ((x : Received) → Memᴰ x a → Memᴰ x b) → (c : Copy) → Memᴰ c (copies_of a) → Memᴰ c (copies_of b)
copies_in_lem a b f c m =
    let k = map_mem (λ (x : Received). x.copy) a c m in
    subst (λ (y : Copy). Memᴰ y (copies_of b)) (sym k.2) (mem_map (λ (x : Received). x.copy) b k.0 (f k.0 k.1))

-- the same copies received, in whatever order and however often, have one marked playout list
module _ (a b : List Received) (f : (x : Received) → Memᴰ x a → Memᴰ x b) (g : (x : Received) → Memᴰ x b → Memᴰ x a) where
  -- items of one copy have one mark
  same_mark : (d e : Received) → d.copy ≡ e.copy → (HeardFirst a d.copy → d.primary ≡ primary_mark) → (HeardFirst b e.copy → e.primary ≡ primary_mark)
      → (d.primary ≡ redundant_mark) ⊎ HeardFirst a d.copy → (e.primary ≡ redundant_mark) ⊎ HeardFirst b e.copy → d.primary ≡ e.primary
  same_mark d e q s t (inl u) (inl v) = u ∙ sym v
  same_mark d e q s t u (inr v) = s (subst (HeardFirst a) (sym q) (record { one = v.one; among = g v.one v.among; pair = v.pair; primary = v.primary })) ∙ sym (t v)
  same_mark d e q s t (inr u) (inl v) = s u ∙ sym (t (subst (HeardFirst b) q (record { one = u.one; among = f u.one u.among; pair = u.pair; primary = u.primary })))

  abbrev Exact : List Received → List Received → Type 0
  Exact r ds = (d : Received) → Memᴰ d ds → (HeardFirst r d.copy → d.primary ≡ primary_mark) × ((d.primary ≡ redundant_mark) ⊎ HeardFirst r d.copy)

  same_marks : (l m : List Received) → copies_of l ≡ copies_of m → Exact a l → Exact b m → l ≡ m
  same_marks [] [] q L M = refl
  same_marks [] (e ∷ m) q L M = absurd (omega (arith, ap length q))
  same_marks (d ∷ l) [] q L M = absurd (omega (arith, ap length q))
  same_marks (d ∷ l) (e ∷ m) q L M =
      let p : d.copy ≡ e.copy = ap (head d.copy) q in
      let r = same_mark d e p (L d (here refl)).0 (M e (here refl)).0 (L d (here refl)).1 (M e (here refl)).1 in
      ap₂ ◌∷◌ (λ i. record { copy = p i; primary = r i }) (same_marks l m (ap rest q) (λ y k. L y (there k)) (λ y k. M y (there k)))
    where
      head : Copy → List Copy → Copy
      head c [] = c
      head c (x ∷ xs) = x

      rest : List Copy → List Copy
      rest [] = []
      rest (x ∷ xs) = xs

  pub marked_unique : (l m : List Received) → Frames (copies_of a) → WithinStretch (copies_of a) → MarkedPlayout a l → MarkedPlayout b m → l ≡ m
  marked_unique l m F W D E =
      same_marks l m (playout_unique (copies_of a) (copies_of b) (copies_of l) (copies_of m) F W (copies_in_lem a b f) (copies_in_lem b a g) D.playout E.playout)
      (λ d k. (D.set d k, D.unset d k)) (λ d k. (E.set d k, E.unset d k))
