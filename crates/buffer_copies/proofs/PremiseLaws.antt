-- The premises of the playout list are exact: they hold just where no copy is far or without room.
use mathlib.Core.Path.{◌≡◌, refl, sym, ap, subst, ◌∙◌}
use mathlib.Core.Logic.{◌↔◌, ◌⊎◌, inl, inr, ⊎_elim}
use mathlib.Core.List.Memᴰ.{cases_cons as cases}
use mathlib.Core.List.Memᴰ.{head as here}
use mathlib.Core.List.Memᴰ.{not-nil as nowhere}
use mathlib.Core.List.Memᴰ.{tail as there}
use mathlib.Core.List.{List, [], ◌∷◌, map, reverse_aux, Memᴰ}
use mathlib.Core.Bool.{true, false, false≢true}
use Prim.Native.Nat.{ℕ, ◌≤◌, ◌<◌}
use native.Mathlib.Omega.{arith}
use native.Mathlib.Nat.{le_trans}
use lib.ListN.{length, length-map}
use Rattle.buffer_copies.specs.declared.verdict.Verdict.{Verdict}
use Rattle.buffer_copies.specs.declared.verdict.Verdict.TheVariants.{Late, Far, Repeated, Better, NoRoom, Inserted}
use Rattle.buffer_copies.specs.Sizes.{slots, store_size}
use Rattle.buffer_copies.specs.Pairs.{half, ahead}
use Rattle.buffer_copies.specs.Copies.{Copy, Received, side, better}
use Rattle.buffer_copies.specs.Entries.{Entry, Held, view, views, put}
use Rattle.buffer_copies.specs.Verdicts.{fits, judge, Counts, no_counts, counted, tally, judge_all}
use Rattle.buffer_copies.specs.Lists.{SamePair, Playout, WithinStretch, Distinct, AtMost, copies_of}
use Rattle.buffer_copies.proofs.InsertionLaws.{bests_like}
use Rattle.buffer_copies.proofs.DistinctLaws.{Differ, no_more}
use Rattle.buffer_copies.proofs.JudgeLaws.{judge_cases, judge_last, judge_room}
use Rattle.buffer_copies.proofs.HeldLaws.{IsFrame, Frames, Marks, HeldFacts, fresh, fresh_facts, not_far, fits_base, judge_facts}
use Rattle.buffer_copies.proofs.PlayoutLaws.{Settled, judge_views, copy_place, mem_map, map_mem, ranks, to_playout, of_playout, more, gathered, in_stretch_lem, premises_settled}

-- ---- at most as many pairs as the playout list has
pair_of : Copy → ℕ × ℕ
pair_of c = (c.time, c.channel)

distinct_pairs : (ds : List Copy) → Distinct ds → Differ pair_of ds
unfolding pair_of
distinct_pairs [] D = tt
distinct_pairs (d ∷ ds) D = (λ y m e. D.0 y m (ap (λ (p : ℕ × ℕ). p.0) e, ap (λ (p : ℕ × ℕ). p.1) e), distinct_pairs ds D.1)

pub at_most_played : (accepted ds : List Copy) → Playout accepted ds → AtMost (length ds) accepted
at_most_played accepted ds D es sub E = omega (arith, no_more pair_of es (map pair_of ds) (distinct_pairs es E) (λ e m. known e (D.all e (sub e m))), length-map ds pair_of)
  where
    known : (x : Copy) → (d : Copy) × Memᴰ d ds × SamePair d x → Memᴰ (pair_of x) (map pair_of ds)
    known x t = unfold pair_of in subst (λ (p : ℕ × ℕ). Memᴰ p (map pair_of ds)) (λ i. (t.2.0 i, t.2.1 i)) (mem_map pair_of ds t.0 t.1)

-- ---- counts only grow, so that one that stays shows what the verdict was not
verdict_grows : (n : Counts) (v : Verdict) → (n.far ≤ (counted n v).far) × (n.no_room ≤ (counted n v).no_room)
verdict_grows n Late = (omega arith, omega arith)
verdict_grows n Far = (omega arith, omega arith)
verdict_grows n Repeated = (omega arith, omega arith)
verdict_grows n Better = (omega arith, omega arith)
verdict_grows n NoRoom = (omega arith, omega arith)
verdict_grows n Inserted = (omega arith, omega arith)

counts_grow : (h : Held) (s : List ℕ) (n : Counts) (xs : List Received) → (n.far ≤ (tally n (judge_all h s xs).judgements).far) × (n.no_room ≤ (tally n (judge_all h s xs).judgements).no_room)
unfolding judge_all tally
counts_grow h s n [] = (omega arith, omega arith)
counts_grow h s n (x ∷ xs) =
    let j = judge h s x.copy x.primary in
    let r = counts_grow j.held j.store (counted n j.verdict) xs in
    let k = verdict_grows n j.verdict in
    (omega (arith, k.0, r.0), omega (arith, k.1, r.1))

abbrev Stays : Counts → Counts → Type 0
Stays n m = (m.far ≡ n.far) × (m.no_room ≡ n.no_room)

-- one more copy, where the copies before were settled
module _ (h : Held) (s : List ℕ) (c : Copy) (mark : ℕ) (done : List Copy) (S : HeldFacts h s) (d : h.drawn ≡ false) (F : Frames (c ∷ done)) (D : Playout done (views s h.entries)) where
  fc : IsFrame c
  fc = F c (here refl)

  stays_settled : (n : Counts) → Stays n (counted n (judge h s c mark).verdict) → Settled (judge h s c mark).verdict × (fits c.time h.entries ≡ true)
  stays_settled n =
      judge_cases h s c mark (λ j. Stays n (counted n j.verdict) → Settled j.verdict × (fits c.time h.entries ≡ true))
      (λ u k. absurd (false≢true (rw d at u)))
      (λ u v k. absurd (omega arith))
      (λ u v e w q k. (tt, not_far h s c S fc v d))
      (λ u v e w q k. (tt, not_far h s c S fc v d))
      (λ u v w q k. absurd (omega arith))
      (λ u v w q k. (tt, not_far h s c S fc v d))

  within_more : fits c.time h.entries ≡ true → WithinStretch (c ∷ done)
  within_more p =
      let k = fits_base c.time h.entries fc.word (λ e m. (S.each e m).word) S.stretch p in
      record { base = k.0; word = k.1; within = λ x m. near k.0 k.2 k.3 x (cases m) }
    where
      near : (b : ℕ) → ahead c.time b < half → ((e : Entry) → Memᴰ e h.entries → ahead e.time b < half) → (x : Copy) → (x ≡ c) ⊎ Memᴰ x done → ahead x.time b < half
      near b p q x (inl e) = rw e p
      near b p q x (inr m) =
          let t = D.all x m in
          let r = map_mem (view s) h.entries t.0 t.1 in
          let e : r.0.time ≡ x.time = unfold view in (sym (ap (λ (y : Copy). y.time) r.2) ∙ t.2.0) in
          subst (λ (u : ℕ). ahead u b < half) e (q r.0 r.1)

  next : Settled (judge h s c mark).verdict → fits c.time h.entries ≡ true → WithinStretch (c ∷ done) × Playout (c ∷ done) (views (judge h s c mark).store (judge h s c mark).held.entries)
  next z p =
      let W = within_more p in
      let ok = in_stretch_lem (c ∷ done) F W in
      let B = of_playout W.base W.word done (λ x m. ok x (there m)) (views s h.entries) D in
      let M = more W.base W.word h s c S d (ok c (here refl)) (λ x m. ok x (there m)) B in (
        W,
        rw (judge_views h s c mark S fc z)
            (to_playout W.base W.word (c ∷ done) ok (put side better c (views s h.entries))
            (bests_like (copy_place W.base) better (ranks W.base W.word) (λ x o. ⊎_elim here there o) (λ x m. cases m) M)),
      )

-- all copies
settled_all : (xs : List Received) (done : List Copy) (h : Held) (s : List ℕ) (n : Counts) → HeldFacts h s → h.drawn ≡ false → length h.entries ≤ slots → ((x : Copy) → Memᴰ x (copies_of xs) ⊎ Memᴰ x done → IsFrame x) → Marks xs → WithinStretch done → Playout done (views s h.entries) → Stays n (tally n (judge_all h s xs).judgements) → WithinStretch (reverse_aux (copies_of xs) done) × AtMost slots (reverse_aux (copies_of xs) done)
unfolding judge_all tally
settled_all [] done h s n S d l F M W D k = (W, λ ds sub A. le_trans (at_most_played done (views s h.entries) D ds sub A) (omega (arith, length-map h.entries (view s))))
settled_all (x ∷ xs) done h s n S d l F M W D k =
    let c = x.copy in
    let j = judge h s c x.primary in
    let FD : Frames (c ∷ done) = λ y m. F y (⊎_elim (λ (e : y ≡ c). inl (here e)) (λ m. inr m) (cases m)) in
    let g = counts_grow j.held j.store (counted n j.verdict) xs in
    let f = verdict_grows n j.verdict in
    let same : Stays n (counted n j.verdict) = (omega (arith, k.0, g.0, f.0), omega (arith, k.1, g.1, f.1)) in
    let z = stays_settled h s c x.primary done S d FD D n same in
    let r = next h s c x.primary done S d FD D z.0 z.1 in
    settled_all xs (c ∷ done) j.held j.store (counted n j.verdict) (judge_facts h s c S (FD c (here refl)) x.primary (M x (here refl))) ((judge_last h s c x.primary).0 ∙ d) (judge_room h s c x.primary l)
    (λ y o. F y (turn y o)) (λ y m. M y (there m)) r.0 r.1 (k.0 ∙ sym same.0, k.1 ∙ sym same.1)
  where
    turn : (y : Copy) → Memᴰ y (copies_of xs) ⊎ Memᴰ y (x.copy ∷ done) → Memᴰ y (x.copy ∷ copies_of xs) ⊎ Memᴰ y done
    turn y (inl m) = inl (there m)
    turn y (inr (here e)) = inl (here e)
    turn y (inr (there m)) = inr m

in_reverse : {A : Type 0} (x : A) (l r : List A) → Memᴰ x l ⊎ Memᴰ x r → Memᴰ x (reverse_aux l r)
in_reverse x [] r (inl m) = absurd (nowhere m)
in_reverse x [] r (inr m) = m
in_reverse x (a ∷ l) r (inl (here e)) = in_reverse x l (a ∷ r) (inr (here e))
in_reverse x (a ∷ l) r (inl (there m)) = in_reverse x l (a ∷ r) (inl m)
in_reverse x (a ∷ l) r (inr m) = in_reverse x l (a ∷ r) (inr (there m))

-- the premises hold just where no copy is far or without room
module _ (s : List ℕ) (xs : List Received) (l : store_size ≤ length s) (F : Frames (copies_of xs)) (M : Marks xs) where
  abbrev cs : List Copy
  cs = copies_of xs

  pub settled_premises : (tally no_counts (gathered s xs).judgements).far ≡ 0 → (tally no_counts (gathered s xs).judgements).no_room ≡ 0 → WithinStretch cs × AtMost slots cs
  settled_premises f r =
      let k =
      settled_all xs [] fresh s no_counts (fresh_facts s l) refl (omega arith) (λ x o. F x (⊎_elim (λ (m : Memᴰ x cs). m) (λ m. absurd (nowhere m)) o)) M
      (record { base = 0; word = omega arith; within = λ x m. absurd (nowhere m) })
      (record { once = tt; ascending = tt; copies = λ d m. m; all = λ x m. absurd (nowhere m); best = λ d x m n. absurd (nowhere m) })
      (f, r) in
      let back : (x : Copy) → Memᴰ x cs → Memᴰ x (reverse_aux cs []) = λ x m. in_reverse x cs [] (inl m) in
      (record { base = k.0.base; word = k.0.word; within = λ x m. k.0.within x (back x m) }, λ ds sub D. k.1 ds (λ d m. back d (sub d m)) D)

  pub premises_exact : (WithinStretch cs × AtMost slots cs) ↔ (((tally no_counts (gathered s xs).judgements).far ≡ 0) × ((tally no_counts (gathered s xs).judgements).no_room ≡ 0))
  premises_exact = (λ p. let k = premises_settled s xs l F M p.0 p.1 in (k.1, k.2), λ q. settled_premises q.0 q.1)
