-- The one pass over the entries asks what a well-formed buffer is.
use Prim.Native.Nat.{ℕ, zero, suc, ◌+◌, ◌<◌}
use mathlib.Core.Path.{◌≡◌, refl, sym, ap, ap₂, subst, ◌∙◌}
use mathlib.Core.Logic.{◌⊎◌, inl, inr}
use mathlib.Core.List.Memᴰ.{cases_cons as cases}
use mathlib.Core.List.Memᴰ.{head as here}
use mathlib.Core.List.Memᴰ.{not-nil as nowhere}
use mathlib.Core.List.Memᴰ.{tail as there}
use mathlib.Core.List.{List, [], ◌∷◌, Memᴰ}
use mathlib.Core.Bool.{Bool, true, false, cond, ◌&&◌}
use mathlib.Core.Option.{Option, none, some}
use native.Mathlib.Omega.{arith}
use borrow.Author.Tests.{ltb-true, eq-eqb, lt-ltb}
use lib.Dec.{ltb, eqb}
use lib.ListN.{get_or}
use Rattle.row_tags.proofs.TagLaws.{mark_small}
use Rattle.buffer_copies.specs.Sizes.{slots}
use Rattle.buffer_copies.specs.Pairs.{half, ahead, order, is_after}
use Rattle.buffer_copies.specs.Entries.{Entry}
use Rattle.buffer_copies.proofs.HeldLaws.{all_within_lem}
use Rattle.buffer_copies.proofs.PlayoutLaws.{within_all}
use Rattle.buffer_layout.specs.declared.buffer.Buffer.{Buffer}
use Rattle.buffer_layout.specs.declared.buffer.Fixed.{Fixed}
use Rattle.buffer_slots.specs.Bits.{mark_of, held_in, word_at, words_of, is_free, same_words}
use Rattle.buffer_layout.specs.Layout.{is_flag, unused_zero, entries_from, decode, model, assembled}
use Rattle.frame_codes.specs.Allowed.{allowed}
use Rattle.buffer_layout.specs.Model.{ascending, in_stretch, after_last}
use Rattle.buffer_layout.specs.WellFormed.{well_formed}
use Rattle.buffer_layout.specs.Checks.{last_kept, since_last, ascends, passes, all_pass, entries_pass}
use Rattle.rtp.proofs.TestLaws.{both as in_turn_lem, and_then}
use Rattle.buffer_layout.proofs.CheckLaws.{free_parts}
use Rattle.buffer_slots.proofs.WordLaws.{slots_of, count_in, Distinct, count_none, count_here, distinct_none, distinct_cons, mark_count, words_cons}
use Rattle.buffer_layout.proofs.LayoutLaws.{by_flag, entries_each}
use Rattle.buffer_layout.proofs.ModelLaws.{both, and, entry_tests, clauses, from_clauses, apart_distinct, distinct_apart}

-- The slots of entries on top of others

onto : List Entry → List ℕ → List ℕ
onto [] ss = ss
onto (e ∷ es) ss = onto es (e.slot ∷ ss)

onto_count : (x : ℕ) (es : List Entry) (ss : List ℕ) → count_in x (onto es ss) ≡ count_in x (slots_of es) + count_in x ss
unfolding onto count_in
onto_count x [] ss = omega arith
onto_count x (e ∷ es) ss = omega (arith, onto_count x es (e.slot ∷ ss))

onto_word : (k : ℕ) (es : List Entry) (ss : List ℕ) → word_at k (onto es ss) ≡ word_at k (slots_of es) + word_at k ss
unfolding onto word_at
onto_word k [] ss = omega arith
onto_word k (e ∷ es) ss = omega (arith, onto_word k es (e.slot ∷ ss))

word_none : (k : ℕ) → word_at k [] ≡ 0
unfolding word_at
word_none k = refl

onto_words : (es : List Entry) → words_of (onto es []) ≡ words_of (slots_of es)
onto_words es = λ j. word 0 j ∷ word 1 j ∷ word 2 j ∷ []
  where
    word : (k : ℕ) → word_at k (onto es []) ≡ word_at k (slots_of es)
    word k = omega (arith, onto_word k es [], word_none k)

onto_distinct : (es : List Entry) → Distinct (slots_of es) → Distinct (onto es [])
onto_distinct es d = record {
  once = λ x. omega (arith, d.once x, onto_count x es [], count_none x);
  within = λ x h. d.within x (omega (arith, onto_count x es [], count_none x));
}

distinct_onto : (es : List Entry) → Distinct (onto es []) → Distinct (slots_of es)
distinct_onto es d = record {
  once = λ x. omega (arith, d.once x, onto_count x es [], count_none x);
  within = λ x h. d.within x (omega (arith, onto_count x es []));
}

-- What the pass tells of the entries from one on, and that it asks no more

-- after the entry before, if any, and so on
abbrev From : Option Entry → List Entry → Type 0
From p [] = Unit {0}
From p (e ∷ es) = (ascends p e ≡ true) × From (some e) es

record Parts (b : Buffer) (first : ℕ) (e : Entry) : Type 0 where
  pub frame : allowed b.settings.format e.class e.length ≡ true
  pub channel : ltb e.channel b.settings.channels ≡ true
  pub since : since_last b e ≡ true
  pub near : ahead e.time first < half

record Run (b : Buffer) (first : ℕ) (p : Option Entry) (ss : List ℕ) (es : List Entry) : Type 0 where
  pub each : (e : Entry) → Memᴰ e es → Parts b first e
  pub from : From p es
  pub distinct : Distinct (onto es ss)
  pub words : same_words (words_of (onto es ss)) b.occupied ≡ true

parts : (b : Buffer) (first : ℕ) (p : Option Entry) (e : Entry) → passes b first p e ≡ true → Parts b first e × (ascends p e ≡ true)
parts b first p e h =
    let a = in_turn_lem (allowed b.settings.format e.class e.length) _ h in
    let c = in_turn_lem (ltb e.channel b.settings.channels) _ a.1 in
    let d = in_turn_lem (since_last b e) _ c.1 in
    let f = in_turn_lem (ltb (ahead e.time first) half) _ d.1 in
    (record { frame = a.0; channel = c.0; since = d.0; near = ltb-true _ _ f.0 }, f.1)

parts_back : (b : Buffer) (first : ℕ) (p : Option Entry) (e : Entry) → Parts b first e → ascends p e ≡ true → passes b first p e ≡ true
parts_back b first p e r u =
    and_then (allowed b.settings.format e.class e.length) _ r.frame
    (and_then (ltb e.channel b.settings.channels) _ r.channel
    (and_then (since_last b e) _ r.since (and_then (ltb (ahead e.time first) half) (ascends p e) (lt-ltb _ _ r.near) u)))

module _ (b : Buffer) (first : ℕ) where
  run : (p : Option Entry) (ss : List ℕ) (es : List Entry) → Distinct ss → all_pass b first p (words_of ss) es ≡ true → Run b first p ss es
  unfolding all_pass onto
  run p ss [] d h = record { each = λ e m. absurd (nowhere m); from = tt; distinct = d; words = h }
  run p ss (e ∷ es) d h =
      let a = in_turn_lem (passes b first p e) _ h in
      let c = in_turn_lem (is_free (words_of ss) e.slot) _ a.1 in
      let f = free_parts (words_of ss) e.slot c.0 in
      let q = parts b first p e a.0 in
      let r = run (some e) (e.slot ∷ ss) es (distinct_cons e.slot ss d f.0 (sym (mark_count ss d e.slot) ∙ f.1))
      (ap (λ (w : List ℕ). all_pass b first (some e) w es) (sym (words_cons e.slot ss f.0)) ∙ c.1) in
      record { each = λ x m. all q.0 r.each x (cases m); from = (q.1, r.from); distinct = r.distinct; words = r.words }
    where
      all : Parts b first e → ((x : Entry) → Memᴰ x es → Parts b first x) → (x : Entry) → (x ≡ e) ⊎ Memᴰ x es → Parts b first x
      all q r x (inl k) = subst (Parts b first) (sym k) q
      all q r x (inr m) = r x m

  -- the slots seen are distinct
  seen_distinct : (es : List Entry) (ss : List ℕ) → Distinct (onto es ss) → Distinct ss
  seen_distinct es ss d = record {
    once = λ x. omega (arith, d.once x, onto_count x es ss);
    within = λ x h. d.within x (omega (arith, onto_count x es ss));
  }

  run_back : (p : Option Entry) (ss : List ℕ) (es : List Entry) → Run b first p ss es → all_pass b first p (words_of ss) es ≡ true
  unfolding all_pass onto
  run_back p ss [] r = r.words
  run_back p ss (e ∷ es) r =
      let d = seen_distinct es (e.slot ∷ ss) r.distinct in
      let l : e.slot < slots = d.within e.slot (omega (arith, count_here e.slot ss)) in
      let k : count_in e.slot ss ≡ 0 = omega (arith, d.once e.slot, count_here e.slot ss) in
      let t : Distinct ss = seen_distinct (e ∷ es) ss r.distinct in
      and_then (passes b first p e) _ (parts_back b first p e (r.each e (here refl)) r.from.0)
      (and_then (is_free (words_of ss) e.slot) _ (and_then (ltb e.slot slots) (eqb (mark_of (words_of ss) e.slot) 0) (lt-ltb _ _ l) (eq-eqb (mark_of (words_of ss) e.slot) 0 (mark_count ss t e.slot ∙ k)))
      (ap (λ (w : List ℕ). all_pass b first (some e) w es) (words_cons e.slot ss l)
      ∙ run_back (some e) (e.slot ∷ ss) es (record { each = λ x m. r.each x (there m); from = r.from.1; distinct = r.distinct; words = r.words })))

-- after the entry before, and strictly ascending
from_ascending : (es : List Entry) → From none es → ascending es ≡ true
unfolding ascending
from_ascending [] f = refl
from_ascending (e ∷ es) f = go e es f.1
  where
    go : (e : Entry) (es : List Entry) → From (some e) es → ascending (e ∷ es) ≡ true
    go e [] f = refl
    go e (x ∷ es) f = and f.0 (go x es f.1)

ascending_from : (es : List Entry) → ascending es ≡ true → From none es
unfolding ascending
ascending_from [] h = tt
ascending_from (e ∷ es) h = (refl, go e es h)
  where
    go : (e : Entry) (es : List Entry) → ascending (e ∷ es) ≡ true → From (some e) es
    go e [] h = tt
    go e (x ∷ es) h = let a = both h in (a.0, go x es a.1)

-- after the last pair, by either value of the flag
since_after : (x : Bool) (d : ℕ) → is_flag d ≡ true → cond (eqb d 0) true x ≡ cond (eqb d 1) x true
since_after x = by_flag (λ (d : ℕ). cond (eqb d 0) true x ≡ cond (eqb d 1) x true) refl refl

equal : (a b : Bool) → (a ≡ true → b ≡ true) → (b ≡ true → a ≡ true) → a ≡ b
equal true b f g = sym (f refl)
equal false true f g = g refl
equal false false f g = refl

module _ (b : Buffer) where
  -- the first of the entries is the first of the columns
  near_in : (k : ℕ) → ((e : Entry) → Memᴰ e (entries_from b k 0) → ahead e.time (get_or b.times 0 0) < half) → in_stretch (entries_from b k 0) ≡ true
  unfolding entries_from
  near_in zero f = refl
  near_in (suc k) f = within_all (get_or b.times 0 0) (entries_from b (suc k) 0) f

  in_near : (k : ℕ) → in_stretch (entries_from b k 0) ≡ true → (e : Entry) → Memᴰ e (entries_from b k 0) → ahead e.time (get_or b.times 0 0) < half
  unfolding entries_from
  in_near zero h e m = absurd (nowhere m)
  in_near (suc k) h e m = all_within_lem (get_or b.times 0 0) (entries_from b (suc k) 0) h e m

  since_is : is_flag b.drawn ≡ true → (e : Entry) → since_last b e ≡ after_last (decode b) e
  since_is flag e = since_after (is_after (order e.time e.channel b.last_time b.last_channel)) b.drawn flag

-- The tests of a buffer, in the code's order

module _ (ts gs ls ss ws : List ℕ) (f : Fixed) where
  abbrev whole : Buffer
  whole = assembled ts gs ls ss ws f

  abbrev es : List Entry
  es = (decode whole).entries

  abbrev asked : ℕ → Bool
  asked n = last_kept f && unused_zero ts gs ls ss n && entries_pass ts gs ls ss ws f n

  asked_formed : asked (held_in ws) ≡ true → well_formed whole ≡ true
  unfolding well_formed word_at
  asked_formed h =
      let c = both h in
      let d = both c.0 in
      let l = both d.0 in
      let r : Run whole (get_or ts 0 0) none [] es = run whole (get_or ts 0 0) none [] es distinct_none c.1 in
      and (and (and l.0 d.1) (sym (ap (λ (w : List ℕ). same_words w ws) (onto_words es)) ∙ r.words))
      (from_clauses (model whole) (record {
        ascends = from_ascending es r.from;
        stretch = near_in whole (held_in ws) (λ e m. (r.each e m).near);
        apart = distinct_apart es (distinct_onto es r.distinct);
        each = λ e m. and (and (and (r.each e m).frame (r.each e m).channel) (entries_each whole (λ x. ltb x.primary 2 ≡ true) (λ i. lt-ltb _ 2 (mark_small (get_or gs i 0))) (held_in ws) 0 e m)) (sym (since_is whole l.0 e) ∙ (r.each e m).since);
        last = l.1;
      }))

  formed_asked : well_formed whole ≡ true → asked (held_in ws) ≡ true
  unfolding well_formed word_at
  formed_asked h =
      let p = both h in
      let q = both p.0 in
      let l = both q.0 in
      let c = clauses (model whole) p.1 in
      and (and (and l.0 c.last) l.1) (run_back whole (get_or ts 0 0) none [] es (record {
        each = λ e m. let t = entry_tests (model whole) e (c.each e m) in record { frame = t.frame; channel = t.channel; since = since_is whole l.0 e ∙ t.after; near = in_near whole (held_in ws) c.stretch e m };
        from = ascending_from es c.ascends;
        distinct = onto_distinct es (apart_distinct es c.apart);
        words = ap (λ (w : List ℕ). same_words w ws) (onto_words es) ∙ q.1;
      }))

  asked_is : well_formed whole ≡ asked (held_in ws)
  asked_is = equal (well_formed whole) (asked (held_in ws)) formed_asked asked_formed

  module _ (n : ℕ) (held : n ≡ held_in ws) where
    well_formed_is : well_formed whole ≡ asked n
    well_formed_is = asked_is ∙ ap asked (sym held)

    pub rest_not : last_kept f ≡ true → unused_zero ts gs ls ss n ≡ false → well_formed whole ≡ false
    rest_not p q = well_formed_is ∙ ap₂ (λ (u v : Bool). u && v && entries_pass ts gs ls ss ws f n) p q

    pub formed_entries : last_kept f ≡ true → unused_zero ts gs ls ss n ≡ true → well_formed whole ≡ entries_pass ts gs ls ss ws f n
    formed_entries p q = well_formed_is ∙ ap₂ (λ (u v : Bool). u && v && entries_pass ts gs ls ss ws f n) p q

  pub last_not : last_kept f ≡ false → well_formed whole ≡ false
  last_not p = asked_is ∙ ap (λ (u : Bool). u && unused_zero ts gs ls ss (held_in ws) && entries_pass ts gs ls ss ws f (held_in ws)) p
