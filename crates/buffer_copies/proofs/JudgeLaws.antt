-- The cases of a judgement, and what a judgement leaves as it was.
use mathlib.Core.Path.{◌≡◌, refl, ap, subst}
use mathlib.Core.List.{List, [], ◌∷◌, ◌++◌}
use mathlib.Core.Bool.{Bool, true, false, cond}
use mathlib.Core.Option.{Option, none, some}
use Prim.Native.Nat.{ℕ, ◌+◌, ◌≤◌, ◌<◌}
use native.Mathlib.Omega.{arith}
use lib.ListN.{length}
use lib.Dec.{ltb}
use borrow.Author.Tests.{ltb-true, ltb-false}
use Rattle.row_tags.specs.Tags.{either_mark}
use Rattle.buffer_copies.specs.declared.verdict.Verdict.{Verdict}
use Rattle.buffer_copies.specs.declared.verdict.Verdict.TheVariants.{Late, Far, Repeated, Better, NoRoom, Inserted}
use Rattle.buffer_copies.specs.Sizes.{slots}
use Rattle.buffer_copies.specs.Pairs.{order}
use Rattle.buffer_copies.specs.Copies.{Copy, Received, better}
use Rattle.buffer_copies.specs.Entries.{Entry, Held, view, entry_of, remarked, side_of_entry, find_by, free_slot, always, placed}
use Rattle.buffer_copies.specs.Verdicts.{is_late, is_far, Judged, keeps, lays, repeats, judge_held, judge, Counts, counted, Judgement, tally, Gathered, judge_all}
use Rattle.buffer_copies.proofs.InsertionLaws.{put_longer, put_level, find_same}
use Rattle.buffer_copies.proofs.WrapLaws.{order_same}

-- the entry that holds the pair of a copy
abbrev pub find_pair : Copy → List Entry → Option Entry
find_pair c es = find_by (side_of_entry (entry_of c 0 0)) es

-- it has the copy's pair, and is found by its own pair, however it is marked
pub found_pair : (c : Copy) (es : List Entry) (e : Entry) → find_pair c es ≡ some e → (c.time ≡ e.time) × (c.channel ≡ e.channel)
unfolding entry_of
found_pair c es e w = order_same c.time c.channel e.time e.channel (find_same (side_of_entry (entry_of c 0 0)) es e w)

pub found_again : (c : Copy) (mark : ℕ) (es : List Entry) (e : Entry) → find_pair c es ≡ some e → find_by (side_of_entry (remarked mark e)) es ≡ some e
unfolding entry_of remarked
found_again c mark es e w =
    let p = found_pair c es e w in
    subst (λ (k : ℕ × ℕ). find_by (λ (y : Entry). order k.0 k.1 y.time y.channel) es ≡ some e) (λ i. (p.0 i, p.1 i)) w

module _ (h : Held) (s : List ℕ) (c : Copy) (mark : ℕ) where
  -- a case for each verdict, with what it says
  pub judge_cases : (P : Judged → Type 0)
      → (is_late h c ≡ true → P (keeps h s Late))
      → (is_late h c ≡ false → is_far h c ≡ true → P (keeps h s Far))
      → (is_late h c ≡ false → is_far h c ≡ false → (e : Entry) → find_pair c h.entries ≡ some e → better c (view s e) ≡ false → P (repeats e mark h s))
      → (is_late h c ≡ false → is_far h c ≡ false → (e : Entry) → find_pair c h.entries ≡ some e → better c (view s e) ≡ true → P (lays c (either_mark mark e.primary) e.slot h s Better))
      → (is_late h c ≡ false → is_far h c ≡ false → find_pair c h.entries ≡ none → slots ≤ length h.entries → P (keeps h s NoRoom))
      → (is_late h c ≡ false → is_far h c ≡ false → find_pair c h.entries ≡ none → length h.entries < slots → P (lays c mark (free_slot h.entries) h s Inserted))
      → P (judge h s c mark)
  unfolding judge judge_held entry_of
  judge_cases P late far repeated better-one no_room inserted = at (is_late h c) refl (is_far h c) refl
    where
      found : is_late h c ≡ false → is_far h c ≡ false → (e : Entry) → find_pair c h.entries ≡ some e → (b : Bool) → better c (view s e) ≡ b → P (cond b (lays c (either_mark mark e.primary) e.slot h s Better) (repeats e mark h s))
      found u v e w true q = better-one u v e w q
      found u v e w false q = repeated u v e w q

      missing : is_late h c ≡ false → is_far h c ≡ false → find_pair c h.entries ≡ none → (b : Bool) → ltb (length h.entries) slots ≡ b → P (cond b (lays c mark (free_slot h.entries) h s Inserted) (keeps h s NoRoom))
      missing u v w true q = inserted u v w (ltb-true (length h.entries) slots q)
      missing u v w false q = no_room u v w (ltb-false (length h.entries) slots q)

      by_held : is_late h c ≡ false → is_far h c ≡ false → (o : Option Entry) → find_pair c h.entries ≡ o → P (judge_held c mark h s o)
      by_held u v none w = missing u v w (ltb (length h.entries) slots) refl
      by_held u v (some e) w = found u v e w (better c (view s e)) refl

      at : (l : Bool) → is_late h c ≡ l → (f : Bool) → is_far h c ≡ f → P (cond l (keeps h s Late) (cond f (keeps h s Far) (judge_held c mark h s (find_pair c h.entries))))
      at true u f v = late u
      at false u true v = far u v
      at false u false v = by_held u v (find_pair c h.entries) refl

  -- the last pair stays
  pub judge_last : ((judge h s c mark).held.drawn ≡ h.drawn) × ((judge h s c mark).held.last_time ≡ h.last_time) × ((judge h s c mark).held.last_channel ≡ h.last_channel)
  judge_last =
      judge_cases (λ j. (j.held.drawn ≡ h.drawn) × (j.held.last_time ≡ h.last_time) × (j.held.last_channel ≡ h.last_channel))
      (λ u. (refl, refl, refl)) (λ u v. (refl, refl, refl)) (λ u v e w q. (refl, refl, refl)) (λ u v e w q. (refl, refl, refl)) (λ u v w q. (refl, refl, refl))
      (λ u v w q. (refl, refl, refl))

-- ---- how many entries
-- no more than there are slots
pub judge_room : (h : Held) (s : List ℕ) (c : Copy) (mark : ℕ) → length h.entries ≤ slots → length (judge h s c mark).held.entries ≤ slots
unfolding placed entry_of
judge_room h s c mark l =
    judge_cases h s c mark (λ j. length j.held.entries ≤ slots)
    (λ u. l) (λ u v. l)
    (λ u v e w q. let m = either_mark e.primary mark in omega (arith, put_level side_of_entry always (remarked m e) h.entries e (found_again c m h.entries e w)))
    (λ u v e w q. omega (arith, put_level side_of_entry always (entry_of c (either_mark mark e.primary) e.slot) h.entries e w))
    (λ u v w q. l)
    (λ u v w q. omega (arith, put_longer side_of_entry always (entry_of c mark (free_slot h.entries)) h.entries w))

-- the entries that a verdict adds
abbrev pub added : Verdict → ℕ
added Late = 0
added Far = 0
added Repeated = 0
added Better = 0
added NoRoom = 0
added Inserted = 1

pub judge_count : (h : Held) (s : List ℕ) (c : Copy) (mark : ℕ) → length (judge h s c mark).held.entries ≡ length h.entries + added (judge h s c mark).verdict
unfolding placed entry_of
judge_count h s c mark =
    judge_cases h s c mark (λ j. length j.held.entries ≡ length h.entries + added j.verdict)
    (λ u. omega arith) (λ u v. omega arith)
    (λ u v e w q. let m = either_mark e.primary mark in omega (arith, put_level side_of_entry always (remarked m e) h.entries e (found_again c m h.entries e w)))
    (λ u v e w q. omega (arith, put_level side_of_entry always (entry_of c (either_mark mark e.primary) e.slot) h.entries e w))
    (λ u v w q. omega arith)
    (λ u v w q. omega (arith, put_longer side_of_entry always (entry_of c mark (free_slot h.entries)) h.entries w))

counted_added : (n : Counts) (v : Verdict) → (counted n v).inserted ≡ n.inserted + added v
counted_added n Late = omega arith
counted_added n Far = omega arith
counted_added n Repeated = omega arith
counted_added n Better = omega arith
counted_added n NoRoom = omega arith
counted_added n Inserted = refl

-- the entries grow by what is counted as inserted
pub judge_all_count : (h : Held) (s : List ℕ) (n : Counts) (xs : List Received) → length (judge_all h s xs).held.entries + n.inserted ≡ length h.entries + (tally n (judge_all h s xs).judgements).inserted
unfolding judge_all tally
judge_all_count h s n [] = refl
judge_all_count h s n (x ∷ xs) =
    let j = judge h s x.copy x.primary in
    omega (arith, judge_all_count j.held j.store (counted n j.verdict) xs, judge_count h s x.copy x.primary, counted_added n j.verdict)

pub tally_append : (n : Counts) (js ks : List Judgement) → tally n (js ++ ks) ≡ tally (tally n js) ks
unfolding tally
tally_append n [] ks = refl
tally_append n (j ∷ js) ks = tally_append (counted n j.verdict) js ks

-- one list of copies after another
pub judge_all_append : (h : Held) (s : List ℕ) (xs ys : List Received)
    → let g = judge_all h s xs in let k = judge_all g.held g.store ys in
    judge_all h s (xs ++ ys) ≡ record { held = k.held; store = k.store; judgements = g.judgements ++ k.judgements }
unfolding judge_all
judge_all_append h s [] ys = refl
judge_all_append h s (x ∷ xs) ys =
    let j = judge h s x.copy x.primary in
    ap (λ (g : Gathered). record { held = g.held; store = g.store; judgements = record { received = x; verdict = j.verdict } ∷ g.judgements })
    (judge_all_append j.held j.store xs ys)
