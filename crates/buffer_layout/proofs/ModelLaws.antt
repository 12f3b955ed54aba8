-- What a well-formed model is, as facts of its entries, one by one.
use Prim.Native.Nat.{Ordering}
use Prim.Native.Nat.{ℕ, ◌≤◌, ◌<◌}
use mathlib.Core.Path.{◌≡◌, refl, sym, ap, ◌∙◌}
use mathlib.Core.Logic.{◌↔◌}
use mathlib.Core.List.Memᴰ.{head as here}
use mathlib.Core.List.Memᴰ.{tail as there}
use mathlib.Core.List.{List, [], ◌∷◌, Memᴰ}
use mathlib.Core.Bool.{Bool, true, false, cond, not, ◌&&◌, and-eq-true_iff}
use native.Mathlib.Omega.{arith}
use borrow.Author.Tests.{eqb-true, ltb-true, eq-eqb, lt-ltb}
use lib.Dec.{ltb, eqb}
use lib.ListN.{length}
use Rattle.rtp.specs.declared.settings.Settings.{Settings}
use Rattle.buffer_copies.specs.Sizes.{slots}
use Rattle.buffer_copies.specs.Pairs.{order, is_after}
use Rattle.buffer_copies.specs.Entries.{Entry, Held, side_of_entry, slot_used}
use Rattle.buffer_copies.proofs.RankLaws.{frame_class}
use Rattle.buffer_copies.proofs.HeldLaws.{Rising, Stretch, all_within_lem}
use Rattle.buffer_copies.proofs.PlayoutLaws.{within_all}
use Rattle.frame_codes.specs.Allowed.{allowed}
use Rattle.buffer_layout.specs.Model.{Model, ascending, in_stretch, slots_apart, after_last, entry_fine, entries_fine, last_fine, fine}
use Rattle.buffer_layout.proofs.PositionLaws.{after_gt}
use Rattle.buffer_slots.proofs.WordLaws.{slots_of, SlotFacts, own_few, own_distinct, distinct_own, Distinct, count_in, count_here, distinct_none, distinct_tail, distinct_cons, used_count}
use Rattle.buffer_layout.proofs.LayoutLaws.{Octets, InTag}
use Rattle.frame_codes.proofs.AllowedLaws.{allowed_frame}

-- The facts

-- class and length allowed, the channel in range, and a mark of 0 or 1
pub record EntryFacts (st : Settings) (e : Entry) : Type 0 where
  pub frame : allowed st.format e.class e.length ≡ true
  pub channel : e.channel < st.channels
  pub octet : e.channel < 256
  pub mark : e.primary < 2

-- so a tag can hold all of it
pub in_tag : (st : Settings) (e : Entry) → EntryFacts st e → InTag e
in_tag st e f = record {
  mark = f.mark;
  class = omega (arith, (frame_class e.class (allowed_frame st.format e.class e.length f.frame).0).1);
  octet = f.octet;
}

pub record Facts (st : Settings) (h : Held) : Type 0 where
  pub rising : Rising h.entries
  pub stretch : Stretch h.entries
  pub each : (e : Entry) → Memᴰ e h.entries → EntryFacts st e
  pub slot_facts : SlotFacts h.entries
  pub room : length h.entries ≤ slots
  pub after_last : h.drawn ≡ true → (e : Entry) → Memᴰ e h.entries → order e.time e.channel h.last_time h.last_channel ≡ Ordering.gt
  pub last_channel_lem : h.drawn ≡ true → h.last_channel < st.channels
  pub no_last : h.drawn ≡ false → (h.last_time ≡ 0) × (h.last_channel ≡ 0)

-- Two tests

pub both : {a b : Bool} → a && b ≡ true → (a ≡ true) × (b ≡ true)
both {a} {b} h = (and-eq-true_iff a b).0 h

pub and : {a b : Bool} → a ≡ true → b ≡ true → a && b ≡ true
and {a} {b} p q = (and-eq-true_iff a b).1 (p, q)

-- Clause by clause

pub ascending_rising : (es : List Entry) → ascending es ≡ true → Rising es
unfolding ascending
ascending_rising [] h = tt
ascending_rising (e ∷ []) h = tt
ascending_rising (e ∷ f ∷ es) h = let a = both h in (after_gt (side_of_entry f e) a.0, ascending_rising (f ∷ es) a.1)

pub rising_ascending : (es : List Entry) → Rising es → ascending es ≡ true
unfolding ascending
rising_ascending [] r = refl
rising_ascending (e ∷ []) r = refl
rising_ascending (e ∷ f ∷ es) r = and (ap is_after r.0) (rising_ascending (f ∷ es) r.1)

in_stretch_lem : (es : List Entry) → in_stretch es ≡ true → Stretch es
in_stretch_lem [] h = tt
in_stretch_lem (e ∷ es) h = all_within_lem e.time (e ∷ es) h

stretch_in : (es : List Entry) → Stretch es → in_stretch es ≡ true
stretch_in [] s = refl
stretch_in (e ∷ es) s = within_all e.time (e ∷ es) s

pub apart_distinct : (es : List Entry) → slots_apart es ≡ true → Distinct (slots_of es)
unfolding slots_apart
apart_distinct [] h = distinct_none
apart_distinct (e ∷ es) h =
    let a = both h in
    let b = both a.0 in
    let z : count_in e.slot (slots_of es) ≡ 0 = eqb-true (count_in e.slot (slots_of es)) 0 (slot_unused (eqb (count_in e.slot (slots_of es)) 0) (slot_used e.slot es) (used_count e.slot es) b.1) in
    distinct_cons e.slot (slots_of es) (apart_distinct es a.1) (ltb-true e.slot slots b.0) z
  where
    slot_unused : (v t : Bool) → t ≡ not v → not t ≡ true → v ≡ true
    slot_unused true t q n = refl
    slot_unused false t q n = sym (ap not q) ∙ n

pub distinct_apart : (es : List Entry) → Distinct (slots_of es) → slots_apart es ≡ true
unfolding slots_apart
distinct_apart [] d = refl
distinct_apart (e ∷ es) d =
    let n : count_in e.slot (slots_of es) ≡ 0 = omega (arith, d.once e.slot, count_here e.slot (slots_of es)) in
    and (and (lt-ltb e.slot slots (d.within e.slot (omega (arith, count_here e.slot (slots_of es)))))
    (ap not (used_count e.slot es ∙ ap (λ (k : ℕ). not (eqb k 0)) n)))
    (distinct_apart es (distinct_tail e.slot (slots_of es) d))

module _ (m : Model) where
  each_fine : (es : List Entry) → entries_fine m es ≡ true → (e : Entry) → Memᴰ e es → entry_fine m e ≡ true
  unfolding entries_fine
  each_fine [] h e x'' = elim x'' [ ]
  each_fine (x ∷ es) h e (here q) = ap (entry_fine m) q ∙ (both {a = entry_fine m x} {b = entries_fine m es} h).0
  each_fine (x ∷ es) h e (there i) = each_fine es (both {a = entry_fine m x} {b = entries_fine m es} h).1 e i

  pub fine_each : (es : List Entry) → ((e : Entry) → Memᴰ e es → entry_fine m e ≡ true) → entries_fine m es ≡ true
  unfolding entries_fine
  fine_each [] f = refl
  fine_each (x ∷ es) f = and (f x (here refl)) (fine_each es (λ e i. f e (there i)))

-- the four tests of an entry
pub record EntryTests (m : Model) (e : Entry) : Type 0 where
  pub frame : allowed m.settings.format e.class e.length ≡ true
  pub channel : ltb e.channel m.settings.channels ≡ true
  pub mark : ltb e.primary 2 ≡ true
  pub after : after_last m.held e ≡ true

pub entry_tests : (m : Model) (e : Entry) → entry_fine m e ≡ true → EntryTests m e
entry_tests m e h = let c = both h in let b = both c.0 in let a = both b.0 in record { frame = a.0; channel = a.1; mark = b.1; after = c.1 }

-- The clauses of a model

pub record Clauses (m : Model) : Type 0 where
  pub ascends : ascending m.held.entries ≡ true
  pub stretch : in_stretch m.held.entries ≡ true
  pub apart : slots_apart m.held.entries ≡ true
  pub each : (e : Entry) → Memᴰ e m.held.entries → entry_fine m e ≡ true
  pub last : last_fine m.settings m.held.drawn m.held.last_time m.held.last_channel ≡ true

pub clauses : (m : Model) → fine m ≡ true → Clauses m
unfolding fine
clauses m h =
    let d = both h in
    let c = both d.0 in
    let b = both c.0 in
    let a = both b.0 in
    record { ascends = a.0; stretch = a.1; apart = b.1; each = each_fine m m.held.entries c.1; last = d.1 }

pub from_clauses : (m : Model) → Clauses m → fine m ≡ true
unfolding fine
from_clauses m c = and (and (and (and c.ascends c.stretch) c.apart) (fine_each m m.held.entries c.each)) c.last

-- Well-formed exactly if the facts hold

module _ (st : Settings) (h : Held) where
  abbrev m : Model
  m = record { settings = st; held = h }

  pub fine_facts : Octets h.entries → fine m ≡ true → Facts st h
  fine_facts octets f =
      let c = clauses m f in
      let own = distinct_own h.entries (apart_distinct h.entries c.apart) in
      record {
        rising = ascending_rising h.entries c.ascends;
        stretch = in_stretch_lem h.entries c.stretch;
        each = λ e i. let t = entry_tests m e (c.each e i) in record { frame = t.frame; channel = ltb-true e.channel st.channels t.channel; octet = octets e i; mark = ltb-true e.primary 2 t.mark };
        slot_facts = own;
        room = own_few h.entries own;
        after_last = λ d e i. after_gt _ (sym (ap (λ (v : Bool). cond v (is_after (order e.time e.channel h.last_time h.last_channel)) true) d) ∙ (entry_tests m e (c.each e i)).after);
        last_channel_lem = λ d. ltb-true h.last_channel st.channels (sym (ap (λ (v : Bool). last_fine st v h.last_time h.last_channel) d) ∙ c.last);
        no_last = λ d.
            let z : eqb h.last_time 0 && eqb h.last_channel 0 ≡ true = sym (ap (λ (v : Bool). last_fine st v h.last_time h.last_channel) d) ∙ c.last in
            let a = both z in
            (eqb-true h.last_time 0 a.0, eqb-true h.last_channel 0 a.1);
      }

  module _ (F : Facts st h) where
    after : (e : Entry) → Memᴰ e h.entries → (d : Bool) → h.drawn ≡ d → cond d (is_after (order e.time e.channel h.last_time h.last_channel)) true ≡ true
    after e i true q = ap is_after (F.after_last q e i)
    after e i false q = refl

    last : (d : Bool) → h.drawn ≡ d → last_fine st d h.last_time h.last_channel ≡ true
    last true q = lt-ltb h.last_channel st.channels (F.last_channel_lem q)
    last false q = and (eq-eqb h.last_time 0 (F.no_last q).0) (eq-eqb h.last_channel 0 (F.no_last q).1)

    pub facts_fine : fine m ≡ true
    facts_fine = from_clauses m (record {
      ascends = rising_ascending h.entries F.rising;
      stretch = stretch_in h.entries F.stretch;
      apart = distinct_apart h.entries (own_distinct h.entries F.slot_facts);
      each = λ e i. and (and (and (F.each e i).frame (lt-ltb e.channel st.channels (F.each e i).channel)) (lt-ltb e.primary 2 (F.each e i).mark)) (after e i h.drawn refl);
      last = last h.drawn refl;
    })

  -- with channels that a byte holds, as settings in range have them
  pub fine_exactly : st.channels ≤ 256 → fine m ≡ true ↔ Facts st h
  fine_exactly few = (λ f. fine_facts (λ e i. omega (arith, few, ltb-true e.channel st.channels (entry_tests m e ((clauses m f).each e i)).channel)) f, facts_fine)
