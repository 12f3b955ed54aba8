-- Laws of the state between calls: the facts of what a well-formed buffer holds, and that judging and drawing keep them.
use mathlib.Core.Path.{◌≡◌, refl, sym, ◌∙◌, subst}
use mathlib.Core.Logic.{⊎_elim}
use mathlib.Core.List.Memᴰ.{head as here}
use mathlib.Core.List.Memᴰ.{tail as there}
use mathlib.Core.List.{List, [], ◌∷◌, Memᴰ}
use mathlib.Core.Bool.{true}
use Prim.Native.Nat.{ℕ, ◌≤◌, ◌<◌, ◌^◌}
use native.Mathlib.Omega.{arith}
use lib.ListN.{length}
use Rattle.rtp.specs.declared.settings.Settings.{Settings}
use Rattle.rtp.proofs.TestLaws.{not-both}
use Rattle.row_tags.specs.Tags.{either_mark}
use Rattle.buffer_copies.specs.Sizes.{slots, store_size}
use Rattle.buffer_copies.specs.Copies.{Copy, Received}
use Rattle.buffer_copies.specs.Entries.{Entry, Held, entry_of, remarked, side_of_entry, always, placed, free_slot}
use Rattle.buffer_copies.specs.Verdicts.{judge, judge_all}
use Rattle.buffer_copies.proofs.InsertionLaws.{put_from, find_mem}
use Rattle.buffer_copies.proofs.JudgeLaws.{judge_cases, judge_last, judge_room}
use Rattle.buffer_copies.proofs.HeldLaws.{IsFrame, HeldFacts, judge_facts, drawn_first, draw_facts}
use Rattle.frame_codes.specs.Allowed.{allowed}
use Rattle.buffer_layout.proofs.ModelLaws.{EntryFacts, Facts}
use Rattle.frame_codes.proofs.AllowedLaws.{allowed_frame}

-- the buffer's model, with its store, under settings in range
pub record Good (st : Settings) (h : Held) (s : List ℕ) : Type 0 where
  pub facts : Facts st h
  pub words : (e : Entry) → Memᴰ e h.entries → e.time < 2 ^ 32
  pub last_word : h.last_time < 2 ^ 32
  pub last_octet : h.last_channel < 256
  pub room : store_size ≤ length s

pub good_facts : (st : Settings) (h : Held) (s : List ℕ) → Good st h s → HeldFacts h s
good_facts st h s g = record {
  rising = g.facts.rising;
  stretch = g.facts.stretch;
  each = λ e m.
      let f = g.facts.each e m in
      let a = allowed_frame st.format e.class e.length f.frame in
      record { word = g.words e m; octet = f.octet; class = a.0; size = a.1; slot = g.facts.slot_facts.within e m; mark = f.mark };
  own_slots = g.facts.slot_facts.differ;
  after_last = g.facts.after_last;
  last_word = g.last_word;
  last_octet = g.last_octet;
  room = g.room;
}

-- a copy that the settings allow
pub record Fit (st : Settings) (c : Copy) : Type 0 where
  pub frame : allowed st.format c.class (length c.bytes) ≡ true
  pub channel : c.channel < st.channels
  pub octet : c.channel < 256
  pub word : c.time < 2 ^ 32

pub fit_frame : (st : Settings) (c : Copy) → Fit st c → IsFrame c
fit_frame st c f = let a = allowed_frame st.format c.class (length c.bytes) f.frame in record { word = f.word; octet = f.octet; class = a.0; size = a.1 }

-- what holds of an entry in its place, and of every entry held, holds of all of them then
placed_each : (P : Entry → Type 0) (n : Entry) (es : List Entry) → P n → ((e : Entry) → Memᴰ e es → P e) → (e : Entry) → Memᴰ e (placed n es) → P e
unfolding placed
placed_each P n es new old e m = ⊎_elim (λ q. subst P (sym q) new) (λ i. old e i) (put_from side_of_entry always n es e m)

module _ (st : Settings) (h : Held) (s : List ℕ) (c : Copy) (mark : ℕ) where
  -- what holds of the copy's entry and of every entry held, however it is marked, holds of every entry after judging
  judged_each : (P : Entry → Type 0) → ((m k : ℕ) → P (entry_of c m k)) → ((m : ℕ) (e : Entry) → P e → P (remarked m e)) → ((e : Entry) → Memᴰ e h.entries → P e)
      → (e : Entry) → Memᴰ e (judge h s c mark).held.entries → P e
  judged_each P new again old e =
      judge_cases h s c mark (λ j. Memᴰ e j.held.entries → P e)
      (λ u m. old e m) (λ u v m. old e m)
      (λ u v x w q m.
      let k = either_mark x.primary mark in
      placed_each P (remarked k x) h.entries (again k x (old x (find_mem (side_of_entry (entry_of c 0 0)) h.entries x w))) old e m)
      (λ u v x w q m. let k = either_mark mark x.primary in placed_each P (entry_of c k x.slot) h.entries (new k x.slot) old e m)
      (λ u v w q m. old e m)
      (λ u v w q m. placed_each P (entry_of c mark (free_slot h.entries)) h.entries (new mark (free_slot h.entries)) old e m)

  pub judge_good : Good st h s → Fit st c → mark < 2 → Good st (judge h s c mark).held (judge h s c mark).store
  unfolding entry_of remarked
  judge_good g f lm =
      let S = judge_facts h s c (good_facts st h s g) (fit_frame st c f) mark lm in
      let L = judge_last h s c mark in
      let own : (e : Entry) → Memᴰ e (judge h s c mark).held.entries → (allowed st.format e.class e.length ≡ true) × (e.channel < st.channels) =
      judged_each (λ e. (allowed st.format e.class e.length ≡ true) × (e.channel < st.channels)) (λ m k. (f.frame, f.channel)) (λ m e p. p)
      (λ e m. ((g.facts.each e m).frame, (g.facts.each e m).channel)) in
      record {
        facts = record {
          rising = S.rising;
          stretch = S.stretch;
          each = λ e m. record { frame = (own e m).0; channel = (own e m).1; octet = (S.each e m).octet; mark = (S.each e m).mark };
          slot_facts = record { differ = S.own_slots; within = λ e m. (S.each e m).slot };
          room = judge_room h s c mark g.facts.room;
          after_last = S.after_last;
          last_channel_lem = λ d. subst (λ (x : ℕ). x < st.channels) (sym L.2) (g.facts.last_channel_lem (sym L.0 ∙ d));
          no_last = λ d. let z = g.facts.no_last (sym L.0 ∙ d) in (L.1 ∙ z.0, L.2 ∙ z.1);
        };
        words = λ e m. (S.each e m).word;
        last_word = S.last_word;
        last_octet = S.last_octet;
        room = S.room;
      }

-- copies received that the settings allow, with marks of 0 or 1
unfoldable pub Fits : Settings → List Received → Type 0
Fits st [] = Unit {0}
Fits st (x ∷ xs) = Fit st x.copy × (x.primary < 2) × Fits st xs

pub judge_all_good : (st : Settings) (xs : List Received) (h : Held) (s : List ℕ) → Good st h s → Fits st xs → Good st (judge_all h s xs).held (judge_all h s xs).store
unfolding judge_all Fits
judge_all_good st [] h s g f = g
judge_all_good st (x ∷ xs) h s g f =
    let j = judge h s x.copy x.primary in
    judge_all_good st xs j.held j.store (judge_good st h s x.copy x.primary g f.0 f.1) f.2

-- the first entry is drawn
pub draw_good : (st : Settings) (h : Held) (s : List ℕ) (e : Entry) (es : List Entry) → h.entries ≡ e ∷ es → Good st h s → Good st (drawn_first e es) s
draw_good st h s e es q g =
    let S = draw_facts h s e es q (good_facts st h s g) in
    let old : (x : Entry) → Memᴰ x es → EntryFacts st x = λ x m. g.facts.each x (subst (λ (l : List Entry). Memᴰ x l) (sym q) (there m)) in
    let first : EntryFacts st e = g.facts.each e (subst (λ (l : List Entry). Memᴰ e l) (sym q) (here refl)) in
    let few : length (e ∷ es) ≤ slots = subst (λ (l : List Entry). length l ≤ slots) q g.facts.room in
    record {
      facts = record {
        rising = S.rising;
        stretch = S.stretch;
        each = old;
        slot_facts = record { differ = S.own_slots; within = λ x m. (S.each x m).slot };
        room = omega arith;
        after_last = S.after_last;
        last_channel_lem = λ d. first.channel;
        no_last = λ d. not-both {P = _} true refl d;
      };
      words = λ x m. (S.each x m).word;
      last_word = S.last_word;
      last_octet = S.last_octet;
      room = S.room;
    }
