-- Far, held and better are what they say: the proofs of the claims.
use Prim.Native.Nat.{ℕ, ◌^◌, ◌<◌}
use mathlib.Core.Path.{◌≡◌, refl, sym, ap, ap₂, ◌∙◌, subst}
use mathlib.Core.Logic.{inl, inr}
use mathlib.Core.List.{List, [], ◌∷◌, ◌++◌, Memᴰ}
use mathlib.Core.Bool.{Bool, true, false, cond, not}
use mathlib.Core.Option.{some}
use native.Mathlib.Omega.{arith}
use lib.ListN.{length}
use Rattle.rtp.specs.Editions.{Edition}
use Rattle.rtp.specs.declared.settings.Settings.{Settings}
use Rattle.rtp.proofs.RangeLaws.{few_channels}
use Rattle.rtp.proofs.TestLaws.{by-test, not-both}
use Rattle.formats.specs.Frames.{sound, sid, damaged_sound, damaged_sid}
use Rattle.buffer_copies.specs.Pairs.{half, ahead, order}
use Rattle.buffer_copies.specs.Copies.{Copy, quality, soundness, greater, rank, better_frame, better}
use Rattle.buffer_copies.specs.Entries.{Entry, Held, entry_of, side_of_entry, find_by}
use Rattle.buffer_copies.specs.Verdicts.{fits, is_far}
use Rattle.buffer_copies.proofs.InsertionLaws.{find_mem, find_same}
use Rattle.buffer_copies.proofs.RankLaws.{Alike, greater_self, greater_turn, head_greater, head_same, quality_greater, soundness_greater, length_greater, length_same}
use Rattle.buffer_copies.proofs.WrapLaws.{order_same}
use Rattle.buffer_copies.proofs.HeldLaws.{Sorted, rising_sorted, find_member, fits_base}
use Rattle.buffer_copies.proofs.PlayoutLaws.{fits_stretch}
use Rattle.buffer_layout.proofs.ModelLaws.{Facts, fine_exactly}
use Rattle.buffer_claims.specs.VerdictClaims.{StretchWith, Holds, FarExactly, OfPair, HeldExactly, Beats, IsGood, IsDamaged, BetterOrder}
use Rattle.buffer_claims.proofs.WellFormedFactsTheorem.{to_stretch}

-- Held

module _ (ed : Edition) (st : Settings) (h : Held) (H : Holds ed st h) where
  held_facts : Facts st h
  held_facts = (fine_exactly st h (omega (arith, few_channels ed st H.range))).0 H.well_formed_lem

  -- sorted from every time that the entries are less than half the range ahead of
  sorted : (base : ℕ) → base < 2 ^ 32 → ((e : Entry) → Memᴰ e h.entries → ahead e.time base < half) → Sorted base h.entries
  sorted base lb near =
      rising_sorted base lb h.entries (λ e i. record { word = H.words e i; octet = (held_facts.each e i).octet; near = near e i }) held_facts.rising

  module _ (c : Copy) (e : Entry) where
    found : find_by (side_of_entry (entry_of c 0 0)) h.entries ≡ some e → Memᴰ e h.entries × OfPair c e
    unfolding entry_of
    found q =
        let o = order_same c.time c.channel e.time e.channel (find_same (side_of_entry (entry_of c 0 0)) h.entries e q) in
        (find_mem (side_of_entry (entry_of c 0 0)) h.entries e q, (sym o.0, sym o.1))

    finds : Memᴰ e h.entries × OfPair c e → find_by (side_of_entry (entry_of c 0 0)) h.entries ≡ some e
    unfolding entry_of
    finds p =
        let s = to_stretch h.entries H.words held_facts.stretch in
        let T = sorted s.base s.word s.within in
        subst (λ (x : ℕ). find_by (λ (y : Entry). order x c.channel y.time y.channel) h.entries ≡ some e) p.1.0
        (subst (λ (x : ℕ). find_by (λ (y : Entry). order e.time x y.time y.channel) h.entries ≡ some e) p.1.1
        (find_member s.base h.entries T e p.0))

  -- Far

  module _ (c : Copy) (word : c.time < 2 ^ 32) where
    no_stretch : is_far h c ≡ true → (h.drawn ≡ false) × (StretchWith h.entries c.time → ⊥)
    no_stretch f =
        by-test h.drawn
        (λ d. not-both false (rw d at f) refl)
        (λ d. (
          d,
          λ s.
              let fit = fits_stretch s.base s.word c.time 0 h.entries (record { word = word; octet = omega arith; near = s.this }) (sorted s.base s.word s.held) in
              not-both {P = ⊥} false (rw (d, fit) at f) refl,
        ))

    far : (h.drawn ≡ false) × (StretchWith h.entries c.time → ⊥) → is_far h c ≡ true
    far p =
        by-test (fits c.time h.entries)
        (λ q.
        let k = fits_base c.time h.entries word H.words held_facts.stretch q in
        absurd (p.1 (record { base = k.0; word = k.1; held = k.3; this = k.2 })))
        (λ q. ap (λ (d : Bool). cond d false (not (fits c.time h.entries))) p.0 ∙ ap not q)

pub far_exactly : (ed : Edition) → FarExactly ed
far_exactly ed st h H c word = (no_stretch ed st h H c word, far ed st h H c word)

pub held_exactly : (ed : Edition) → HeldExactly ed
held_exactly ed st h H c e = (found ed st h H c e, finds ed st h H c e)

-- Better

beats : (a b : Copy) → better a b ≡ true → Beats a b
unfolding better_frame
beats a b e = (e, greater_turn (rank a.class a.bytes) (rank b.class b.bytes) e)

good_quality : (k : ℕ) → IsGood k → quality k ≡ 1
unfolding quality
good_quality k (inl e) = rw e refl
good_quality k (inr e) = rw e refl

damaged_quality : (k : ℕ) → IsDamaged k → quality k ≡ 0
unfolding quality
damaged_quality k (inl e) = rw e refl
damaged_quality k (inr e) = rw e refl

module _ (a b : Copy) where
  good_first : IsGood a.class → IsDamaged b.class → Beats a b
  good_first g d =
      beats a b (quality_greater a.class a.bytes b.class b.bytes (omega (arith, good_quality a.class g, damaged_quality b.class d)))

  -- of two classes of one quality, of which the first is sound
  by_soundness : (k m : ℕ) → quality k ≡ quality m → soundness m < soundness k → a.class ≡ k → b.class ≡ m → Beats a b
  by_soundness k m q s e f =
      beats a b
      (soundness_greater a.class a.bytes b.class b.bytes (ap quality e ∙ q ∙ sym (ap quality f)) (rw (e, f) s))

  one_class : a.class ≡ b.class → Alike a.class b.class
  one_class e = (ap quality e, ap soundness e)

first_differs : (front rest others : List ℕ) (x y : ℕ) → y < x → greater (front ++ x ∷ rest) (front ++ y ∷ others) ≡ true
first_differs [] rest others x y l = head_greater x y rest others l
first_differs (z ∷ front) rest others x y l = head_same z z (front ++ x ∷ rest) (front ++ y ∷ others) refl ∙ first_differs front rest others x y l

pub better_order : BetterOrder
unfolding quality soundness
better_order = record {
  good_first = good_first;
  sound_first = λ a b e f. by_soundness a b sound sid refl (omega arith) e f;
  damaged_sound_first = λ a b e f. by_soundness a b damaged_sound damaged_sid refl (omega arith) e f;
  longer = λ a b e l. beats a b (length_greater a.class a.bytes b.class b.bytes (one_class a b e) l);
  greater_byte = λ a b e n front rest others x y p q l.
      beats a b (length_same a.class a.bytes b.class b.bytes (one_class a b e) n ∙ ap₂ greater p q ∙ first_differs front rest others x y l);
  equal = λ a b e p. length_same a.class a.bytes b.class b.bytes (one_class a b e) (ap length p) ∙ ap (λ (l : List ℕ). greater l b.bytes) p ∙ greater_self b.bytes;
}
