-- Laws between a buffer and its model.
use mathlib.Core.Path.{◌≡◌, refl}
use mathlib.Core.List.Memᴰ.{head as here}
use mathlib.Core.List.Memᴰ.{tail as there}
use mathlib.Core.List.{List, [], ◌∷◌, map, Memᴰ}
use mathlib.Core.Bool.{true}
use Prim.Native.Nat.{ℕ, zero, suc, ◌≤◌, ◌<◌, ◌^◌}
use native.Mathlib.Omega.{arith}
use lib.ListN.{length, get_or}
use lib.Dec.{eqb}
use Rattle.rtp.specs.Editions.{Edition}
use Rattle.rtp.specs.Ranges.{in_range}
use Rattle.rtp.specs.declared.settings.Settings.{Settings}
use Rattle.rtp.proofs.TestLaws.{by-test}
use Rattle.rtp.proofs.RangeLaws.{few_channels}
use Rattle.buffer_copies.specs.Sizes.{slots, store_size}
use Rattle.buffer_copies.specs.Entries.{Entry, Held}
use Rattle.buffer_copies.proofs.RankLaws.{frame_class}
use Rattle.buffer_layout.specs.declared.buffer.Buffer.{Buffer}
use Rattle.buffer_layout.specs.Layout.{entry_tag, pad_to, column, encode, decode}
use Rattle.buffer_layout.specs.WellFormed.{well_formed}
use Rattle.buffer_layout.specs.Arrays.{Column, Machine}
use Rattle.buffer_layout.proofs.LayoutLaws.{column_length}
use Rattle.buffer_layout.proofs.WellFormedLaws.{facts, times_word, back, well_formed_lem}
use Rattle.buffer_offer.proofs.StateLaws.{Good, good_facts}

-- a well-formed buffer's model

module _ (ed : Edition) (b : Buffer) (m : Machine b) (r : in_range ed b.settings ≡ true) (w : well_formed b ≡ true) where
  last_octet : b.last_channel < 256
  last_octet =
      let F = facts b m w in
      by-test (eqb b.drawn 1)
      (λ d. omega (arith, F.last_channel_lem d, few_channels ed b.settings r))
      (λ d. omega (arith, (F.no_last d).1))

  pub buffer_good : (s : List ℕ) → store_size ≤ length s → Good b.settings (decode b) s
  buffer_good s l = record { facts = facts b m w; words = times_word b m w; last_word = m.last_time_lem; last_octet = last_octet; room = l }

-- the buffer of a model

map_bound : (f : Entry → ℕ) (es : List Entry) → ((e : Entry) → Memᴰ e es → f e < 2 ^ 32) → (i : ℕ) → get_or (map f es) i 0 < 2 ^ 32
map_bound f [] h i = omega arith
map_bound f (e ∷ es) h zero = h e (here refl)
map_bound f (e ∷ es) h (suc i) = map_bound f es (λ x m. h x (there m)) i

pad_bound : (n : ℕ) (xs : List ℕ) → ((i : ℕ) → get_or xs i 0 < 2 ^ 32) → (i : ℕ) → get_or (pad_to n xs) i 0 < 2 ^ 32
unfolding pad_to
pad_bound zero xs h i = omega arith
pad_bound (suc n) [] h zero = omega arith
pad_bound (suc n) [] h (suc i) = pad_bound n [] h i
pad_bound (suc n) (x ∷ xs) h zero = h 0
pad_bound (suc n) (x ∷ xs) h (suc i) = pad_bound n xs (λ j. h (suc j)) i

column_word : (f : Entry → ℕ) (es : List Entry) → ((e : Entry) → Memᴰ e es → f e < 2 ^ 32) → Column (column f es)
column_word f es h = (column_length f es, pad_bound slots (map f es) (map_bound f es h))

module _ (st : Settings) (h : Held) (s : List ℕ) (g : Good st h s) where
  pub good_machine : Machine (encode st h)
  good_machine =
      let S = good_facts st h s g in
      record {
        times = column_word (λ e. e.time) h.entries g.words;
        tags = column_word entry_tag h.entries (λ e m. let i = S.each e m in omega (arith, i.octet, (frame_class e.class i.class).1, i.mark));
        lengths = column_word (λ e. e.length) h.entries (λ e m. let i = S.each e m in omega (arith, i.size));
        slots_column = column_word (λ e. e.slot) h.entries (λ e m. let i = S.each e m in omega (arith, i.slot));
        occupied = refl;
        last_time_lem = g.last_word;
      }

  pub good_fine : well_formed (encode st h) ≡ true
  good_fine = well_formed_lem st h g.facts

  pub good_back : decode (encode st h) ≡ h
  good_back = back st h g.facts
