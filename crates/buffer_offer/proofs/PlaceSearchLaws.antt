-- A pair that is neither late nor far parts the entries of a well-formed buffer: they lie with it in one stretch, in the order of their numbers there.
use mathlib.Core.Path.{◌≡◌, refl, ap, sym, subst, ◌∙◌}
use mathlib.Core.List.{List, [], ◌∷◌}
use mathlib.Core.Bool.{false}
use Prim.Native.Nat.{ℕ, zero, suc, ◌^◌, ◌≤◌, ◌<◌, compare, Ordering}
use native.Mathlib.Nat.{not-suc-le-zero, le_of_suc-le-suc, zero-add}
use native.Mathlib.Omega.{arith}
use lib.ListN.{length, get_or}
use Rattle.rtp.specs.Editions.{Edition}
use Rattle.buffer_copies.specs.Pairs.{order}
use Rattle.buffer_copies.specs.Entries.{Entry}
use Rattle.buffer_copies.specs.Verdicts.{is_late, is_far}
use Rattle.buffer_copies.proofs.InsertionLaws.{Asc, Cmp, cmp}
use Rattle.buffer_copies.proofs.WrapLaws.{Near, place, order_place, order_after}
use Rattle.buffer_copies.proofs.HeldLaws.{entry_place, Sorted, sorted_with}
use Rattle.rtp.proofs.RangeLaws.{few_channels}
use Rattle.buffer_layout.specs.declared.buffer.Buffer.{Buffer}
use Rattle.buffer_insert.specs.declared.laying.FrameHead.{FrameHead}
use Rattle.buffer_slots.specs.Bits.{held_in}
use Rattle.buffer_columns.specs.Places.{Parted}
use Rattle.buffer_layout.specs.Layout.{entry_at, decode}
use Rattle.buffer_insert.specs.Laying.{channel_in, copy_in}
use Rattle.buffer_offer.specs.Judging.{Judgeable}
use Rattle.buffer_layout.proofs.LayoutLaws.{no_entry, at_member}
use Rattle.buffer_layout.proofs.WellFormedLaws.{decode_length}
use Rattle.buffer_offer.proofs.StateLaws.{good_facts, fit_frame}
use Rattle.buffer_offer.proofs.BufferLaws.{buffer_good}
use Rattle.buffer_offer.proofs.VerdictLaws.{entries_at}

-- in an ascending list, what comes later is greater
asc_at : (key : Entry → ℕ) (es : List Entry) → Asc key es → (i j : ℕ) → i < j → j < length es → key (get_or es i no_entry) < key (get_or es j no_entry)
asc_at key [] a i j l h = absurd (not-suc-le-zero h)
asc_at key (e ∷ es) a i zero l h = absurd (not-suc-le-zero l)
asc_at key (e ∷ es) a zero (suc j) l h = a.0 (get_or es j no_entry) (at_member es j (le_of_suc-le-suc h))
asc_at key (e ∷ es) a (suc i) (suc j) l h = asc_at key es a.1 i j (le_of_suc-le-suc l) (le_of_suc-le-suc h)

-- what is not before lies no earlier
not_before : (b t c h d : ℕ) → b < 2 ^ 32 → Near b t c → Near b h d → (order t c h d ≡ Ordering.lt → ⊥) → place b h d ≤ place b t c
not_before b t c h d lb u v n = go (compare (place b t c) (place b h d)) (cmp (place b t c) (place b h d)) (λ e. n (order_place b lb u v ∙ e))
  where
    go : (o : Ordering) → Cmp o (place b t c) (place b h d) → (o ≡ Ordering.lt → ⊥) → place b h d ≤ place b t c
    go Ordering.lt k n = absurd (n refl)
    go Ordering.eq k n = omega arith
    go Ordering.gt k n = omega arith

-- entries in order with the pair in one stretch
sorted_parted : (b t c : ℕ) (es : List Entry) → Sorted b es → Near b t c → (i j : ℕ) → i < j → j < length es
    → (order t c (get_or es j no_entry).time (get_or es j no_entry).channel ≡ Ordering.lt → ⊥) → order t c (get_or es i no_entry).time (get_or es i no_entry).channel ≡ Ordering.gt
sorted_parted b t c es S N i j l h n =
    let u = S.near (get_or es i no_entry) (at_member es i (omega arith)) in
    let v = S.near (get_or es j no_entry) (at_member es j h) in
    order_after b S.base N u (omega (arith, asc_at (entry_place b) es S.asc i j l h, not_before b t c _ _ S.base N v n))

module _ (ed : Edition) (b : Buffer) (head : FrameHead) (frame store : List ℕ) (ask : Judgeable ed b head frame store) (word : head.time < 2 ^ 32) where
  -- the stretch is from the last time drawn; where nothing was drawn, from the first time held or from the pair's own
  pub parts : is_late (decode b) (copy_in head frame) ≡ false → is_far (decode b) (copy_in head frame) ≡ false → (n : ℕ) → n ≡ held_in b.occupied
      → Parted b.times b.tags head.time (channel_in head) n
  parts late far n count i j l h k =
      let few = few_channels ed b.settings ask.settings in
      let S = good_facts b.settings (decode b) store (buffer_good ed b ask.machine ask.settings ask.fine store ask.room) in
      let F = fit_frame b.settings (copy_in head frame) (record { frame = ask.class; channel = ask.channel; octet = omega (arith, ask.channel, few); word = word }) in
      let T = sorted_with (decode b) store (copy_in head frame) S F late far in
      let size = decode_length b ask.machine ask.fine in
      let at : (i : ℕ) → i < n → get_or (decode b).entries i no_entry ≡ entry_at b i
      = λ i l. entries_at b (held_in b.occupied) 0 i (omega arith) ∙ ap (entry_at b) (zero-add i) in
      subst (λ (e : Entry). order head.time (channel_in head) e.time e.channel ≡ Ordering.gt) (at i (omega arith))
      (sorted_parted T.0 head.time (channel_in head) (decode b).entries T.1 T.2 i j l (omega arith)
      (subst (λ (e : Entry). order head.time (channel_in head) e.time e.channel ≡ Ordering.lt → ⊥) (sym (at j h)) k))
