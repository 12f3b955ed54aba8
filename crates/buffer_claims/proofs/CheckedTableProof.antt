-- Document 01's checked table, lines 8 to 10, computed on the definitions. Frames are any bytes: a list of known length is computed with as the list of its places.
use mathlib.Core.Path.{◌≡◌, refl, ap, ◌∙◌, subst}
use mathlib.Core.List.{List, [], ◌∷◌}
use mathlib.Core.Bool.{true}
use Prim.Native.Nat.{ℕ, zero, suc, ◌≤◌, ◌<◌}
use native.Mathlib.Omega.{arith}
use lib.ListN.{length, get_or, drop, length-append, length-drop}
use lib.Count.{ones}
use borrow.Author.Tests.{le-ltb}
use Rattle.rtp.specs.Editions.{current}
use Rattle.rtp.specs.Sizes.{row_area}
use Rattle.rtp.specs.Areas.{over}
use Rattle.rtp.specs.Ranges.{max_channels, in_range}
use Rattle.read_headers.specs.Header.{payload_start, payload_end, fields, header}
use Rattle.rtp.specs.declared.settings.Settings.{Settings}
use Rattle.formats.specs.Formats.{format_of}
use Rattle.formats.specs.Frames.{sound, g719_length, length_in, frame_in}
use Rattle.frame_codes.specs.Codes.{code_below, code_for}
use Rattle.read_contents.specs.Contents.{min_entry, gaps_size, entry_size, entry_of as table_entry, gap_at, gaps_from, meaning, contents_by, contents, size_in, frames_in}
use Rattle.read_rows.specs.Rows.{time_after, block_rows, group_rows, table_rows, marked}
use Rattle.read_payload.specs.Payloads.{payload, placed_rows, payload_rows}
use Rattle.read_packet.specs.Readings.{headed_by, typed_rows, reading}
use Rattle.read_claims.specs.CheckedTable.{row}
use Rattle.read_claims.proofs.CheckedTableProof.{checked_table}
use Rattle.buffer_copies.specs.Sizes.{store_size}
use Rattle.buffer_copies.specs.Pairs.{ahead, after, order}
use Rattle.buffer_copies.specs.Copies.{quality, soundness, greater, rank, better_frame}
use Rattle.buffer_copies.specs.Entries.{view, entry_of, remarked, put, find_by, slot_used, lowest, free_slot, placed, stored}
use Rattle.buffer_copies.specs.Verdicts.{no_counts, counted, all_within, fits, judge_held, judge, tally, judge_all}
use Rattle.buffer_copies.specs.declared.verdict.Verdict.TheVariants.{Better, Repeated}
use Rattle.buffer_layout.specs.declared.buffer.Buffer.{Buffer}
use Rattle.buffer_slots.specs.Bits.{weight, word_at}
use Rattle.buffer_layout.specs.Columns.{zeros}
use Rattle.buffer_layout.specs.Layout.{pad_to, entries_from}
use Rattle.buffer_layout.specs.Model.{ascending, slots_apart, entries_fine, fine}
use Rattle.buffer_layout.specs.WellFormed.{well_formed}
use Rattle.buffer_offer.specs.Rows.{received_in}
use Rattle.buffer_offer.specs.Calls.{new_call, OfferOutcome, offer_call}
use Rattle.buffer_offer.proofs.CallLaws.{offer_read, offer_reads}
use Rattle.buffer_layout.proofs.WellFormedLaws.{fresh_formed}
use Rattle.buffer_claims.specs.CheckedTable.{mono, stereo, packet80, packet120, holding, after_zero, entry_with, entry, comes_to, Bytes, OfferLines, WholeTable}

-- the list of n places
abbrev places : ℕ → (ℕ → ℕ) → List ℕ
places zero v = []
places (suc n) v = v 0 ∷ places n (λ i. v (suc i))

of_places : (n : ℕ) (l : List ℕ) → length l ≡ n → places n (λ i. get_or l i 0) ≡ l
of_places zero [] e = refl
of_places zero (x ∷ l) e = absurd (omega arith)
of_places (suc n) [] e = absurd (omega arith)
of_places (suc n) (x ∷ l) e = ap (λ (t : List ℕ). x ∷ t) (of_places n l (omega arith))

-- what holds of every list of n places holds of any bytes of that length
any_bytes : (n : ℕ) (P : List ℕ → Type 0) → ((v : ℕ → ℕ) → P (places n v)) → Bytes n P
any_bytes n P p l e = subst P (of_places n l e) (p (λ i. get_or l i 0))

-- an offer to a well-formed buffer, with areas that are long enough
read_is : (st : Settings) (packet rows : List ℕ) → in_range current st ≡ true → row_area current ≤ length rows → reading current st (length rows) packet ≡ headed_by current st packet (header packet)
unfolding reading
read_is st packet rows range a = rw (range, le-ltb (length rows) (row_area current) a) refl

offer_is : (b : Buffer) (packet rows store : List ℕ) → in_range current b.settings ≡ true → well_formed b ≡ true → row_area current ≤ length rows → store_size ≤ length store
    → (r : OfferOutcome) → offer_read b packet rows store (headed_by current b.settings packet (header packet)) ≡ r → offer_call current b packet rows store ≡ r
offer_is b packet rows store range w a s r f = offer_reads current b packet rows store range w a s ∙ ap (offer_read b packet rows store) (read_is b.settings packet rows range a) ∙ f

-- the buffers of the table are well-formed

mono_range : in_range current mono ≡ true
unfolding in_range max_channels
mono_range = refl

stereo_range : in_range current stereo ≡ true
unfolding in_range max_channels
stereo_range = refl

-- each of the two marks
each_mark : (P : ℕ → Type 0) → P 0 → P 1 → (m : ℕ) → m < 2 → P m
each_mark P a b zero l = a
each_mark P a b (suc zero) l = b
each_mark P a b (suc (suc m)) l = absurd (omega arith)

abbrev Formed : ℕ → Type 0
Formed m = (well_formed (holding mono (entry_with m 0 0 80 0 ∷ [])) ≡ true) × (well_formed (holding mono (entry_with m 0 0 120 0 ∷ [])) ≡ true)

holding_formed : Formed 0 × Formed 1
unfolding well_formed fine ascending slots_apart entries_fine zeros entries_from ones weight word_at pad_to slot_used all_within ahead code_for code_below frame_in length_in g719_length format_of
holding_formed = ((refl, refl), (refl, refl))

after_formed : well_formed (after_zero stereo []) ≡ true
unfolding well_formed fine ascending slots_apart entries_fine zeros entries_from ones weight word_at pad_to
after_formed = refl

-- a store with a frame laid over its front has its room
over_room : (n : ℕ) (v : ℕ → ℕ) (store : List ℕ) → n ≤ store_size → store_size ≤ length store → store_size ≤ length (over (places n v) store)
unfolding over
over_room n v store l s =
    omega (arith, length-append (places n v) (drop (length (places n v)) store), length-drop (length (places n v)) store, places_length n v)
  where
    places_length : (n : ℕ) (v : ℕ → ℕ) → length (places n v) ≡ n
    places_length zero v = refl
    places_length (suc n) v = ap suc (places_length n (λ i. v (suc i)))

module _ (rows store : List ℕ) (a : row_area current ≤ length rows) (s : store_size ≤ length store) where
  offer_lines : OfferLines rows store
  unfolding new_call over in_range max_channels payload_start payload_end fields header format_of g719_length length_in frame_in min_entry gaps_size entry_size table_entry gap_at gaps_from meaning contents_by contents size_in frames_in time_after group_rows table_rows block_rows marked payload placed_rows payload_rows typed_rows received_in ahead after order quality soundness greater rank better_frame view entry_of remarked put find_by slot_used lowest free_slot placed stored all_within fits judge_held judge tally judge_all ones weight word_at pad_to entries_from
  offer_lines = record {
    first_80 = any_bytes 80 _ (λ v. offer_is _ _ rows store mono_range (fresh_formed mono) a s _ refl);
    first_120 = any_bytes 120 _ (λ v. offer_is _ _ rows store mono_range (fresh_formed mono) a s _ refl);
    new_ahead = any_bytes 80 _ (λ v. offer_is _ _ rows store mono_range holding_formed.1.0 a s _ refl);
    far_ahead = any_bytes 80 _ (λ v. offer_is _ _ rows store mono_range holding_formed.1.0 a s _ refl);
    same_late = any_bytes 80 _ (λ v. any_bytes 80 _ (λ w. offer_is _ _ rows store stereo_range after_formed a s _ refl));
    half_late = any_bytes 80 _ (λ v. any_bytes 80 _ (λ w. offer_is _ _ rows store stereo_range after_formed a s _ refl));
    longer_better = each_mark
        (λ m. Bytes 80 (λ f. Bytes 120 (λ g. offer_call current (holding mono (entry_with m 0 0 80 0 ∷ [])) (packet120 0 g) rows (over f store)
        ≡ comes_to rows (counted no_counts Better) (holding mono (entry 0 0 120 0 ∷ [])) (row 0 sound 0 14 120 ∷ []) (over g (over f store)))))
        (any_bytes 80 _ (λ v. any_bytes 120 _ (λ w. offer_is _ _ rows (over (places 80 v) store) mono_range holding_formed.0.0 a (over_room 80 v store (omega arith) s) _ refl)))
        (any_bytes 80 _ (λ v. any_bytes 120 _ (λ w. offer_is _ _ rows (over (places 80 v) store) mono_range holding_formed.1.0 a (over_room 80 v store (omega arith) s) _ refl)));
    shorter_repeated = each_mark
        (λ m. Bytes 120 (λ g. Bytes 80 (λ f. offer_call current (holding mono (entry_with m 0 0 120 0 ∷ [])) (packet80 0 f) rows (over g store)
        ≡ comes_to rows (counted no_counts Repeated) (holding mono (entry 0 0 120 0 ∷ [])) (row 0 sound 0 14 80 ∷ []) (over g store))))
        (any_bytes 120 _ (λ v. any_bytes 80 _ (λ w. offer_is _ _ rows (over (places 120 v) store) mono_range holding_formed.0.1 a (over_room 120 v store (omega arith) s) _ refl)))
        (any_bytes 120 _ (λ v. any_bytes 80 _ (λ w. offer_is _ _ rows (over (places 120 v) store) mono_range holding_formed.1.1 a (over_room 120 v store (omega arith) s) _ refl)));
  }

pub whole_table : WholeTable
whole_table = record { reading = checked_table; offers = offer_lines }
