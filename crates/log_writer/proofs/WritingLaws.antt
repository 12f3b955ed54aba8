-- Laws of a whole log: which rows it can keep, how it is laid, and what writing it comes to.
use mathlib.Core.Path.{◌≡◌, ap, sym, ◌∙◌}
use mathlib.Core.List.{List, ◌++◌, append_assoc}
use mathlib.Core.Bool.{true, false}
use Prim.Native.Nat.{ℕ, ◌+◌, ◌-◌, ◌/◌, ◌%◌, ◌^◌, ◌≤◌, ◌<◌}
use native.Mathlib.Omega.{arith}
use lib.ListN.{length, take, drop, length-append}
use lib.Dec.{ltb}
use borrow.Author.Tests.{lt-ltb, le-ltb, eq-eqb, ne_eqb, ltb-false}
use borrow.Rule.Slice.PartMut.{put_mid}
use Rattle.rtp.specs.Editions.{Edition}
use Rattle.rtp.specs.Sizes.{row_width}
use Rattle.rtp.specs.Areas.{over}
use Rattle.rtp.specs.Ranges.{in_range}
use Rattle.rtp.specs.declared.settings.Settings.{Settings}
use Rattle.rtp.specs.declared.refusal.Refusal.TheVariants.{SettingsOutOfRange, RowOutsideBytes, AreaTooShort, NotAllowed}
use Rattle.rtp.proofs.TestLaws.{both, either}
use Rattle.rtp.proofs.AreaLaws.{over_part}
use Rattle.write_plan.specs.Lists.{rows_in, whole, outside}
use Rattle.write_plan.proofs.ListLaws.{length_rows}
use Rattle.log_fields.specs.Fields.{first_size}
use Rattle.log_writer.specs.FieldBytes.{settings_bytes, end_bytes, max_frames, no_bytes, bytes_of, room_for}
use Rattle.log_writer.specs.Writings.{rows_bytes, log_bytes, all_fit, loggable, writing}
use Rattle.log_writer.specs.Room.{last_size, rows_size, SmallRows, LogRoom}
use Rattle.log_writer.proofs.FieldBytesLaws.{length_settings, length_end, room_short, room_enough}
use Rattle.log_writer.proofs.RowsLaws.{fit_small, size_bound, length_fields}

-- Which rows it can keep

module _ (st : Settings) (ws : List ℕ) where
  pub parts_unloggable : (length ws % row_width ≡ 0 → ⊥) → loggable st ws ≡ false
  unfolding loggable
  parts_unloggable h = rw (ne_eqb (length ws % row_width) 0 h)

  pub many_unloggable : length ws % row_width ≡ 0 → max_frames < length ws / row_width → loggable st ws ≡ false
  unfolding loggable
  many_unloggable h m = rw (eq-eqb (length ws % row_width) 0 h, length_rows ws, lt-ltb max_frames (length ws / row_width) m)

  pub fit_loggable : length ws % row_width ≡ 0 → length ws / row_width ≤ max_frames → loggable st ws ≡ all_fit st (rows_in ws)
  unfolding loggable
  fit_loggable h m = rw (eq-eqb (length ws % row_width) 0 h, length_rows ws, le-ltb max_frames (length ws / row_width) m)

-- How it is laid

length_log : (st : Settings) (bytes ws : List ℕ) → outside (length bytes) (rows_in ws) ≡ false → length (log_bytes st bytes (rows_in ws)) ≡ first_size + rows_size (rows_in ws) + last_size
unfolding log_bytes
length_log st bytes ws h =
    length-append (settings_bytes st) (rows_bytes bytes (rows_in ws) ++ end_bytes (length (rows_in ws)))
    ∙ rw (length_settings st, length-append, length_fields bytes (rows_in ws) h, length_end (length (rows_in ws))) (omega arith)

module _ (st : Settings) (ws bytes l m e z : List ℕ) (inner : ℕ) (r : LogRoom ws (length bytes) inner (length l)) where
  abbrev inside : List ℕ
  inside = put_mid first_size (length m - first_size) m e

  pub log_laid : m ≡ over (settings_bytes st) l → e ≡ over (rows_bytes bytes (rows_in ws)) (take (length m - first_size) (drop first_size m))
      → z ≡ over (end_bytes (length ws / row_width)) (take (length inside - (first_size + inner)) (drop (first_size + inner) inside))
      → put_mid (first_size + inner) (length inside - (first_size + inner)) inside z ≡ over (log_bytes st bytes (rows_in ws)) l
  unfolding log_bytes
  log_laid p q s =
      let a = settings_bytes st in
      let b = rows_bytes bytes (rows_in ws) in
      let n : length (a ++ b) ≡ first_size + inner = length-append a b ∙ rw (length_settings st, length_fields bytes (rows_in ws) r.inside, r.taken) in
      over_part (a ++ b) (end_bytes (length ws / row_width)) l inside z (first_size + inner) n (over_part a b l m e first_size (length_settings st) p q) s
      ∙ ap (λ (w : List ℕ). over w l) (append_assoc a b (end_bytes (length ws / row_width)) ∙ ap (λ (k : ℕ). a ++ (b ++ end_bytes k)) (sym (length_rows ws)))

-- What writing it comes to

module _ (ed : Edition) (st : Settings) (ws bytes : List ℕ) (area : ℕ) where
  pub log_refused : in_range ed st ≡ false → writing ed st ws bytes area ≡ no_bytes SettingsOutOfRange
  unfolding writing
  log_refused h = rw h

  module _ (h : in_range ed st ≡ true) where
    pub log_outside : outside (length bytes) (rows_in ws) ≡ true → writing ed st ws bytes area ≡ no_bytes RowOutsideBytes
    unfolding writing
    log_outside o = rw (h, o)

    module _ (o : outside (length bytes) (rows_in ws) ≡ false) where
      pub log_unfit : loggable st ws ≡ false → writing ed st ws bytes area ≡ no_bytes NotAllowed
      unfolding writing
      log_unfit k = rw (h, o, k)

      module _ (k : loggable st ws ≡ true) where
        kept : (length (rows_in ws) ≤ max_frames) × SmallRows (rows_in ws)
        unfolding loggable
        kept =
            let a = both (whole ws) _ k in
            let b = either (ltb max_frames (length (rows_in ws))) (all_fit st (rows_in ws)) a.1 in
            (ltb-false max_frames (length (rows_in ws)) b.0, fit_small st (rows_in ws) b.1)

        pub log_small : rows_size (rows_in ws) < 2 ^ 63
        log_small = omega (arith, kept.0, size_bound (rows_in ws) kept.1)

        module _ (inner : ℕ) (i : inner ≡ rows_size (rows_in ws)) where
          pub log_room : first_size + inner + last_size ≤ area → LogRoom ws (length bytes) inner area
          log_room r = record { small = kept.1; inside = o; few = kept.0; taken = i; room = r }

          pub length_whole : length (log_bytes st bytes (rows_in ws)) ≡ first_size + inner + last_size
          length_whole = length_log st bytes ws o ∙ rw i

          roomy : writing ed st ws bytes area ≡ room_for area (log_bytes st bytes (rows_in ws))
          unfolding writing
          roomy = rw (h, o, k)

          pub log_short : area < first_size + inner + last_size → writing ed st ws bytes area ≡ no_bytes AreaTooShort
          log_short s = roomy ∙ room_short area (log_bytes st bytes (rows_in ws)) (rw length_whole s)

          pub log_put : first_size + inner + last_size ≤ area → writing ed st ws bytes area ≡ bytes_of (log_bytes st bytes (rows_in ws))
          log_put s = roomy ∙ room_enough area (log_bytes st bytes (rows_in ws)) (rw length_whole s)
