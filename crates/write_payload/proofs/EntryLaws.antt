-- Laws of the bytes of entries and tables.
use mathlib.Core.Path.{◌≡◌, refl, ap, sym, ◌∙◌}
use mathlib.Core.List.{List, [], ◌∷◌, ◌++◌, append-nil}
use mathlib.Core.Bool.{Bool, true, false}
use Prim.Native.Nat.{ℕ, ◌+◌, ◌-◌, ◌/◌, ◌≤◌, ◌<◌}
use native.Mathlib.Omega.{arith}
use lib.ListN.{length, take, drop, set, length-append}
use lib.Dec.{leb}
use borrow.Author.Tests.{leb-true, leb-false}
use borrow.Rule.Slice.PartMut.{put_mid}
use Rattle.rtp.specs.Areas.{over}
use Rattle.rtp.proofs.AreaLaws.{over_part, over_one, over_two}
use Rattle.rtp.proofs.TestLaws.{by-test}
use Rattle.formats.specs.Formats.{format_of, step_of}
use Rattle.read_contents.specs.Contents.{Group, min_entry, gaps_size, entry_size, size_in}
use Rattle.frame_codes.specs.Codes.{no_code, code_for}
use Rattle.write_payload.specs.Bytes.{halves, flag, first_byte, start_bytes, gap_bytes, entry_bytes, table_bytes}
use Rattle.formats.proofs.FormatLaws.{code_placed}
use Rattle.frame_codes.proofs.CodeLaws.{code_below_lem}
use Rattle.write_plan.specs.Entries.{max_blocks, entries_of}
use Rattle.write_plan.specs.Room.{row_as, words_at}
use Rattle.write_plan.proofs.EntriesLaws.{entries_one, entries_two}
use Rattle.write_payload.specs.Room.{block_gaps, run_group, GapRoom, StartRoom, EntryRoom}
use Rattle.write_payload.proofs.GapLaws.{length_gaps}

-- the first byte is a byte

pub flag_small : (more : Bool) → flag more ≤ 128
flag_small true = omega arith
flag_small false = omega arith

pub first_small : (format : ℕ) (more : Bool) (class n : ℕ) → code_for format class n < no_code → first_byte format more class n < 256
unfolding first_byte
first_small format more class n h =
    omega (arith, flag_small more, (code_placed format).low (code_for format class n) (code_below_lem format class n h))

-- lengths

pub length_halves : (ns : List ℕ) → length (halves ns) ≡ (length ns + 1) / 2
unfolding halves
length_halves [] = refl
length_halves (a ∷ []) = refl
length_halves (a ∷ b ∷ ns) = let e = length_halves ns in omega arith

pub length_start : (format : ℕ) (more : Bool) (class n blocks : ℕ) → length (start_bytes format more class n blocks) ≡ min_entry format
unfolding min_entry
length_start format more class n blocks = by-test (format_of format).counted (λ a. rw a) (λ a. rw a)

length_gap : (format : ℕ) (ns : List ℕ) → length (gap_bytes format ns) ≡ gaps_size format (length ns)
unfolding gaps_size
length_gap format ns = by-test (format_of format).displaced (λ a. rw a (length_halves ns)) (λ a. rw a)

pub length_entry : (format : ℕ) (more : Bool) (g : Group) → length (entry_bytes format more g) ≡ entry_size format (length g.gaps)
unfolding entry_bytes entry_size
length_entry format more g =
    let a = length_start format more g.class g.length (length g.gaps) in
    let b = length_gap format g.gaps in
    length-append (start_bytes format more g.class g.length (length g.gaps)) (gap_bytes format g.gaps) ∙ omega (arith, a, b)

-- a table is its first entry, with the bit F if another follows, and the others

abbrev pub follow : List Group → Bool
follow [] = false
follow (g ∷ gs) = true

-- one follows exactly where a run does
pub follow_entries : (gs : List Group) → follow (entries_of gs) ≡ follow gs
follow_entries [] = unfold entries_of in refl
follow_entries (g ∷ gs) = by-test (leb (length g.gaps) max_blocks) (λ a. rw (entries_one g gs (leb-true (length g.gaps) max_blocks a))) (λ a. rw (entries_two g gs (leb-false (length g.gaps) max_blocks a)))

pub table_more : (format : ℕ) (g : Group) (gs : List Group) → table_bytes format (g ∷ gs) ≡ entry_bytes format (follow gs) g ++ table_bytes format gs
unfolding table_bytes
table_more format g [] = sym (append-nil (entry_bytes format false g))
table_more format g (h ∷ gs) = refl

pub length_table : (format : ℕ) (gs : List Group) → length (table_bytes format gs) ≡ size_in format gs
unfolding size_in
length_table format [] = unfold table_bytes in refl
length_table format (g ∷ gs) =
    ap length (table_more format g gs) ∙ length-append (entry_bytes format (follow gs) g) (table_bytes format gs)
    ∙ ap (λ (n : ℕ). n + length (table_bytes format gs)) (length_entry format (follow gs) g) ∙ ap (λ (n : ℕ). entry_size format (length g.gaps) + n) (length_table format gs)

-- What the room for an entry is good for

module _ (format w n p : ℕ) (ws : List ℕ) (area : ℕ) (r : EntryRoom format w n p ws area) where
  pub room_start : StartRoom format (row_as (words_at ws 0)).class (row_as (words_at ws 0)).length n area
  unfolding entry_size
  room_start = record { coded = r.coded; few = r.few; room = omega (arith, r.room) }

  pub room_gaps : (format_of format).displaced ≡ true → GapRoom format w n p ws (area - min_entry format)
  unfolding entry_size gaps_size
  room_gaps d = let h = rw d at r.room in record { wide = r.wide; words = r.words; small = r.small; room = omega arith }

-- An entry, written

module _ (format : ℕ) (more : Bool) (class n blocks : ℕ) (l : List ℕ) where
  pub put_single : (format_of format).counted ≡ false → 1 ≤ length l → set l 0 (first_byte format more class n) ≡ over (start_bytes format more class n blocks) l
  put_single c h = over_one l (first_byte format more class n) h ∙ rw c

  pub put_counted : (format_of format).counted ≡ true → 2 ≤ length l → set (set l 0 (first_byte format more class n)) 1 blocks ≡ over (start_bytes format more class n blocks) l
  put_counted c h = over_two l (first_byte format more class n) blocks h ∙ rw c

module _ (format w n p : ℕ) (ws : List ℕ) (more : Bool) (l m : List ℕ) (e : m ≡ over (start_bytes format more (row_as (words_at ws 0)).class (row_as (words_at ws 0)).length n) l) where
  pub put_plain : (format_of format).displaced ≡ false → m ≡ over (entry_bytes format more (run_group format w n p ws)) l
  unfolding entry_bytes
  put_plain d = e ∙ rw (d, append-nil (start_bytes format more (row_as (words_at ws 0)).class (row_as (words_at ws 0)).length (length (block_gaps (step_of format) w n p ws))), length_gaps)

  pub put_displaced : (format_of format).displaced ≡ true → (start : ℕ) → start ≡ min_entry format → (z : List ℕ)
      → z ≡ over (halves (block_gaps (step_of format) w n p ws)) (take (length m - start) (drop start m))
      → put_mid start (length m - start) m z ≡ over (entry_bytes format more (run_group format w n p ws)) l
  unfolding entry_bytes
  put_displaced d start s z q =
      over_part (start_bytes format more (row_as (words_at ws 0)).class (row_as (words_at ws 0)).length n) (halves (block_gaps (step_of format) w n p ws)) l m z start
      (length_start format more (row_as (words_at ws 0)).class (row_as (words_at ws 0)).length n ∙ sym s) e q
      ∙ rw (d, length_gaps)
