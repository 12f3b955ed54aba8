-- Laws of the codes of AMR and AMR-WB, as the code finds them: by one test at every class and length.
use mathlib.Core.Path.{◌≡◌, refl, sym, ap, ◌∙◌}
use mathlib.Core.Bool.{Bool, true, false, cond}
use Prim.Native.Nat.{ℕ, suc, ◌/◌, ◌%◌, ◌^◌, ◌≤◌, ◌<◌, zero}
use native.Mathlib.Omega.{arith}
use lib.Dec.{T, eqb, ltb, leb, eqb→eq}
use mathlib.Core.List.{List}
use lib.ListN.{get_or, get_or-eq_default}
use borrow.Author.Tests.{ne_eqb, lt-leb, le-ltb, ltb-true, ltb-false, leb-true, leb-false, le-leb}
use Rattle.rtp.proofs.TestLaws.{by-test}
use Rattle.formats.specs.declared.facts.Format.{Format}
use Rattle.formats.specs.declared.facts.FrameTable.{FrameTable}
use Rattle.formats.specs.Formats.{no_code, amr_format, amr_wb_format, format_of}
use Rattle.formats.specs.Frames.{no_data, no_data_type, sound, sid, damaged_sound, damaged_sid, max_class, amr_length, amr_wb_length, length_in, frame_in}
use Rattle.frame_codes.specs.Codes.{code_below, highest_code, code_for, NoDataCodes, amr_longest, amr_wb_longest, no_type, type_below, type_for, graded_code, length_bits, has_length, sound_bits, table_code, sid_bits}
use Rattle.formats.proofs.TableRule.{all_below, at, entries, entry, entries_length}
use Rattle.formats.proofs.FormatLaws.{keeps}
use Rattle.frame_codes.proofs.CodeLaws.{none}

-- a class past every class has no code, whatever the type
no_class : (s t class : ℕ) → max_class < class → graded_code s t class ≡ no_code
unfolding graded_code
no_class s t class h =
    by-test (eqb t no_type) (λ a. rw a)
    (λ a. by-test (eqb t no_data_type) (λ b. rw (a, b, ne_eqb class no_data (λ e. absurd (omega arith))))
    (λ b. by-test (eqb t s)
    (λ d. rw (a, b, d, ne_eqb class sid (λ e. absurd (omega arith)), ne_eqb class damaged_sid (λ e. absurd (omega arith))))
    (λ d. rw (a, b, d, ne_eqb class sound (λ e. absurd (omega arith)), ne_eqb class damaged_sound (λ e. absurd (omega arith))))))

-- nor has what is no type, whatever the class
pub no_kind : (s t class : ℕ) → t ≡ no_type → graded_code s t class ≡ no_code
unfolding graded_code
no_kind s t class h = rw h

abbrev ruled : ℕ → ℕ → ℕ → Bool
ruled longest class n = cond (leb class max_class) (leb n longest) false

right : Format → ℕ → ℕ → Bool
right f class n = eqb (graded_code f.sid (type_for f.table n) class) (highest_code f class n)

abbrev rights : Format → ℕ → Bool
rights f longest = all_below (λ class. all_below (right f class) (suc longest)) (suc max_class)

module _ (f : Format) (longest : ℕ) (k : T (keeps f (ruled longest))) (few : f.codes ≤ no_code) (class n : ℕ) where
  within : T (rights f longest) → n ≤ longest → graded_code f.sid (type_for f.table n) class ≡ highest_code f class n
  unfolding right
  within t h =
      by-test (leb class max_class)
      (λ a. let l = leb-true class max_class a in
      eqb→eq _ _ (at (right f class) (suc longest) (at (λ c. all_below (right f c) (suc longest)) (suc max_class) t class (omega arith)) n (omega arith)))
      (λ a. no_class f.sid (type_for f.table n) class (leb-false class max_class a) ∙ none f class n (ruled longest) k few (rw a))

  -- the code by the highest type of each length
  by_length : T (rights f longest) → graded_code f.sid (get_or (entries (type_for f.table) 0 (suc longest)) n no_type) class ≡ highest_code f class n
  by_length t =
      let types : List ℕ = entries (type_for f.table) 0 (suc longest) in
      by-test (leb n longest)
      (λ a. let h = leb-true n longest a in
      ap (λ (k : ℕ). graded_code f.sid k class) (entry (type_for f.table) (suc longest) n no_type (omega arith)) ∙ within t h)
      (λ a. let h = leb-false n longest a in
      ap (λ (k : ℕ). graded_code f.sid k class) (get_or-eq_default types no_type {n = n} (omega (arith, entries_length (type_for f.table) 0 (suc longest), h)))
      ∙ no_kind f.sid no_type class refl
      ∙ none f class n (ruled longest) k few (by-test (leb class max_class) (λ b. rw (b, a)) (λ b. rw b)))

pub amr_code : (class n : ℕ) → graded_code amr_format.sid (get_or (entries (type_for FrameTable.Amr) 0 (suc amr_longest)) n no_type) class ≡ highest_code amr_format class n
unfolding right code_below frame_in length_in amr_length type_below graded_code
amr_code class n = by_length amr_format amr_longest tt (omega arith) class n tt

pub amr_wb_code : (class n : ℕ) → graded_code amr_wb_format.sid (get_or (entries (type_for FrameTable.AmrWb) 0 (suc amr_wb_longest)) n no_type) class ≡ highest_code amr_wb_format class n
unfolding right code_below frame_in length_in amr_wb_length type_below graded_code
amr_wb_code class n = by_length amr_wb_format amr_wb_longest tt (omega arith) class n tt

-- Whether there is a code

-- no length has the bit of a word without any
zero_bit : (n : ℕ) → n < 64 → 0 / 2 ^ n % 2 ≡ 0
zero_bit n h = eqb→eq _ _ (at (λ (k : ℕ). eqb (0 / 2 ^ k % 2) 0) 64 tt n h)

-- a class past every class has no length
no_bits : (sounds class : ℕ) → max_class < class → length_bits sounds class ≡ 0
unfolding length_bits
no_bits sounds class h =
    rw (
      ne_eqb class no_data (λ e. absurd (omega arith)),
      ne_eqb class sound (λ e. absurd (omega arith)),
      ne_eqb class damaged_sound (λ e. absurd (omega arith)),
      ne_eqb class sid (λ e. absurd (omega arith)),
      ne_eqb class damaged_sid (λ e. absurd (omega arith)),
    )

same : Bool → Bool → Bool
same a b = cond a b (cond b false true)

same_is : (a b : Bool) → T (same a b) → a ≡ b
unfolding same
same_is true true t = refl
same_is true false t = absurd t
same_is false true t = absurd t
same_is false false t = refl

told : Format → ℕ → ℕ → ℕ → Bool
told f sounds class n = same (has_length sounds class n) (ltb (highest_code f class n) no_code)

abbrev tolds : Format → ℕ → Bool
tolds f sounds = all_below (λ class. all_below (told f sounds class) 64) (suc max_class)

module _ (f : Format) (sounds : ℕ) (k : T (keeps f (ruled 63))) (few : f.codes ≤ no_code) (class n : ℕ) where
  lacks : has_length sounds class n ≡ false → ruled 63 class n ≡ false → has_length sounds class n ≡ ltb (highest_code f class n) no_code
  lacks e r = let z = none f class n (ruled 63) k few r in e ∙ sym (le-ltb (highest_code f class n) no_code (omega arith))

  has_told : T (tolds f sounds) → has_length sounds class n ≡ ltb (highest_code f class n) no_code
  unfolding told has_length
  has_told t =
      by-test (ltb n 64)
      (λ b. let l = ltb-true n 64 b in
      by-test (leb class max_class)
      (λ a. let m = leb-true class max_class a in
      same_is _ _ (at (told f sounds class) 64 (at (λ c. all_below (told f sounds c) 64) (suc max_class) t class (omega arith)) n l))
      (λ a. lacks (rw (b, no_bits sounds class (leb-false class max_class a), zero_bit n l)) (rw a)))
      (λ b. let l = ltb-false n 64 b in
      lacks (rw b) (by-test (leb class max_class) (λ a. rw (a, lt-leb n 63 (omega arith))) (λ a. rw a)))

-- .. which the tables of AMR and AMR-WB have
pub sounds_has : (t : FrameTable) (class n : ℕ) → 0 < sound_bits t → has_length (sound_bits t) class n ≡ ltb (table_code t class n) no_code
unfolding sound_bits told same has_length length_bits code_below frame_in length_in amr_length amr_wb_length
sounds_has FrameTable.G719 class n h = absurd (omega (arith, h))
sounds_has FrameTable.GsmHr class n h = absurd (omega (arith, h))
sounds_has FrameTable.Amr class n h = has_told amr_format (sound_bits FrameTable.Amr) tt (omega arith) class n tt
sounds_has FrameTable.AmrWb class n h = has_told amr_wb_format (sound_bits FrameTable.AmrWb) tt (omega arith) class n tt
sounds_has FrameTable.Empty class n h = absurd (omega (arith, h))

pub amr_sounds : 0 < sound_bits FrameTable.Amr
unfolding sound_bits length_in amr_length
amr_sounds = omega arith

pub amr_wb_sounds : 0 < sound_bits FrameTable.AmrWb
unfolding sound_bits length_in amr_wb_length
amr_wb_sounds = omega arith

-- The words by class, as the code asks for them: a damaged frame's class is that of a good one and four
unfoldable pub by_four : ℕ → ℕ → ℕ
by_four sounds class =
    cond (eqb class no_data) 1
    (cond (leb 8 class) 0
    (cond (eqb (class % 4) sound) sounds
    (cond (eqb (class % 4) sid) sid_bits 0)))

pub by_four_lem : (sounds class : ℕ) → by_four sounds class ≡ length_bits sounds class
unfolding by_four length_bits
by_four_lem sounds zero = refl
by_four_lem sounds (suc zero) = refl
by_four_lem sounds (suc (suc zero)) = refl
by_four_lem sounds (suc (suc (suc zero))) = refl
by_four_lem sounds (suc (suc (suc (suc zero)))) = refl
by_four_lem sounds (suc (suc (suc (suc (suc zero))))) = refl
by_four_lem sounds (suc (suc (suc (suc (suc (suc zero)))))) = refl
by_four_lem sounds (suc (suc (suc (suc (suc (suc (suc zero))))))) = refl
by_four_lem sounds (suc (suc (suc (suc (suc (suc (suc (suc k)))))))) =
    let c : ℕ = suc (suc (suc (suc (suc (suc (suc (suc k))))))) in
    let e : by_four sounds c ≡ 0 = rw (ne_eqb c no_data (λ e. absurd (omega arith)), le-leb 8 c (omega arith)) in e ∙ sym (no_bits sounds c (omega arith))

pub no_data_codes : NoDataCodes
unfolding code_for format_of code_below frame_in length_in amr_length amr_wb_length
no_data_codes = (refl, refl)
