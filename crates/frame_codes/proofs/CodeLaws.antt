-- Laws of frame codes: a code that is found stands for its frame, and where a code does, one is found.
use mathlib.Core.Path.{◌≡◌, refl, sym, subst, ◌∙◌}
use Rattle.std.specs.Prelude.{None, Option, Some}
use Rattle.formats.specs.declared.frames.Frame.{Frame}
use mathlib.Core.Bool.{Bool, true, false, cond}
use Prim.Native.Nat.{ℕ, zero, suc, ◌+◌, ◌/◌, ◌%◌, ◌≤◌, ◌<◌}
use native.Mathlib.Omega.{arith}
use lib.Dec.{T, ltb, leb, eqb, eqb→eq}
use borrow.Author.Tests.{lt-ltb, le-ltb, lt-leb, eq-eqb, ne_eqb, ltb-true, ltb-false, leb-true, leb-false, eqb-true, eqb-false}
use Rattle.rtp.specs.Sizes.{max_frame}
use Rattle.rtp.proofs.TestLaws.{by-test, not-both, both}
use Rattle.formats.specs.declared.facts.Format.{Format}
use Rattle.formats.specs.declared.facts.FrameTable.{FrameTable}
use Rattle.formats.specs.Formats.{no_code, g719_format, gsm_format, format_of}
use Rattle.formats.specs.Frames.{no_data, sound, sid, g719_length, gsm_length, length_in, frame, frame_in, frame_of}
use Rattle.frame_codes.specs.Codes.{is_frame, code_below, highest_code, code_for, table_code}
use Rattle.formats.proofs.TableRule.{all_below, at}
use Rattle.formats.proofs.FormatLaws.{each, code_placed, Small, keeps, keeps_at, small_frame, small_is, small_all}

frame_is : (class n : ℕ) (c : Option Frame) → is_frame class n c ≡ true → c ≡ frame class n
frame_is class n None h = not-both false h refl
frame_is class n (Some f) h =
    by-test (eqb f.class class)
    (λ a. by-test (eqb f.length n)
    (λ b. let p = eqb-true _ _ a in let q = eqb-true _ _ b in λ j. Some (record { class = p j; length = q j }))
    (λ b. not-both false (rw (a, b) at h) refl))
    (λ a. not-both false (rw a at h) refl)

is_frame_lem : (class n : ℕ) (c : Option Frame) → c ≡ frame class n → is_frame class n c ≡ true
is_frame_lem class n c h = rw h (rw (eq-eqb class class refl, eq-eqb n n refl))

-- The search

record Found (f : Format) (class n k code : ℕ) : Type 0 where
  below : code < k
  back : frame_in f code ≡ frame class n

module _ (f : Format) (class n : ℕ) where
  found : (k : ℕ) → code_below f class n k < no_code → Found f class n k (code_below f class n k)
  unfolding code_below
  found zero h = absurd (omega arith)
  found (suc k) h =
      by-test (is_frame class n (frame_in f k))
      (λ a. rw a (record { below = omega arith; back = frame_is class n (frame_in f k) a }))
      (λ a. let i = found k (rw a at h) in rw a (record { below = omega (arith, i.below); back = i.back }))

  some : (k m : ℕ) → m < k → is_frame class n (frame_in f m) ≡ true → code_below f class n k < k
  unfolding code_below
  some zero m h e = absurd (omega arith)
  some (suc k) m h e =
      by-test (is_frame class n (frame_in f k)) (λ a. rw a (omega arith))
      (λ a. by-test (eqb m k)
      (λ b. not-both (is_frame class n (frame_in f k)) (rw (eqb-true m k b) at e) a)
      (λ b. let z = eqb-false m k b in rw a (omega (arith, some k m (omega arith) e))))

  within : (k : ℕ) → k ≤ no_code → code_below f class n k ≤ no_code
  unfolding code_below
  within zero h = omega arith
  within (suc k) h = by-test (is_frame class n (frame_in f k)) (λ a. rw a (omega arith)) (λ a. rw a (within k (omega arith)))

  kept : (p : ℕ → ℕ → Bool) → T (keeps f p) → highest_code f class n < no_code → T (p class n)
  kept p t h = let i = found f.codes h in keeps_at f p t (highest_code f class n) i.below (record { class = class; length = n }) i.back

  -- what breaks a rule of the format has no code
  pub none : (p : ℕ → ℕ → Bool) → T (keeps f p) → f.codes ≤ no_code → p class n ≡ false → no_code ≡ highest_code f class n
  none p t few o =
      by-test (ltb (highest_code f class n) no_code)
      (λ a. absurd (rw o at (kept p t (ltb-true (highest_code f class n) no_code a))))
      (λ a. omega (arith, within f.codes few, ltb-false (highest_code f class n) no_code a))

-- Over the formats

module _ (format class n : ℕ) where
  module _ (h : code_for format class n < no_code) where
    pub code_back : frame_of format (code_for format class n) ≡ frame class n
    unfolding code_for
    code_back = (found (format_of format) class n (format_of format).codes h).back

    pub code_below_lem : code_for format class n < (format_of format).codes
    unfolding code_for
    code_below_lem = (found (format_of format) class n (format_of format).codes h).below

    pub code_small : Small (record { class = class; length = n })
    unfolding code_for
    code_small = small_is class n (kept (format_of format) class n small_frame (small_all format) h)

  pub code_some : (k : ℕ) → k < (format_of format).codes → frame_of format k ≡ frame class n → code_for format class n < no_code
  unfolding code_for
  code_some k h e =
      omega (arith, some (format_of format) class n (format_of format).codes k h (is_frame_lem class n (frame_of format k) e), (code_placed format).few)

-- The codes of G.719 and of GSM-HR, as the code finds them

-- the lengths of G.719's sound, and their codes
unfoldable pub is_length : ℕ → Bool
is_length n = cond (leb n 220) (cond (leb 80 n) (eqb (n % 10) 0) false) (cond (leb n max_frame) (eqb (n % 20) 0) false)

unfoldable pub sound_code : ℕ → ℕ
sound_code n = cond (leb n 220) (n / 10) (n / 20 + 11)

abbrev g719_rule : ℕ → ℕ → Bool
g719_rule class n = cond (eqb class no_data) (eqb n 0) (cond (eqb class sound) (leb n max_frame) false)

pub g719_none : (class n : ℕ) → g719_rule class n ≡ false → no_code ≡ highest_code (g719_format false) class n
unfolding frame_in length_in g719_length
g719_none class n h = none (g719_format false) class n g719_rule tt (omega arith) h

pub g719_no_data : ◌≡◌ {A = ℕ} 0 (highest_code (g719_format false) 0 0)
unfolding code_below frame_in length_in g719_length
g719_no_data = refl

pub g719_not : (class n : ℕ) → (class ≡ no_data → n ≡ 0 → ⊥) → (class ≡ sound → ⊥) → no_code ≡ highest_code (g719_format false) class n
g719_not class n a b =
    g719_none class n
    (by-test (eqb class no_data)
    (λ e. rw (e, ne_eqb n 0 (λ z. a (eqb-true class no_data e) z)))
    (λ e. rw (e, ne_eqb class sound b)))

-- by one test at every length
right : ℕ → Bool
right n = eqb (cond (is_length n) (sound_code n) no_code) (highest_code (g719_format false) sound n)

right_all : T (all_below right (suc max_frame))
unfolding right is_length sound_code code_below frame_in length_in g719_length
right_all = tt

no_longer : (n : ℕ) → max_frame < n → is_length n ≡ false
unfolding is_length
no_longer n h =
    let b : 220 < n = omega arith in rw (lt-leb n 220 b, lt-leb n max_frame h)

pub sound_code_lem : (n : ℕ) → cond (is_length n) (sound_code n) no_code ≡ highest_code (g719_format false) sound n
unfolding right
sound_code_lem n =
    by-test (leb n max_frame)
    (λ a. let h = leb-true n max_frame a in eqb→eq _ _ (at right (suc max_frame) right_all n (omega arith)))
    (λ a. rw (no_longer n (leb-false n max_frame a)) (g719_none sound n a))

sound_small : (n : ℕ) → is_length n ≡ true → sound_code n < no_code
unfolding sound_code
sound_small n q =
    by-test (leb n max_frame)
    (λ a. let h = leb-true n max_frame a in by-test (leb n 220) (λ b. let k = leb-true n 220 b in rw b (omega arith)) (λ b. rw b (omega arith)))
    (λ a. not-both (is_length n) q (no_longer n (leb-false n max_frame a)))

-- whether there is a code
lacks : (k : ℕ) → no_code ≡ k → false ≡ ltb k no_code
lacks k h = sym (le-ltb k no_code (omega arith))

has : (k m : ℕ) → m ≡ k → m < no_code → true ≡ ltb k no_code
has k m h l = sym (lt-ltb k no_code (omega arith))

pub length_is : (n : ℕ) → is_length n ≡ ltb (highest_code (g719_format false) sound n) no_code
length_is n =
    let c = sound_code_lem n in
    by-test (is_length n)
    (λ a. a ∙ has (highest_code (g719_format false) sound n) (sound_code n) (rw a at c) (sound_small n a))
    (λ a. a ∙ lacks (highest_code (g719_format false) sound n) (rw a at c))

abbrev pub g719_has : ℕ → ℕ → Bool
g719_has class n = cond (eqb class no_data) (eqb n 0) (cond (eqb class sound) (is_length n) false)

pub g719_has_lem : (class n : ℕ) → g719_has class n ≡ ltb (highest_code (g719_format false) class n) no_code
g719_has_lem class n =
    by-test (eqb class no_data)
    (λ a. by-test (eqb n 0)
    (λ b. rw (a, b) (has (highest_code (g719_format false) class n) 0 (g719_no_data ∙ rw (eqb-true class no_data a, eqb-true n 0 b)) (omega arith)))
    (λ b. rw (a, b) (lacks (highest_code (g719_format false) class n) (g719_none class n (rw (a, b))))))
    (λ a. by-test (eqb class sound)
    (λ b. rw (a, b) (length_is n ∙ rw (eqb-true class sound b)))
    (λ b. rw (a, b) (lacks (highest_code (g719_format false) class n) (g719_none class n (rw (a, b))))))

abbrev pub gsm_rule : ℕ → ℕ → Bool
gsm_rule class n = cond (eqb class no_data) (eqb n 0) (cond (eqb n gsm_length) (leb class sid) false)

pub gsm_none : (class n : ℕ) → gsm_rule class n ≡ false → no_code ≡ highest_code gsm_format class n
unfolding frame_in length_in
gsm_none class n h = none gsm_format class n gsm_rule tt (omega arith) h

pub gsm_not : (class n : ℕ) → (class ≡ no_data → n ≡ 0 → ⊥) → (class ≡ sound → n ≡ gsm_length → ⊥) → (class ≡ sid → n ≡ gsm_length → ⊥) → no_code ≡ highest_code gsm_format class n
gsm_not class n a b d =
    gsm_none class n
    (by-test (eqb class no_data)
    (λ e. rw (e, ne_eqb n 0 (λ z. a (eqb-true class no_data e) z)))
    (λ e. by-test (eqb n gsm_length)
    (λ f. let x = eqb-false class no_data e in
    let y = eqb-true n gsm_length f in
    let p : class ≡ sound → ⊥ = λ z. b z y in
    let q : class ≡ sid → ⊥ = λ z. d z y in
    let h : sid < class = omega (arith, x, p, q) in
    rw (e, f, lt-leb class sid h))
    (λ f. rw (e, f))))

pub gsm_codes : (◌≡◌ {A = ℕ} 7 (highest_code gsm_format 0 0)) × (◌≡◌ {A = ℕ} 0 (highest_code gsm_format 1 gsm_length)) × (◌≡◌ {A = ℕ} 2 (highest_code gsm_format 2 gsm_length))
unfolding code_below frame_in length_in
gsm_codes = (refl, refl, refl)

pub gsm_has : (class n : ℕ) → gsm_rule class n ≡ ltb (highest_code gsm_format class n) no_code
gsm_has class n =
    by-test (gsm_rule class n) (λ a. a ∙ has (highest_code gsm_format class n) (gsm_code class n) (coded class n a) (some_code class n)) (λ a. a ∙ lacks (highest_code gsm_format class n) (gsm_none class n a))
  where
    gsm_code : ℕ → ℕ → ℕ
    gsm_code class n = cond (eqb class no_data) 7 (cond (eqb class sound) 0 2)

    some_code : (class n : ℕ) → gsm_code class n < no_code
    some_code class n = by-test (eqb class no_data) (λ a. rw a (omega arith)) (λ a. by-test (eqb class sound) (λ b. rw (a, b) (omega arith)) (λ b. rw (a, b) (omega arith)))

    coded : (class n : ℕ) → gsm_rule class n ≡ true → gsm_code class n ≡ highest_code gsm_format class n
    coded class n h =
        by-test (eqb class no_data)
        (λ a. rw a (gsm_codes.0 ∙ rw (eqb-true class no_data a, eqb-true n 0 (rw a at h))))
        (λ a.
        let e = both (eqb n gsm_length) _ (rw a at h) in
        let l = eqb-true n gsm_length e.0 in
        by-test (eqb class sound)
        (λ b. rw (a, b) (gsm_codes.1 ∙ rw (l, eqb-true class sound b)))
        (λ b.
        let x = eqb-false class no_data a in
        let y = eqb-false class sound b in
        let z : class ≡ sid = omega (arith, leb-true class sid e.1) in
        rw (a, b) (gsm_codes.2 ∙ rw (l, z))))

-- the code by a format's table
pub table_code_lem : (format class n : ℕ) (t : FrameTable) → (format_of format).table ≡ t → table_code t class n ≡ code_for format class n
unfolding code_for code_below frame_in length_in
table_code_lem format class n t h = subst (λ (u : FrameTable). table_code u class n ≡ code_for format class n) h
    (each (λ f. table_code f.table class n ≡ highest_code f class n) (λ b. refl) refl refl refl refl format)
