-- Laws of the times and the sizes of a packet's lists: of one list, and of a first list and the others.
use mathlib.Core.Path.{◌≡◌, refl, ap, sym, ◌∙◌}
use Rattle.std.specs.Prelude.{Err, Ok, Result}
use mathlib.Core.List.{List, [], ◌∷◌}
use mathlib.Core.Bool.{false}
use Prim.Native.Nat.{ℕ, ◌+◌, ◌*◌, ◌≤◌, ◌<◌}
use native.Mathlib.Omega.{arith}
use lib.ListN.{length, get_or, take, drop}
use lib.Dec.{ltb, eqb}
use borrow.Author.Tests.{lt-ltb, le-ltb, ltb-false}
use Rattle.rtp.specs.Editions.{Edition}
use Rattle.rtp.specs.Sizes.{row_width}
use Rattle.rtp.specs.Ranges.{in_range}
use Rattle.rtp.specs.declared.settings.Settings.{Settings}
use Rattle.rtp.specs.declared.refusal.Refusal.{Refusal}
use Rattle.rtp.proofs.TestLaws.{by-test}
use Rattle.rtp.specs.declared.refusal.Refusal.TheVariants.{Unwritable}
use Rattle.rtp.proofs.RefusalLaws.{number_some}
use Rattle.read_contents.specs.Contents.{Contents, refused, groups}
use Rattle.read_rows.specs.Rows.{rows_in}
use Rattle.write_plan.specs.Lists.{whole, first_time}
use Rattle.write_plan.specs.Plans.{max_payload, plan}
use Rattle.write_sizes.specs.Measures.{Numbers, written_numbers, planned_numbers, refused_numbers, measured}
use Rattle.write_payload.proofs.PayloadLaws.{listed}
use Rattle.write_parts.specs.Parts.{max_redundant, max_offset, max_block, primary_time}
use Rattle.write_parts.specs.ListSizes.{first_words, offset_of, redundant_numbers, add_numbers, lists_numbers, packet_numbers, size_numbers}
use Rattle.write_parts.proofs.WordLaws.{rows_drop, take_words, drop_words}

-- The answer in numbers

pub told_none : (w : Result ℕ Refusal) (q : Refusal) (n : Numbers) → w ≡ Err q → written_numbers w ≡ n → eqb n.refusal 0 ≡ false
told_none w q n e h = ap (λ (m : Numbers). eqb m.refusal 0) (sym h ∙ ap (λ (x : Result ℕ Refusal). written_numbers x) e) ∙ number_some q

pub told_bytes : (w : Result ℕ Refusal) (k : ℕ) (n : Numbers) → w ≡ Ok k → written_numbers w ≡ n → n ≡ record { refusal = 0; count = k }
told_bytes w k n e h = sym h ∙ ap (λ (x : Result ℕ Refusal). written_numbers x) e

-- The times

pub primary_none : (counts ws : List ℕ) → length counts ≡ 0 → primary_time counts (rows_in ws) ≡ 0
unfolding primary_time
primary_none [] ws h = refl
primary_none (n ∷ ns) ws h = absurd (omega arith)

pub primary_one : (counts ws : List ℕ) → length counts < 2 → 0 < length counts → primary_time counts (rows_in ws) ≡ first_time (rows_in ws)
unfolding primary_time
primary_one [] ws h some = absurd (omega arith)
primary_one (n ∷ []) ws h some = refl
primary_one (n ∷ m ∷ ns) ws h some = absurd (omega arith)

primary_rest : (counts ws : List ℕ) → 2 ≤ length counts → primary_time counts (rows_in ws) ≡ primary_time (drop 1 counts) (rows_in (drop (row_width * get_or counts 0 0) ws))
unfolding primary_time
primary_rest [] ws h = absurd (omega arith)
primary_rest (n ∷ []) ws h = absurd (omega arith)
primary_rest (n ∷ m ∷ ns) ws h = ap (primary_time (m ∷ ns)) (sym (rows_drop n ws))

pub primary_more : (counts ws : List ℕ) → 2 ≤ length counts → primary_time counts (rows_in ws) ≡ primary_time (drop 1 counts) (rows_in (drop (first_words counts ws) ws))
primary_more counts ws h = rw (drop_words counts ws) (primary_rest counts ws h)

-- Sums of sizes

pub add_none : (m n : Numbers) → eqb m.refusal 0 ≡ false → refused_numbers Unwritable ≡ add_numbers m n
add_none m n h = rw h

pub add_rest : (m n : Numbers) → eqb n.refusal 0 ≡ false → refused_numbers Unwritable ≡ add_numbers m n
add_rest m n h = by-test (eqb m.refusal 0) (λ a. rw (a, h)) (λ a. rw a)

pub add_both : (m n : Numbers) (j k : ℕ) → m ≡ record { refusal = 0; count = j } → n ≡ record { refusal = 0; count = k } → ◌≡◌ {A = Numbers} (record { refusal = 0; count = j + k }) (add_numbers m n)
add_both m n j k p q = rw (p, q)

module _ (ed : Edition) (st : Settings) (time : ℕ) where
  -- The sizes

  pub lists_one : (counts ws : List ℕ) → length counts < 2 → lists_numbers ed st time counts ws ≡ measured ed st ws
  unfolding lists_numbers
  lists_one [] ws h = refl
  lists_one (n ∷ []) ws h = refl
  lists_one (n ∷ m ∷ ns) ws h = absurd (omega arith)

  pub lists_more : (counts ws : List ℕ) → 2 ≤ length counts → let n = row_width * get_or counts 0 0 in
      lists_numbers ed st time counts ws ≡ add_numbers (redundant_numbers ed st time (take n ws)) (lists_numbers ed st time (drop 1 counts) (drop n ws))
  unfolding lists_numbers
  lists_more [] ws h = absurd (omega arith)
  lists_more (n ∷ []) ws h = absurd (omega arith)
  lists_more (n ∷ m ∷ ns) ws h = refl

  pub lists_rest : (counts ws : List ℕ) → 2 ≤ length counts → let n = first_words counts ws in
      lists_numbers ed st time counts ws ≡ add_numbers (redundant_numbers ed st time (take n ws)) (lists_numbers ed st time (drop 1 counts) (drop n ws))
  lists_rest counts ws h = rw (take_words counts ws, drop_words counts ws) (lists_more counts ws h)

  pub redundant_none : (ws : List ℕ) → eqb (measured ed st ws).refusal 0 ≡ false → refused_numbers Unwritable ≡ redundant_numbers ed st time ws
  unfolding redundant_numbers
  redundant_none ws h = rw h

  module _ (ws : List ℕ) (k : ℕ) (h : measured ed st ws ≡ record { refusal = 0; count = k }) where
    pub redundant_long : max_block < k → refused_numbers Unwritable ≡ redundant_numbers ed st time ws
    unfolding redundant_numbers
    redundant_long l = rw (h, lt-ltb max_block k l)

    pub redundant_far : k ≤ max_block → max_offset < offset_of time ws → refused_numbers Unwritable ≡ redundant_numbers ed st time ws
    unfolding redundant_numbers
    redundant_far l o = rw (h, le-ltb max_block k l, lt-ltb max_offset (offset_of time ws) o)

    pub redundant_all : k ≤ max_block → offset_of time ws ≤ max_offset → ◌≡◌ {A = Numbers} (record { refusal = 0; count = 4 + k }) (redundant_numbers ed st time ws)
    unfolding redundant_numbers
    redundant_all l o = rw (h, le-ltb max_block k l, le-ltb max_offset (offset_of time ws) o)

  -- they are small

  planned_small : (ws : List ℕ) (x : Contents) → plan ed st.format st.channels (rows_in ws) ≡ x → (planned_numbers st.format st.channels x).count ≤ max_payload
  planned_small ws (refused q) e = omega arith
  planned_small ws (groups gs) e = (listed ed st.format st.channels ws gs e).fits

  pub measured_small : (ws : List ℕ) → (measured ed st ws).count ≤ max_payload
  unfolding measured
  measured_small ws =
      by-test (in_range ed st)
      (λ i. by-test (whole ws) (λ w. rw (i, w) (planned_small ws _ refl)) (λ w. rw (i, w) (omega arith)))
      (λ i. rw i (omega arith))

  pub redundant_small : (ws : List ℕ) → (redundant_numbers ed st time ws).count ≤ 4 + max_block
  unfolding redundant_numbers
  redundant_small ws =
      by-test (eqb (measured ed st ws).refusal 0)
      (λ a. by-test (ltb max_block (measured ed st ws).count) (λ b. rw (a, b) (omega arith))
      (λ b. by-test (ltb max_offset (offset_of time ws)) (λ d. rw (a, b, d) (omega arith)) (λ d. rw (a, b, d) (omega (arith, ltb-false max_block (measured ed st ws).count b)))))
      (λ a. rw a (omega arith))

  add_small : (m n : Numbers) (j k : ℕ) → m.count ≤ j → n.count ≤ k → (add_numbers m n).count ≤ j + k
  add_small m n j k p q =
      by-test (eqb m.refusal 0) (λ a. by-test (eqb n.refusal 0) (λ b. rw (a, b) (omega arith)) (λ b. rw (a, b) (omega arith))) (λ a. rw a (omega arith))

  pub lists_small : (counts ws : List ℕ) → (lists_numbers ed st time counts ws).count ≤ (4 + max_block) * length counts + max_payload
  unfolding lists_numbers
  lists_small [] ws = omega (arith, measured_small ws)
  lists_small (n ∷ []) ws = omega (arith, measured_small ws)
  lists_small (n ∷ m ∷ ns) ws =
      let a = add_small (redundant_numbers ed st time (take (row_width * n) ws)) (lists_numbers ed st time (m ∷ ns) (drop (row_width * n) ws)) _ _ (redundant_small (take (row_width * n) ws)) (lists_small (m ∷ ns) (drop (row_width * n) ws)) in
      omega (arith, a)

  -- A packet

  pub size_many : (counts ws : List ℕ) → max_redundant + 1 < length counts → refused_numbers Unwritable ≡ size_numbers ed st time counts ws
  unfolding size_numbers
  size_many counts ws h = rw (lt-ltb (max_redundant + 1) (length counts) h)

  pub size_few : (counts ws : List ℕ) → length counts ≤ max_redundant + 1 → size_numbers ed st time counts ws ≡ packet_numbers st (length counts) (lists_numbers ed st time counts ws)
  unfolding size_numbers
  size_few counts ws h = rw (le-ltb (max_redundant + 1) (length counts) h)
