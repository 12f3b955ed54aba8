-- Counts and places that a buffer has: the functions on columns and areas do what the columns' own definitions say.
use mathlib.Core.Path.{◌≡◌, refl, ap, sym, ◌∙◌}
use mathlib.Core.List.{List, [], append_assoc, append-nil}
use Prim.Native.Nat.{ℕ, ◌+◌, ◌-◌, ◌≤◌, ◌<◌, min}
use native.Mathlib.Omega.{arith}
use lib.Dec.{ltb}
use lib.ListN.{length, take, drop, length-drop, drop_of_length-le}
use lib.Seq.{paste, drop-drop, take_all}
use borrow.Rule.Slice.PartMut.{put_mid, put_same}
use borrow.Author.Tests.{lt-ltb, le-ltb, ltb-true, ltb-false}
use Rattle.rtp.specs.Areas.{over, fitted}
use Rattle.rtp.proofs.TestLaws.{by-test}
use Rattle.rtp.proofs.AreaLaws.{part_length, part_to_end, fitted_in, fitted_short}
use Rattle.buffer_copies.specs.Sizes.{slots}
use Rattle.buffer_layout.specs.Columns.{insert_at, remove_first}
use Rattle.buffer_columns.specs.Bounds.{used, insertion, removal, laid}

pub used_few : (n : ℕ) → used n ≤ slots
used_few n = by-test (ltb n slots) (λ e. rw e (omega (arith, ltb-true n slots e))) (λ e. rw e (omega arith))

pub used_is : (n : ℕ) → n ≤ slots → used n ≡ n
used_is n l = by-test (ltb n slots) (λ e. rw e) (λ e. rw e (omega (arith, ltb-false n slots e)))

pub used_min : (n : ℕ) → min n slots ≡ used n
used_min n = by-test (ltb n slots) (λ e. rw e (omega (arith, ltb-true n slots e))) (λ e. rw e (omega (arith, ltb-false n slots e)))

module _ (xs : List ℕ) (n : ℕ) where
  module _ (at v : ℕ) where
    pub insertion_is : at ≤ n → n < slots → insertion xs n at v ≡ insert_at xs n at v
    unfolding insertion
    insertion_is p l = rw (le-ltb n at p, lt-ltb n slots l)

    pub insertion_past : n < at → insertion xs n at v ≡ xs
    unfolding insertion
    insertion_past p = rw (lt-ltb n at p)

    pub insertion_full : at ≤ n → slots ≤ n → insertion xs n at v ≡ xs
    unfolding insertion
    insertion_full p l = rw (le-ltb n at p, le-ltb n slots l)

  pub removal_is : 1 ≤ n → n ≤ slots → removal xs n ≡ remove_first xs n
  unfolding removal
  removal_is p l = rw (lt-ltb 0 n p, le-ltb slots n l)

  pub removal_none : n ≡ 0 → removal xs n ≡ xs
  unfolding removal
  removal_none p = rw p

  pub removal_past : slots < n → removal xs n ≡ xs
  unfolding removal
  removal_past l = rw (lt-ltb 0 n (omega arith), lt-ltb slots n l)

module _ (area : List ℕ) (at : ℕ) (bytes : List ℕ) where
  pub laid_is : at + length bytes ≤ length area → laid area at bytes ≡ paste area at bytes (length bytes)
  unfolding laid
  laid_is l = rw (le-ltb (length area) (at + length bytes) l)

  pub laid_past : length area < at + length bytes → laid area at bytes ≡ area
  unfolding laid
  laid_past l = rw (lt-ltb (length area) (at + length bytes) l)

  put_over : put_mid at (length area - at) area (over bytes (drop at area)) ≡ paste area at bytes (length bytes)
  unfolding over
  put_over =
      let none : drop (length area - at) (drop at area) ≡ [] = drop_of_length-le (drop at area) {i = length area - at} (simp length-drop (omega arith)) in
      rw (none, append-nil, drop-drop (length bytes) at area, take_all (length bytes) bytes (omega arith)) (sym (append_assoc (take at area) bytes (drop (at + length bytes) area)))

  -- the area from the place on to its end, lent and written where that fits
  pub laid_part : at ≤ length area → (e : List ℕ) → e ≡ fitted bytes (take (length area - at) (drop at area)) → put_mid at (length area - at) area e ≡ laid area at bytes
  laid_part p e q =
      let part = take (length area - at) (drop at area) in
      let long : length part ≡ length area - at = part_length area area at refl in
      by-test (ltb (length area) (at + length bytes))
      (λ a.
      let l : length area < at + length bytes = ltb-true (length area) (at + length bytes) a in
      let same : e ≡ part = q ∙ fitted_short bytes part (omega (arith, l, long)) in
      ap (λ (x : List ℕ). put_mid at (length area - at) area x) same ∙ put_same at (length area - at) area ∙ sym (laid_past l))
      (λ a.
      let l : at + length bytes ≤ length area = ltb-false (length area) (at + length bytes) a in
      let over-it : e ≡ over bytes (drop at area) = q ∙ fitted_in bytes part (omega (arith, l, long)) ∙ ap (λ (x : List ℕ). over bytes x) (part_to_end at area) in
      ap (λ (x : List ℕ). put_mid at (length area - at) area x) over-it ∙ put_over ∙ sym (laid_is l))
