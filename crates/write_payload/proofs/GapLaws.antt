-- Laws of the gaps of a run, and of the half bytes that they are written in.
use mathlib.Core.Path.{◌≡◌, refl, ap, sym, ◌∙◌, subst}
use mathlib.Core.List.{List, [], ◌∷◌}
use Prim.Native.Nat.{ℕ, zero, suc, ◌+◌, ◌-◌, ◌*◌, ◌≤◌, ◌<◌}
use native.Mathlib.Omega.{arith}
use native.Mathlib.Nat.{mul-le-mul_left, add-zero}
use native.Mathlib.Numerals.{sub-one}
use lib.ListN.{length, get_or, take, drop, set, length-drop}
use lib.Seq.{drop-drop, get_or-drop}
use borrow.Rule.Slice.PartMut.{put_mid}
use Rattle.rtp.specs.Areas.{over}
use Rattle.rtp.proofs.AreaLaws.{over_none, over_part, over_one}
use Rattle.formats.specs.Formats.{step_of}
use Rattle.write_plan.specs.Plans.{gap_between}
use Rattle.write_payload.specs.Bytes.{halves}
use Rattle.write_payload.specs.Room.{block_gaps, Halves, GapRoom}

pub length_gaps : (step w n p : ℕ) (ws : List ℕ) → length (block_gaps step w n p ws) ≡ n
unfolding block_gaps
length_gaps step w zero p ws = refl
length_gaps step w (suc n) p ws = ap suc (length_gaps step w n (get_or ws 0 0) (drop w ws))

-- one gap and the others

gaps_none : (step w n p : ℕ) (ws : List ℕ) → n ≡ 0 → block_gaps step w n p ws ≡ []
unfolding block_gaps
gaps_none step w n p ws z = rw z

gaps_more : (step w n p : ℕ) (ws : List ℕ) → (n ≡ 0 → ⊥) → block_gaps step w n p ws ≡ gap_between step p (get_or ws 0 0) ∷ block_gaps step w (n - 1) (get_or ws 0 0) (drop w ws)
unfolding block_gaps
gaps_more step w zero p ws z = absurd (z refl)
gaps_more step w (suc n) p ws z = rw sub-one

-- two gaps and the others
gaps_two : (step w n p : ℕ) (ws : List ℕ) → (n ≡ 0 → ⊥) → (n ≡ 1 → ⊥)
    → block_gaps step w n p ws ≡ gap_between step p (get_or ws 0 0) ∷ gap_between step (get_or ws 0 0) (get_or ws w 0) ∷ block_gaps step w (n - 2) (get_or ws w 0) (drop (2 * w) ws)
gaps_two step w n p ws z o =
    let m : n - 1 - 1 ≡ n - 2 = omega arith in
    let s : get_or (drop w ws) 0 0 ≡ get_or ws w 0 = get_or-drop w ws 0 0 ∙ ap (λ (k : ℕ). get_or ws k 0) (add-zero w) in
    let v : w + w ≡ 2 * w = omega arith in
    let d : drop w (drop w ws) ≡ drop (2 * w) ws = drop-drop w w ws ∙ ap (λ (k : ℕ). drop k ws) v in
    gaps_more step w n p ws z
    ∙ ap (λ (l : List ℕ). gap_between step p (get_or ws 0 0) ∷ l) (gaps_more step w (n - 1) (get_or ws 0 0) (drop w ws) (λ y. omega arith)
    ∙ ap (λ (k : ℕ). gap_between step (get_or ws 0 0) k ∷ block_gaps step w (n - 1 - 1) k (drop w (drop w ws))) s
    ∙ ap (λ (k : ℕ). gap_between step (get_or ws 0 0) (get_or ws w 0) ∷ block_gaps step w k (get_or ws w 0) (drop w (drop w ws))) m
    ∙ ap (λ (k : List ℕ). gap_between step (get_or ws 0 0) (get_or ws w 0) ∷ block_gaps step w (n - 2) (get_or ws w 0) k) d)

-- what the room is good for

module _ (format w n p : ℕ) (ws : List ℕ) (area : ℕ) (r : GapRoom format w n p ws area) (z : n ≡ 0 → ⊥) where
  pub one_words : w ≤ length ws
  one_words = let o : 1 ≤ n = omega arith in omega (arith, mul-le-mul_left w o, r.words)

  pub one_small : gap_between (step_of format) p (get_or ws 0 0) < 16
  one_small = (subst (λ (l : List ℕ). Halves l) (gaps_more (step_of format) w n p ws z) r.small).0

  module _ (o : n ≡ 1 → ⊥) where
    two_and : w * n ≡ 2 * w + w * (n - 2)
    two_and = let e : n ≡ 2 + (n - 2) = omega arith in ap (λ (k : ℕ). w * k) e ∙ omega arith

    pub two_words : 2 * w ≤ length ws
    two_words = omega (arith, two_and, r.words)

    both_small : Halves (gap_between (step_of format) p (get_or ws 0 0) ∷ gap_between (step_of format) (get_or ws 0 0) (get_or ws w 0) ∷ block_gaps (step_of format) w (n - 2) (get_or ws w 0) (drop (2 * w) ws))
    both_small = subst (λ (l : List ℕ). Halves l) (gaps_two (step_of format) w n p ws z o) r.small

    pub two_small : gap_between (step_of format) (get_or ws 0 0) (get_or ws w 0) < 16
    two_small = both_small.1.0

    pub two_rest : GapRoom format w (n - 2) (get_or ws w 0) (drop (2 * w) ws) (area - 1)
    two_rest = record { wide = r.wide; words = omega (arith, two_and, r.words, length-drop (2 * w) ws); small = both_small.1.1; room = omega (arith, r.room) }

-- Written two by two

module _ (step w n p : ℕ) (ws l : List ℕ) where
  pub put_no_gap : n ≡ 0 → l ≡ over (halves (block_gaps step w n p ws)) l
  unfolding halves
  put_no_gap z = rw (gaps_none step w n p ws z) (sym (over_none l))

  pub put_one_gap : n ≡ 1 → (v : ℕ) → v ≡ 16 * gap_between step p (get_or ws 0 0) → 1 ≤ length l → set l 0 v ≡ over (halves (block_gaps step w n p ws)) l
  unfolding halves block_gaps
  put_one_gap o v e h = over_one l v h ∙ rw (e, o)

  pub put_two_gaps : (n ≡ 0 → ⊥) → (n ≡ 1 → ⊥) → (v : ℕ) → v ≡ 16 * gap_between step p (get_or ws 0 0) + gap_between step (get_or ws 0 0) (get_or ws w 0) → 1 ≤ length l
      → (e : List ℕ) → e ≡ over (halves (block_gaps step w (n - 2) (get_or ws w 0) (drop (2 * w) ws))) (take (length (set l 0 v) - 1) (drop 1 (set l 0 v)))
      → put_mid 1 (length (set l 0 v) - 1) (set l 0 v) e ≡ over (halves (block_gaps step w n p ws)) l
  unfolding halves
  put_two_gaps z o v q h e k =
      over_part (v ∷ []) (halves (block_gaps step w (n - 2) (get_or ws w 0) (drop (2 * w) ws))) l (set l 0 v) e 1 refl (over_one l v h) k
      ∙ ap (λ (b : ℕ). over (b ∷ halves (block_gaps step w (n - 2) (get_or ws w 0) (drop (2 * w) ws))) l) q
      ∙ ap (λ (s : List ℕ). over (halves s) l) (sym (gaps_two step w n p ws z o))
