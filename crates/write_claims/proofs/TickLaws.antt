-- Laws of the ticks between frame-blocks, modulo 2^32.
use mathlib.Core.Path.{◌≡◌, ap, ◌∙◌}
use Prim.Native.Nat.{ℕ, ◌+◌, ◌-◌, ◌*◌, ◌/◌, ◌%◌, ◌^◌, ◌≤◌, ◌<◌}
use native.Mathlib.Omega.{arith}
use native.Mathlib.Nat.{mod-add-mod, add-mod-mod, add-mod_right, mul-mod_left, div-add-mod', mul-le-mul, mul-div_cancel, zero-div}
use Rattle.rtp.specs.Time.{difference}
use Rattle.formats.specs.Formats.{step_of}
use Rattle.read_rows.specs.Rows.{placed}
use Rattle.formats.proofs.FormatLaws.{max_step, step_fine}
use Rattle.write_plan.specs.Plans.{ticks_after, gap_between}

-- the place after a time
abbrev pub next : ℕ → ℕ → ℕ
next step time = (time + step) % 2 ^ 32

-- a time less an offset, of a number that is a time modulo 2^32
difference_mod : (n offset : ℕ) → offset ≤ 2 ^ 32 → difference (n % 2 ^ 32) offset ≡ difference n offset
difference_mod n offset h =
    let a : n % 2 ^ 32 + 2 ^ 32 - offset ≡ n % 2 ^ 32 + (2 ^ 32 - offset) = omega arith in
    let b : n + (2 ^ 32 - offset) ≡ n + 2 ^ 32 - offset = omega arith in
    ap (λ (k : ℕ). k % 2 ^ 32) a ∙ mod-add-mod n (2 ^ 32) (2 ^ 32 - offset) ∙ ap (λ (k : ℕ). k % 2 ^ 32) b

-- n ticks on from the place after a time, and back
module _ (step previous n : ℕ) (s : step ≤ max_step) (p : previous < 2 ^ 32) where
  ticks_on : n ≤ 15 * max_step → ticks_after step previous ((next step previous + n) % 2 ^ 32) ≡ n
  ticks_on h =
      let a : difference (previous + step + n) step ≡ (previous + n) % 2 ^ 32 = omega arith in
      let b : difference (previous + n) previous ≡ n = omega arith in
      ap (ticks_after step previous) (mod-add-mod (previous + step) (2 ^ 32) n)
      ∙ ap (λ (k : ℕ). difference k previous) (difference_mod (previous + step + n) step (omega arith) ∙ a)
      ∙ difference_mod (previous + n) previous (omega arith) ∙ b

  ticks_back : (time : ℕ) → time < 2 ^ 32 → n ≡ ticks_after step previous time → (next step previous + n) % 2 ^ 32 ≡ time
  ticks_back time t h =
      let y = difference time step + 2 ^ 32 - previous in
      let a : previous + step + y ≡ difference time step + step + 2 ^ 32 = omega arith in
      let b : (difference time step + step) % 2 ^ 32 ≡ time = omega arith in
      mod-add-mod (previous + step) (2 ^ 32) n
      ∙ ap (λ (k : ℕ). (previous + step + k) % 2 ^ 32) h
      ∙ add-mod-mod (previous + step) y (2 ^ 32)
      ∙ ap (λ (k : ℕ). k % 2 ^ 32) a
      ∙ add-mod_right (difference time step + step) (2 ^ 32)
      ∙ b

-- read after written: a frame-block so many steps on
pub record Ticks (step previous gap : ℕ) : Type 0 where
  pub whole : ticks_after step previous (placed step (next step previous) gap) % step ≡ 0
  pub gaps : gap_between step previous (placed step (next step previous) gap) ≡ gap

pub ticks : (format previous gap : ℕ) → previous < 2 ^ 32 → gap ≤ 15 → Ticks (step_of format) previous gap
ticks format previous gap p g =
    let s = step_fine format in
    let e = ticks_on (step_of format) previous (gap * step_of format) s.small p (mul-le-mul g s.small) in
    record { whole = ap (λ (k : ℕ). k % step_of format) e ∙ mul-mod_left gap (step_of format); gaps = ap (λ (k : ℕ). k / step_of format) e ∙ mul-div_cancel gap s.some }

-- written after read
pub placed_back : (format previous time : ℕ) → previous < 2 ^ 32 → time < 2 ^ 32 → ticks_after (step_of format) previous time % step_of format ≡ 0
    → placed (step_of format) (next (step_of format) previous) (gap_between (step_of format) previous time) ≡ time
placed_back format previous time p t h =
    let n = ticks_after (step_of format) previous time in
    ticks_back (step_of format) previous (n / step_of format * step_of format) (step_fine format).small p time t (omega (arith, div-add-mod' n (step_of format)))

-- the place of a list's first frame-block
pub record First (step time : ℕ) : Type 0 where
  pub place : next step (difference time step) ≡ time
  pub gap : gap_between step (difference time step) time ≡ 0

pub first : (format time : ℕ) → time < 2 ^ 32 → First (step_of format) time
first format time t =
    let step = step_of format in
    let s = (step_fine format).small in
    let none : ticks_after step (difference time step) time ≡ 0 = omega arith in
    record { place = omega arith; gap = ap (λ (k : ℕ). k / step) none ∙ zero-div step }
