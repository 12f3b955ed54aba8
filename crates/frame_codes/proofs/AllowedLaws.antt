-- What a format allows: by its frame table; and that it has the class of a frame, and is no longer than the longest frame.
use Prim.Native.Nat.{ℕ, ◌≤◌}
use mathlib.Core.Path.{◌≡◌, sym, ap}
use mathlib.Core.Logic.{inl, inr}
use mathlib.Core.Bool.{Bool, true, false, cond}
use lib.Dec.{T, ltb, eqb}
use borrow.Author.Tests.{ltb-true, eqb-true}
use Rattle.rtp.specs.Sizes.{max_frame}
use Rattle.rtp.proofs.TestLaws.{by-test, either}
use Rattle.formats.specs.declared.facts.FrameTable.{FrameTable}
use Rattle.formats.specs.Formats.{format_of}
use Rattle.formats.specs.Frames.{no_data, sound, sid, damaged_sound, damaged_sid, FrameClass, g719_length, amr_length, amr_wb_length, length_in, frame_in}
use Rattle.formats.proofs.FormatLaws.{each, keeps, keeps_at}
use Rattle.frame_codes.specs.Codes.{no_code, code_for}
use Rattle.frame_codes.specs.Allowed.{allowed, allowed_in}
use Rattle.frame_codes.proofs.CodeLaws.{table_code_lem, code_small, code_below_lem, code_back}

pub allowed_in_lem : (format class n : ℕ) (t : FrameTable) → t ≡ (format_of format).table → allowed_in t class n ≡ allowed format class n
allowed_in_lem format class n t h = ap (λ (k : ℕ). cond (eqb class no_data) false (ltb k no_code)) (table_code_lem format class n t (sym h))

-- no data, or the class of a frame
abbrev classed : ℕ → ℕ → Bool
classed class n = cond (eqb class no_data) true (cond (eqb class sound) true (cond (eqb class sid) true (cond (eqb class damaged_sound) true (eqb class damaged_sid))))

classed_is : (class n : ℕ) → eqb class no_data ≡ false → T (classed class n) → FrameClass class
classed_is class n z t =
    by-test (eqb class sound) (λ a. inl (eqb-true _ _ a))
    (λ a. by-test (eqb class sid) (λ b. inr (inl (eqb-true _ _ b)))
    (λ b. by-test (eqb class damaged_sound) (λ c. inr (inr (inl (eqb-true _ _ c))))
    (λ c. by-test (eqb class damaged_sid) (λ d. inr (inr (inr (eqb-true _ _ d)))) (λ d. absurd (rw (z, a, b, c, d) at t)))))

-- so is every code of every format
classed_all : (format : ℕ) → T (keeps (format_of format) classed)
unfolding frame_in length_in g719_length amr_length amr_wb_length
classed_all = each (λ f. T (keeps f classed)) (λ b. tt) tt tt tt tt

pub allowed_frame : (format class n : ℕ) → allowed format class n ≡ true → FrameClass class × (n ≤ max_frame)
allowed_frame format class n h =
    let e = either (eqb class no_data) _ h in
    let c = ltb-true (code_for format class n) no_code e.1 in
    let t = keeps_at (format_of format) classed (classed_all format) (code_for format class n) (code_below_lem format class n c) (record { class = class; length = n }) (code_back format class n c) in
    (classed_is class n e.0 t, (code_small format class n c).short)
