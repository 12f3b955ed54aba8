use mathlib.Core.Path.{◌∙◌, ap, sym, subst}
use mathlib.Core.Bool.{Bool}
use Prim.Native.Nat.{ℕ, ◌<◌}
use native.Mathlib.Omega.{arith}
use lib.Dec.{ltb}
use Rattle.formats.specs.declared.facts.FrameTable.{FrameTable}
use Rattle.formats.specs.Formats.{no_code}
use Rattle.frame_codes.specs.Codes.{table_code, sound_bits, has_length}
use Rattle.frame_codes.proofs.AmrLaws.{sounds_has, amr_sounds, amr_wb_sounds}
use Rattle.frame_codes.proofs.coding.table_has.Goals as goal

-- the code that a frame table has
has : ℕ → ℕ → FrameTable → Bool
has class n t = ltb (table_code t class n) no_code

pub returns-then-sounds-gt0 : goal.returns-then-sounds-gt0
returns-then-sounds-gt0 c =
    let a = c.args in
    let e = c.sounds_of-sounds.ensures in
    c.has_length.ensures ∙ ap (λ (s : ℕ). has_length s a.class a.n) e ∙ sounds_has a.table a.class a.n (subst (λ (s : ℕ). 0 < s) e c.if-sounds-gt0.true)

pub returns-in-G719 : goal.returns-in-G719
unfolding has
returns-in-G719 c =
    let a = c.args in c.has_g719.ensures ∙ sym (ap (has a.class a.n) c.in-G719.is)

pub returns-in-GsmHr : goal.returns-in-GsmHr
unfolding has
returns-in-GsmHr c =
    let a = c.args in c.has_gsm_hr.ensures ∙ sym (ap (has a.class a.n) c.in-GsmHr.is)

-- AMR's word of sound is not 0
pub returns-in-Amr : goal.returns-in-Amr
returns-in-Amr c =
    let e = c.sounds_of-sounds.ensures ∙ ap sound_bits c.in-Amr.is in absurd (omega (arith, e, c.if-sounds-gt0.false, amr_sounds))

pub returns-in-AmrWb : goal.returns-in-AmrWb
returns-in-AmrWb c =
    let e = c.sounds_of-sounds.ensures ∙ ap sound_bits c.in-AmrWb.is in absurd (omega (arith, e, c.if-sounds-gt0.false, amr_wb_sounds))

pub returns-in-Empty : goal.returns-in-Empty
unfolding has
returns-in-Empty c =
    let a = c.args in sym (ap (has a.class a.n) c.in-Empty.is)
