use mathlib.Core.Path.{sym, ap, ◌∙◌}
use Rattle.std.specs.Prelude.{Ok, Err}
use Prim.Native.Nat.{ℕ, ◌-◌}
use native.Mathlib.Omega.{arith}
use Rattle.rtp.specs.Numbers.{byte_at}
use Rattle.rtp.proofs.ByteLaws.{read_four}
use Rattle.log_walk.specs.declared.frames.Next.{Next}
use Rattle.log_walk.proofs.FieldLaws.{frame_short, frame_allowed_lem, frame_refused}
use Rattle.log_walk.proofs.frames.frame_field.Goals as goal

pub returns-then-content-lt-FRAME_HEAD : goal.returns-then-content-lt-FRAME_HEAD
returns-then-content-lt-FRAME_HEAD c =
    ap Err c.into.ensures ∙ sym (frame_short _ _ _ c.if-content-lt-FRAME_HEAD.true)

pub returns-then-frame_fits : goal.returns-then-frame_fits
returns-then-frame_fits c =
    let a = c.args in
    ap
    (λ (t : ℕ). Ok (Next.Frame (record { time = t; channel = byte_at a.s.now 7; class = byte_at a.s.now 8; start = 9; length = a.n - 6 })))
    (c.read_u32.ensures ∙ read_four a.s.now 3 (omega arith))
    ∙ sym (frame_allowed_lem _ _ _ (omega arith) (sym c.frame_fits.ensures ∙ c.if-frame_fits.true))

pub returns : goal.returns
returns c =
    ap Err c.into-2.ensures ∙ sym (frame_refused _ _ _ (omega arith) (sym c.frame_fits.ensures ∙ c.if-frame_fits.false))
