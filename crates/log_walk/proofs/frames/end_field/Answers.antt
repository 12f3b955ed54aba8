use mathlib.Core.Path.{◌≡◌, sym, ap, ◌∙◌}
use Rattle.std.specs.Prelude.{Err}
use native.Mathlib.Omega.{arith}
use Rattle.rtp.specs.Numbers.{be32}
use Rattle.rtp.proofs.ByteLaws.{read_four}
use Rattle.log_walk.proofs.FieldLaws.{end_length, end_count, end_last, end_more}
use Rattle.log_walk.proofs.frames.end_field.Goals.{After-read_u32}
use Rattle.log_walk.proofs.frames.end_field.Goals as goal

-- the count that is read
read : (c : After-read_u32) → c.read_u32.result ≡ be32 c.args.s.now 3
read c =
    c.read_u32.ensures ∙ read_four _ 3 (omega (arith, c.requires))

pub returns-then-n-ne-END_SIZE : goal.returns-then-n-ne-END_SIZE
returns-then-n-ne-END_SIZE c =
    ap Err c.into.ensures ∙ sym (end_length _ _ _ c.if-n-ne-END_SIZE.true)

pub returns-then-read_u32-count : goal.returns-then-read_u32-count
returns-then-read_u32-count c =
    ap Err c.into-then-read_u32-count.ensures ∙ sym (end_count _ _ _ (omega arith) (λ e. c.if-read_u32-count.true (read (goal.at.returns-then-read_u32-count c).After-read_u32 ∙ e)))

pub returns-then-s : goal.returns-then-s
returns-then-s c =
    sym (end_last _ _ _ (omega arith) (omega (arith, read (goal.at.returns-then-s c).After-read_u32)) c.if-s.true)

pub returns : goal.returns
returns c =
    sym (end_more _ _ _ (omega arith) (omega (arith, read (goal.at.returns c).After-read_u32)) c.if-s.false)
