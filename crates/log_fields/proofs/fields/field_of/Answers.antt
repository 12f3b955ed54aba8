use mathlib.Core.Path.{◌≡◌, sym, ap, ◌∙◌}
use Prim.Native.Nat.{ℕ}
use native.Mathlib.Omega.{arith}
use Rattle.rtp.specs.Numbers.{byte_at}
use Rattle.rtp.proofs.ByteLaws.{read_two}
use Rattle.log_fields.specs.declared.fields.Field.{Field}
use Rattle.log_fields.specs.Fields.{content_length, field_numbers}
use Rattle.log_fields.proofs.FieldLaws.{field_stopped, field_cut_head, field_cut, field_whole}
use Rattle.log_fields.proofs.fields.field_of.Goals.{After-read_u16-length}
use Rattle.log_fields.proofs.fields.field_of.Goals as goal

-- the length that is read
read : (c : After-read_u16-length) → c.read_u16-length.result ≡ content_length c.args.s.now
read c =
    c.read_u16-length.ensures ∙ read_two _ 1 (omega (arith, c.if-s-lt-HEAD_SIZE.false))

pub returns-then-s-eq0 : goal.returns-then-s-eq0
returns-then-s-eq0 c =
    ap field_numbers (sym (field_stopped _ c.if-s-eq0.true))

pub returns-then-s-lt-HEAD_SIZE : goal.returns-then-s-lt-HEAD_SIZE
returns-then-s-lt-HEAD_SIZE c =
    ap field_numbers (sym (field_cut_head _ c.if-s-eq0.false c.if-s-lt-HEAD_SIZE.true))

pub returns-then-s-length : goal.returns-then-s-length
returns-then-s-length c =
    ap field_numbers (sym (field_cut _ c.if-s-lt-HEAD_SIZE.false (rw (read (goal.at.returns-then-s-length c).After-read_u16-length) at c.if-s-length.true)))

pub returns : goal.returns
returns c =
    let s = c.args.s.now in
    ap (λ (n : ℕ). field_numbers (Field.Whole (record { tag = byte_at s 0; length = n }))) (read (goal.at.returns c).After-read_u16-length)
    ∙ ap field_numbers (sym (field_whole s (rw (read (goal.at.returns c).After-read_u16-length) at c.if-s-length.false)))
