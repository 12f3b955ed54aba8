use mathlib.Core.Path.{◌≡◌, sym, ◌∙◌}
use mathlib.Core.Bool.{true, false}
use native.Mathlib.Omega.{arith}
use lib.ListN.{length}
use Rattle.rtp.specs.Editions.{current}
use Rattle.rtp.specs.Ranges.{in_range}
use Rattle.rtp.specs.declared.refusal.Refusal.TheVariants.{SettingsOutOfRange, RowOutsideBytes, AreaTooShort, NotAllowed}
use Rattle.write_plan.specs.Lists.{rows_in, outside}
use Rattle.log_writer.specs.Writings.{loggable, log_bytes}
use Rattle.log_writer.proofs.FieldBytesLaws.{none_put, bytes_put}
use Rattle.log_writer.proofs.WritingLaws.{log_refused, log_outside, log_unfit, log_small, log_room, length_whole, log_short, log_put}
use Rattle.log_writer.proofs.writing.write.Goals.{Else-any_outside, Else-not-can_log, Else-not-in_range}
use Rattle.log_writer.proofs.writing.write.Goals as goal

-- what the tests say
ranged : (c : Else-not-in_range) → in_range current c.args.asked ≡ true
ranged c =
    sym c.in_range.ensures ∙ c.if-not-in_range.false

inside : (c : Else-any_outside) → let a = c.args in outside (length a.bytes.now) (rows_in a.rows.now) ≡ false
inside c =
    sym c.any_outside.ensures ∙ c.if-any_outside.false

kept : (c : Else-not-can_log) → let a = c.args in loggable a.asked a.rows.now ≡ true
kept c =
    sym c.can_log.ensures ∙ c.if-not-can_log.false

pub returns-then-not-in_range : goal.returns-then-not-in_range
returns-then-not-in_range c =
    let a = c.args in
    none_put _ SettingsOutOfRange a.out.now (log_refused current a.asked a.rows.now a.bytes.now (length a.out.now) (sym c.in_range.ensures ∙ c.if-not-in_range.true))

pub returns-then-any_outside : goal.returns-then-any_outside
returns-then-any_outside c =
    let a = c.args in
    none_put _ RowOutsideBytes a.out.now (log_outside current a.asked a.rows.now a.bytes.now (length a.out.now) (ranged (goal.at.returns-then-any_outside c).Else-not-in_range) (sym c.any_outside.ensures ∙ c.if-any_outside.true))

pub returns-then-not-can_log : goal.returns-then-not-can_log
returns-then-not-can_log c =
    let a = c.args in
    none_put _ NotAllowed a.out.now (log_unfit current a.asked a.rows.now a.bytes.now (length a.out.now) (ranged (goal.at.returns-then-not-can_log c).Else-not-in_range) (inside (goal.at.returns-then-not-can_log c).Else-any_outside) (sym c.can_log.ensures ∙ c.if-not-can_log.true))

pub rows_size-inner-requires : goal.rows_size-inner-requires
rows_size-inner-requires c =
    let a = c.args in log_small current a.asked a.rows.now a.bytes.now (length a.out.now) (ranged (goal.at.rows_size-inner-requires c).Else-not-in_range) (inside (goal.at.rows_size-inner-requires c).Else-any_outside) (kept c)

pub overflow_add-size : goal.overflow_add-size
overflow_add-size c =
    let a = c.args in omega (arith, c.rows_size-inner.ensures, log_small current a.asked a.rows.now a.bytes.now (length a.out.now) (ranged (goal.at.overflow_add-size c).Else-not-in_range) (inside (goal.at.overflow_add-size c).Else-any_outside) (kept (goal.at.overflow_add-size c).Else-not-can_log))

pub overflow_add-size-2 : goal.overflow_add-size-2
overflow_add-size-2 c =
    let a = c.args in omega (arith, c.rows_size-inner.ensures, log_small current a.asked a.rows.now a.bytes.now (length a.out.now) (ranged (goal.at.overflow_add-size-2 c).Else-not-in_range) (inside (goal.at.overflow_add-size-2 c).Else-any_outside) (kept (goal.at.overflow_add-size-2 c).Else-not-can_log))

pub returns-then-out-size : goal.returns-then-out-size
returns-then-out-size c =
    let a = c.args in
    none_put _ AreaTooShort a.out.now (log_short current a.asked a.rows.now a.bytes.now (length a.out.now) (ranged (goal.at.returns-then-out-size c).Else-not-in_range) (inside (goal.at.returns-then-out-size c).Else-any_outside) (kept (goal.at.returns-then-out-size c).Else-not-can_log) _ c.rows_size-inner.ensures c.if-out-size.true)

pub lay_log-requires : goal.lay_log-requires
lay_log-requires c =
    let a = c.args in
    log_room current a.asked a.rows.now a.bytes.now (length a.out.now) (ranged (goal.at.lay_log-requires c).Else-not-in_range) (inside (goal.at.lay_log-requires c).Else-any_outside) (kept (goal.at.lay_log-requires c).Else-not-can_log) _ c.rows_size-inner.ensures c.if-out-size.false

pub returns : goal.returns
returns c =
    let a = c.args in
    bytes_put _ (log_bytes a.asked a.bytes.now (rows_in a.rows.now)) a.out.now _ _
    (log_put current a.asked a.rows.now a.bytes.now (length a.out.now) (ranged (goal.at.returns c).Else-not-in_range) (inside (goal.at.returns c).Else-any_outside) (kept (goal.at.returns c).Else-not-can_log) _ c.rows_size-inner.ensures c.if-out-size.false)
    (length_whole current a.asked a.rows.now a.bytes.now (length a.out.now) (ranged (goal.at.returns c).Else-not-in_range) (inside (goal.at.returns c).Else-any_outside) (kept (goal.at.returns c).Else-not-can_log) _ c.rows_size-inner.ensures)
    c.lay_log.ensures
