use lib.ListN.{length}
use Rattle.rtp.specs.declared.refusal.Refusal.TheVariants.{AreaTooShort, NotAllowed}
use Rattle.log_writer.specs.FieldBytes.{end_bytes}
use Rattle.log_writer.proofs.FieldBytesLaws.{none_put, bytes_put, end_refused, end_short, end_put_lem, length_end}
use Rattle.log_writer.proofs.field_bytes.put_end.Goals as goal

pub returns-then-count-gt-MAX_FRAMES : goal.returns-then-count-gt-MAX_FRAMES
returns-then-count-gt-MAX_FRAMES c =
    let a = c.args in
    none_put _ NotAllowed a.out.now (end_refused a.count (length a.out.now) c.if-count-gt-MAX_FRAMES.true)

pub returns-then-out-lt-LAST_SIZE : goal.returns-then-out-lt-LAST_SIZE
returns-then-out-lt-LAST_SIZE c =
    let a = c.args in
    none_put _ AreaTooShort a.out.now (end_short a.count (length a.out.now) c.if-count-gt-MAX_FRAMES.false c.if-out-lt-LAST_SIZE.true)

pub returns : goal.returns
returns c =
    let a = c.args in
    bytes_put _ (end_bytes a.count) a.out.now _ 7 (end_put_lem a.count (length a.out.now) c.if-count-gt-MAX_FRAMES.false c.if-out-lt-LAST_SIZE.false) (length_end a.count) c.lay_end.ensures
