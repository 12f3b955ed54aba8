-- A log written piece by piece is the log that is written at once.
use mathlib.Core.Path.{ap₂, sym, ◌∙◌}
use mathlib.Core.List.{List, ◌++◌}
use Prim.Native.Nat.{ℕ}
use native.Mathlib.Omega.{arith}
use lib.ListN.{length}
use Rattle.rtp.specs.Editions.{Edition}
use Rattle.write_plan.specs.Lists.{rows_in}
use Rattle.log_writer.specs.FieldBytes.{settings_bytes, end_bytes}
use Rattle.log_writer.specs.Writings.{log_bytes}
use Rattle.log_claims.specs.Claims.{PiecesAreTheLog, PiecesAreAccepted}
use Rattle.log_claims.proofs.PutLaws.{settings_put_lem, end_put_lem, put_settings, put_end}
use Rattle.log_claims.proofs.RowLaws.{accepted, pieces_are, rows_put}

pub pieces_are_the_log : (ed : Edition) → PiecesAreTheLog ed
unfolding log_bytes
pieces_are_the_log ed st ws bytes area a b w p m q h s k e =
    let rs = rows_in ws in
    (accepted ed st ws bytes area w h).written.same
    ∙ sym (ap₂ (λ (u v : List ℕ). u ++ v) (settings_put_lem ed st a p s).1.same
    (ap₂ (λ (u v : List ℕ). u ++ v) (pieces_are ed st bytes rs m k) (end_put_lem (length rs) b q e).1.same))

-- Each piece is accepted in an area of the longest field's size
pub pieces_are_accepted : (ed : Edition) → PiecesAreAccepted ed
unfolding settings_bytes end_bytes
pieces_are_accepted ed st ws bytes area small w h l =
    let a = accepted ed st ws bytes area w h in
    let rs = rows_in ws in
    (put_settings ed st small a.ranged (omega arith), rows_put ed st bytes a.ranged small l rs a.inside a.fit, put_end (length rs) small a.few (omega arith))
