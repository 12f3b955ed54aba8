-- A written log reads back to its settings and frames.
use mathlib.Core.Path.{ap, ◌∙◌}
use Prim.Native.Nat.{ℕ}
use native.Mathlib.Omega.{arith}
use lib.ListN.{length}
use Rattle.rtp.specs.Editions.{Edition}
use Rattle.write_plan.specs.Lists.{rows_in}
use Rattle.log_writer.specs.FieldBytes.{settings_bytes, end_bytes, end_put}
use Rattle.log_writer.specs.Writings.{rows_bytes, log_bytes}
use Rattle.log_claims.specs.Claims.{row_frames, RoundTrip}
use Rattle.log_claims.proofs.PutLaws.{put_settings, put_end}
use Rattle.log_claims.proofs.RowLaws.{accepted, times, row_pieces, length_frames}
use Rattle.log_claims.proofs.PiecesBackTheorem.{pieces_read_back}

pub round_trip : (ed : Edition) → RoundTrip ed
unfolding log_bytes
round_trip ed st ws bytes area p w h =
    let a = accepted ed st ws bytes area p h in
    let rs = rows_in ws in
    let s = settings_bytes st in
    let m = rows_bytes bytes rs in
    let q = end_bytes (length rs) in
    let l = length_frames bytes rs in
    let e = put_end (length rs) (length q) a.few (omega arith) in
    rw a.written.same
    (pieces_read_back ed st (row_frames bytes rs) (length s) (length q) s m q (put_settings ed st (length s) a.ranged (omega arith))
    (row_pieces ed st bytes a.ranged rs a.inside a.fit (times ws w)) (ap (λ (n : ℕ). end_put n (length q)) l ∙ e))
