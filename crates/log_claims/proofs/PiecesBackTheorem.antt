-- Pieces that were each accepted read back to their settings and frames.
use mathlib.Core.Path.{◌≡◌, ap, ◌∙◌}
use mathlib.Core.List.{List, ◌++◌, append_assoc}
use Prim.Native.Nat.{ℕ, suc, ◌+◌, ◌≤◌}
use native.Mathlib.Omega.{arith}
use lib.ListN.{length}
use Rattle.rtp.specs.Editions.{Edition}
use Rattle.rtp.specs.declared.settings.Settings.{Settings}
use Rattle.log_writer.specs.FieldBytes.{end_bytes, max_frames}
use Rattle.log_claims.specs.Logs.{Frame, shows, fields_of, read_on, opened}
use Rattle.log_claims.specs.Claims.{FramePieces, none, more, PiecesReadBack}
use Rattle.log_claims.proofs.BackLaws.{settings_back, frame_back, end_back}
use Rattle.log_claims.proofs.PutLaws.{settings_put_lem, frame_put_lem, end_put_lem}

-- frames and the end, after n frames
pub frames_back : (ed : Edition) (st : Settings) (fs : List Frame) (m : List ℕ) → FramePieces ed st fs m → (n : ℕ) → n + length fs ≤ max_frames
    → read_on st n (fields_of (m ++ end_bytes (n + length fs))) ≡ record { frames = fs; ending = 0 }
frames_back ed st fs m none n h =
    let z : n + 0 ≡ n = omega arith in
    rw z (end_back st n (omega arith))
frames_back ed st fs m (more f gs p k area t e q) n h =
    let a = frame_put_lem ed st f.time f.channel f.class f.bytes area p e in
    let z : n + suc (length gs) ≡ (n + 1) + length gs = omega arith in
    let r = end_bytes ((n + 1) + length gs) in
    rw (z, append_assoc p k r, a.1.same)
    (frame_back st n f.time f.channel f.class f.bytes (k ++ r) (omega arith) a.0 ∙ ap (shows f) (frames_back ed st gs k q (n + 1) (omega arith)))

pub pieces_read_back : (ed : Edition) → PiecesReadBack ed
pieces_read_back ed st fs a b p m q s k e =
    let x = settings_put_lem ed st a p s in
    let y = end_put_lem (length fs) b q e in
    let z : 0 + length fs ≡ length fs = omega arith in
    rw (x.1.same, y.1.same)
    (settings_back ed st (m ++ end_bytes (length fs)) x.0 ∙ ap (opened st) (rw z at (frames_back ed st fs m k 0 (omega (arith, y.0)))))
