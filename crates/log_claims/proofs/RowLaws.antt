-- Laws of a log that is written of rows: each row's frame is one that the writer of a frame's field accepts.
use mathlib.Core.Path.{◌≡◌, refl, ap, ap₂}
use mathlib.Core.List.{List, [], ◌∷◌, ◌++◌}
use mathlib.Core.Bool.{true, false}
use Prim.Native.Nat.{ℕ, suc, ◌+◌, ◌^◌, ◌≤◌, ◌<◌}
use native.Mathlib.Omega.{arith}
use lib.ListN.{length, drop, length-drop}
use lib.Seq.{length-take-le}
use lib.Dec.{ltb}
use borrow.Author.Tests.{ltb-false}
use Rattle.rtp.specs.Editions.{Edition}
use Rattle.rtp.specs.Numbers.{Words}
use Rattle.rtp.specs.Sizes.{max_frame}
use Rattle.rtp.specs.Ranges.{in_range}
use Rattle.rtp.specs.declared.settings.Settings.{Settings}
use Rattle.rtp.proofs.TestLaws.{both, either, neither}
use Rattle.frame_codes.proofs.AllowedLaws.{allowed_frame}
use Rattle.read_rows.specs.Rows.{frame_in, Row, rows_in}
use Rattle.write_plan.specs.Lists.{whole, outside}
use Rattle.log_fields.specs.Fields.{frame_fits}
use Rattle.log_writer.specs.FieldBytes.{frame_bytes, max_frames, bytes_of}
use Rattle.log_writer.specs.Writings.{rows_bytes, log_bytes, all_fit, loggable, writing}
use Rattle.log_claims.specs.Claims.{row_frame, row_frames, FramePieces, none, more, longest_field, AllPut}
use Rattle.log_claims.proofs.PutLaws.{passing, failing, Room, room, frame_put_lem, put_frame}

-- what writing that was accepted says
pub record Accepted (ed : Edition) (st : Settings) (ws bytes : List ℕ) (area : ℕ) (p : List ℕ) : Type 0 where
  pub ranged : in_range ed st ≡ true
  pub inside : outside (length bytes) (rows_in ws) ≡ false
  pub few : length (rows_in ws) ≤ max_frames
  pub fit : all_fit st (rows_in ws) ≡ true
  pub written : Room area (log_bytes st bytes (rows_in ws)) p

pub accepted : (ed : Edition) (st : Settings) (ws bytes : List ℕ) (area : ℕ) (p : List ℕ) → writing ed st ws bytes area ≡ bytes_of p → Accepted ed st ws bytes area p
unfolding writing loggable
accepted ed st ws bytes area p h =
    let a = passing (in_range ed st) _ _ p h in
    let b = failing (outside (length bytes) (rows_in ws)) _ _ p a.1 in
    let c = passing (loggable st ws) _ _ p b.1 in
    let d = both (whole ws) _ c.0 in
    let e = either (ltb max_frames (length (rows_in ws))) _ d.1 in
    record {
      ranged = a.0;
      inside = b.0;
      few = ltb-false max_frames (length (rows_in ws)) e.0;
      fit = e.1;
      written = room area (log_bytes st bytes (rows_in ws)) p c.1;
    }

-- a time is a word of the area
abbrev pub Times : List Row → Type 0
Times [] = Unit {0}
Times (r ∷ rs) = (r.time < 2 ^ 32) × Times rs

pub times : (ws : List ℕ) → Words ws → Times (rows_in ws)
unfolding rows_in
times [] h = tt
times (a ∷ []) h = tt
times (a ∷ b ∷ []) h = tt
times (a ∷ b ∷ c ∷ []) h = tt
times (a ∷ b ∷ c ∷ d ∷ ws) h = (h 0, times ws (λ i. h (suc (suc (suc (suc i))))))

-- a row inside the bytes has as many as it says
frame_length : (bytes : List ℕ) (r : Row) → r.start + r.length ≤ length bytes → length (frame_in bytes r) ≡ r.length
frame_length bytes r h = length-take-le r.length (drop r.start bytes) (omega (arith, length-drop r.start bytes))

module _ (ed : Edition) (st : Settings) (bytes : List ℕ) (ranged : in_range ed st ≡ true) where
  -- the first row, and the others
  record Rest (r : Row) (rs : List Row) : Type 0 where
    fits : frame_fits st r.channel r.class (length (frame_in bytes r)) ≡ true
    fit : all_fit st rs ≡ true
    inside : outside (length bytes) rs ≡ false

  rest : (r : Row) (rs : List Row) → outside (length bytes) (r ∷ rs) ≡ false → all_fit st (r ∷ rs) ≡ true → Rest r rs
  unfolding outside all_fit
  rest r rs o f =
      let a = neither (ltb (length bytes) (r.start + r.length)) (outside (length bytes) rs) o in
      let b = both (frame_fits st r.channel r.class r.length) (all_fit st rs) f in
      let l = frame_length bytes r (ltb-false (length bytes) (r.start + r.length) a.0) in
      record { fits = rw l b.0; fit = b.1; inside = a.1 }

  -- each row's field is accepted, so they are pieces
  pub row_pieces : (rs : List Row) → outside (length bytes) rs ≡ false → all_fit st rs ≡ true → Times rs → FramePieces ed st (row_frames bytes rs) (rows_bytes bytes rs)
  unfolding rows_bytes row_frames
  row_pieces [] o f t = none
  row_pieces (r ∷ rs) o f t =
      let x = rest r rs o f in
      let q = frame_bytes r.time r.channel r.class (frame_in bytes r) in
      more (row_frame bytes r) (row_frames bytes rs) q (rows_bytes bytes rs) (length q) t.0
      (put_frame ed st r.time r.channel r.class (frame_in bytes r) (length q) ranged x.fits (omega arith))
      (row_pieces rs x.inside x.fit t.1)

  -- .. in any area of the longest field's size
  pub rows_put : (small : ℕ) → longest_field ≤ small → (rs : List Row) → outside (length bytes) rs ≡ false → all_fit st rs ≡ true → AllPut ed st small (row_frames bytes rs)
  unfolding row_frames frame_bytes
  rows_put small h [] o f = tt
  rows_put small h (r ∷ rs) o f =
      let x = rest r rs o f in
      let n = length (frame_in bytes r) in
      let a = both (ltb r.channel st.channels) _ x.fits in
      let l : n ≤ max_frame = (allowed_frame st.format r.class n a.1).1 in
      (put_frame ed st r.time r.channel r.class (frame_in bytes r) small ranged x.fits (omega arith), rows_put small h rs x.inside x.fit)

pub length_frames : (bytes : List ℕ) (rs : List Row) → length (row_frames bytes rs) ≡ length rs
unfolding row_frames
length_frames bytes [] = refl
length_frames bytes (r ∷ rs) = ap suc (length_frames bytes rs)

-- pieces of the rows' frames are the rows' fields, whatever the areas
pub pieces_are : (ed : Edition) (st : Settings) (bytes : List ℕ) (rs : List Row) (m : List ℕ) → FramePieces ed st (row_frames bytes rs) m → m ≡ rows_bytes bytes rs
unfolding row_frames rows_bytes
pieces_are ed st bytes [] m none = refl
pieces_are ed st bytes (r ∷ rs) m (more f fs p k area t e q) =
    ap₂ (λ (u v : List ℕ). u ++ v) (frame_put_lem ed st r.time r.channel r.class (frame_in bytes r) area p e).1.same (pieces_are ed st bytes rs k q)
