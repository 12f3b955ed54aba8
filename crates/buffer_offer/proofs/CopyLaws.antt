-- Laws of the copies that a packet's rows hold.
use mathlib.Core.Path.{◌≡◌, sym, subst}
use mathlib.Core.List.Memᴰ.{head as here}
use mathlib.Core.List.Memᴰ.{not-nil as nowhere}
use mathlib.Core.List.Memᴰ.{tail as there}
use mathlib.Core.List.{List, [], ◌∷◌, ◌++◌}
use mathlib.Core.Bool.{true}
use Prim.Native.Nat.{ℕ, ◌≤◌, ◌<◌}
use native.Mathlib.Omega.{arith}
use lib.ListN.{length}
use lib.Dec.{eqb}
use borrow.Author.Tests.{lt-ltb, eqb-false, ne_eqb}
use Rattle.rtp.specs.Editions.{Edition}
use Rattle.rtp.specs.Ranges.{in_range}
use Rattle.rtp.specs.declared.settings.Settings.{Settings}
use Rattle.rtp.proofs.TestLaws.{by-test}
use Rattle.rtp.proofs.RangeLaws.{few_channels}
use Rattle.formats.specs.Frames.{no_data}
use Rattle.read_rows.specs.Rows.{Row}
use Rattle.read_payload.proofs.RowFactLaws.{RowFine, AllRows}
use Rattle.read_packet.specs.Readings.{Outcome, refused, read_as, reading}
use Rattle.read_packet.proofs.RowFactLaws.{rows_fine}
use Rattle.buffer_copies.specs.Copies.{Received}
use Rattle.buffer_copies.specs.Lists.{copies_of}
use Rattle.buffer_copies.proofs.HeldLaws.{IsFrame, Frames, Marks}
use Rattle.frame_codes.specs.Allowed.{allowed}
use Rattle.buffer_offer.specs.Rows.{copy_of, received_in}
use Rattle.buffer_offer.specs.Judging.{RowAllowed, RowsAllowed}
use Rattle.buffer_offer.proofs.StateLaws.{Fit, Fits, fit_frame}
use Rattle.buffer_offer.proofs.RowStepLaws.{frame_size}
use Rattle.buffer_offer.specs.ModelCalls.{read_received}

module _ (st : Settings) (few : st.channels ≤ 255) (packet : List ℕ) where
  row_allowed : (r : Row) → RowFine st.format st.channels (length packet) r → RowAllowed st (length packet) r
  row_allowed r f n = (rw (ne_eqb r.class no_data n) (lt-ltb _ _ f.coded), f.channel, f.inside)

  pub rows_allowed : (rs : List Row) → AllRows (RowFine st.format st.channels (length packet)) rs → RowsAllowed st (length packet) rs
  rows_allowed [] f = tt
  rows_allowed (r ∷ rs) f = (row_allowed r f.0, rows_allowed rs f.1)

  copy_fit : (r : Row) → RowFine st.format st.channels (length packet) r → (r.class ≡ no_data → ⊥) → Fit st (copy_of packet r)
  copy_fit r f n = record {
    frame = subst (λ (k : ℕ). allowed st.format r.class k ≡ true) (sym (frame_size packet r.start r.length f.inside)) (row_allowed r f n).0;
    channel = f.channel;
    octet = omega (arith, f.channel);
    word = f.word;
  }

  pub received_fit : (rs : List Row) → AllRows (RowFine st.format st.channels (length packet)) rs → Fits st (received_in packet rs)
  unfolding received_in Fits
  received_fit [] f = tt
  received_fit (r ∷ rs) f =
      by-test (eqb r.class no_data)
      (λ a. rw a (received_fit rs f.1))
      (λ a. rw a (copy_fit r f.0 (eqb-false r.class no_data a), f.0.mark, received_fit rs f.1))

-- the copies of a packet that is read
pub read_fit : (ed : Edition) (st : Settings) → in_range ed st ≡ true → (area : ℕ) (packet : List ℕ) (o : Outcome) → reading ed st area packet ≡ o → Fits st (read_received packet o)
unfolding Fits
read_fit ed st h area packet (refused f) q = tt
read_fit ed st h area packet (read_as x rs request) q = received_fit st (few_channels ed st h) packet rs (rows_fine ed st area packet x rs request q).0

pub fits_frames : (st : Settings) (xs : List Received) → Fits st xs → Frames (copies_of xs)
unfolding Fits
fits_frames st [] f c m = absurd (nowhere m)
fits_frames st (x ∷ xs) f c (here e) = subst IsFrame (sym e) (fit_frame st x.copy f.0)
fits_frames st (x ∷ xs) f c (there m) = fits_frames st xs f.2 c m

pub fits_marks : (st : Settings) (xs : List Received) → Fits st xs → Marks xs
unfolding Fits
fits_marks st [] f y m = absurd (nowhere m)
fits_marks st (x ∷ xs) f y (here e) = subst (λ (z : Received). z.primary < 2) (sym e) f.1
fits_marks st (x ∷ xs) f y (there m) = fits_marks st xs f.2 y m

pub fits_append : (st : Settings) (xs ys : List Received) → Fits st xs → Fits st ys → Fits st (xs ++ ys)
unfolding Fits
fits_append st [] ys f g = g
fits_append st (x ∷ xs) ys f g = (f.0, f.1, fits_append st xs ys f.2 g)
