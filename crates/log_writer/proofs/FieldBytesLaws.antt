-- Laws of the bytes of a log's fields: how they are laid, how many they are, and what writing comes to.
use mathlib.Core.Path.{◌≡◌, refl, sym, ◌∙◌}
use mathlib.Core.List.{List, [], ◌∷◌, ◌++◌}
use mathlib.Core.Logic.{inl, inr}
use mathlib.Core.Bool.{true, false}
use lib.Dec.{ltb}
use Prim.Native.Nat.{ℕ, ◌+◌, ◌-◌, ◌≤◌, ◌<◌}
use native.Mathlib.Omega.{arith}
use lib.ListN.{length, take, drop, set}
use borrow.Author.Tests.{lt-ltb, le-ltb, ltb-true}
use borrow.Rule.Slice.PartMut.{put_mid}
use Rattle.rtp.specs.Editions.{Edition}
use Rattle.rtp.specs.Sizes.{max_frame}
use Rattle.rtp.specs.Areas.{over, fitted}
use Rattle.rtp.specs.Numbers.{two, four}
use Rattle.rtp.specs.Ranges.{in_range}
use Rattle.rtp.specs.Refusals.{number}
use Rattle.rtp.specs.declared.settings.Settings.{Settings}
use Rattle.rtp.specs.declared.refusal.Refusal.{Refusal}
use Rattle.rtp.specs.declared.refusal.Refusal.TheVariants.{SettingsOutOfRange, AreaTooShort, NotAllowed}
use Rattle.rtp.proofs.TestLaws.{by-test, both}
use Rattle.rtp.proofs.AreaLaws.{over_none, over_one, fitted_part}
use Rattle.rtp.proofs.StoreLaws.{over_store}
use Rattle.formats.specs.Frames.{FrameClass}
use Rattle.frame_codes.specs.Allowed.{allowed}
use Rattle.frame_codes.proofs.AllowedLaws.{allowed_frame}
use Rattle.log_fields.specs.Fields.{settings_tag, frame_tag, end_tag, settings_size, frame_head, end_size, head_size, first_size, frame_fits}
use Rattle.log_writer.specs.FieldBytes.{settings_bytes, frame_bytes, end_bytes, max_frames, Put, no_bytes, bytes_of, room_for, settings_put, frame_put, end_put, Numbers, put_numbers, put_bytes}
use Rattle.log_writer.specs.Room.{frame_start, last_size}

-- How they are laid over the front of an area

module _ (l : List ℕ) where
  pub head_laid : (tag n : ℕ) (e : List ℕ) → head_size ≤ length l → e ≡ fitted (two n) (take (length (set l 0 tag) - 1) (drop 1 (set l 0 tag)))
      → put_mid 1 (length (set l 0 tag) - 1) (set l 0 tag) e ≡ over (tag ∷ two n) l
  head_laid tag n e h q = fitted_part (tag ∷ []) (two n) l (set l 0 tag) e 1 refl h (over_one l tag (omega arith)) q

  pub settings_laid : (st : Settings) (m : List ℕ) → first_size ≤ length l → m ≡ over (settings_tag ∷ two settings_size) l
      → set (set (set (set m 3 st.format) 4 st.channels) 5 st.payload_type) 6 st.redundancy_type ≡ over (settings_bytes st) l
  unfolding settings_bytes
  settings_laid st m h p =
      let a = over_store (settings_tag ∷ two settings_size) l m 3 st.format refl (omega arith) p in
      let b = over_store _ l _ 4 st.channels refl (omega arith) a in
      let c = over_store _ l _ 5 st.payload_type refl (omega arith) b in
      over_store _ l _ 6 st.redundancy_type refl (omega arith) c

  pub end_laid : (n : ℕ) (m e : List ℕ) → last_size ≤ length l → m ≡ over (end_tag ∷ two end_size) l → e ≡ fitted (four n) (take (length m - head_size) (drop head_size m))
      → put_mid head_size (length m - head_size) m e ≡ over (end_bytes n) l
  unfolding end_bytes
  end_laid n m e h p q = fitted_part (end_tag ∷ two end_size) (four n) l m e head_size refl h p q

  -- a frame's head, up to the frame
  abbrev start : ℕ → ℕ → ℕ → List ℕ → List ℕ
  start time channel class frame = frame_tag ∷ (two (frame_head + length frame) ++ (four time ++ (channel ∷ class ∷ [])))

  module _ (time channel class : ℕ) (frame m e : List ℕ) (h : frame_start + length frame ≤ length l) (p : m ≡ over (frame_tag ∷ two (frame_head + length frame)) l)
      (q : e ≡ fitted (four time) (take (length m - head_size) (drop head_size m))) where
    abbrev stored : List ℕ
    stored = set (set (put_mid head_size (length m - head_size) m e) 7 channel) 8 class

    start_laid : stored ≡ over (start time channel class frame) l
    start_laid =
        let a = fitted_part (frame_tag ∷ two (frame_head + length frame)) (four time) l m e head_size refl (omega arith) p q in
        let b = over_store _ l _ 7 channel refl (omega arith) a in
        over_store _ l _ 8 class refl (omega arith) b

    pub frame_laid : (f : List ℕ) → f ≡ fitted frame (take (length stored - frame_start) (drop frame_start stored))
        → put_mid frame_start (length stored - frame_start) stored f ≡ over (frame_bytes time channel class frame) l
    unfolding frame_bytes
    frame_laid f r = fitted_part (start time channel class frame) frame l stored f frame_start refl h start_laid r

-- How many they are

pub length_settings : (st : Settings) → length (settings_bytes st) ≡ first_size
unfolding settings_bytes
length_settings st = refl

pub length_end : (n : ℕ) → length (end_bytes n) ≡ last_size
unfolding end_bytes
length_end n = refl

pub length_frame : (time channel class : ℕ) (frame : List ℕ) → length (frame_bytes time channel class frame) ≡ frame_start + length frame
unfolding frame_bytes
length_frame time channel class frame = omega arith

-- What writing comes to: a refusal and the area as it was, or bytes and the area with them over its front

pub none_put : (p : Put) (r : Refusal) (l : List ℕ) → p ≡ no_bytes r
    → (◌≡◌ {A = Numbers} (record { refusal = number r; length = 0 }) (put_numbers p)) × (l ≡ over (put_bytes p) l)
unfolding put_numbers put_bytes
none_put p r l h = (rw h, rw h (sym (over_none l)))

pub bytes_put : (p : Put) (q l m : List ℕ) (n : ℕ) → p ≡ bytes_of q → length q ≡ n → m ≡ over q l
    → (◌≡◌ {A = Numbers} (record { refusal = 0; length = n }) (put_numbers p)) × (m ≡ over (put_bytes p) l)
unfolding put_numbers put_bytes
bytes_put p q l m n h k e = (rw (h, k), rw h e)

-- room, or none
pub room_short : (area : ℕ) (p : List ℕ) → area < length p → room_for area p ≡ no_bytes AreaTooShort
room_short area p h = rw (lt-ltb area (length p) h)

pub room_enough : (area : ℕ) (p : List ℕ) → length p ≤ area → room_for area p ≡ bytes_of p
room_enough area p h = rw (le-ltb area (length p) h)

module _ (ed : Edition) (st : Settings) (area : ℕ) where
  pub settings_refused : in_range ed st ≡ false → settings_put ed st area ≡ no_bytes SettingsOutOfRange
  unfolding settings_put
  settings_refused h = rw h

  pub settings_short : in_range ed st ≡ true → area < first_size → settings_put ed st area ≡ no_bytes AreaTooShort
  unfolding settings_put settings_bytes
  settings_short h s = rw (h, lt-ltb area 7 s)

  pub settings_put_lem : in_range ed st ≡ true → first_size ≤ area → settings_put ed st area ≡ bytes_of (settings_bytes st)
  unfolding settings_put settings_bytes
  settings_put_lem h s = rw (h, le-ltb area 7 s)

module _ (count area : ℕ) where
  pub end_refused : max_frames < count → end_put count area ≡ no_bytes NotAllowed
  unfolding end_put
  end_refused h = rw (lt-ltb max_frames count h)

  pub end_short : count ≤ max_frames → area < last_size → end_put count area ≡ no_bytes AreaTooShort
  unfolding end_put end_bytes
  end_short h s = rw (le-ltb max_frames count h, lt-ltb area 7 s)

  pub end_put_lem : count ≤ max_frames → last_size ≤ area → end_put count area ≡ bytes_of (end_bytes count)
  unfolding end_put end_bytes
  end_put_lem h s = rw (le-ltb max_frames count h, le-ltb area 7 s)

-- what the settings allow fits into a frame's field
pub record SmallFrame (st : Settings) (channel class n : ℕ) : Type 0 where
  pub channels : channel < st.channels
  pub classes : class < 256
  pub short : n ≤ max_frame

class_small : (class : ℕ) → FrameClass class → class < 256
class_small class (inl h) = omega arith
class_small class (inr (inl h)) = omega arith
class_small class (inr (inr (inl h))) = omega arith
class_small class (inr (inr (inr h))) = omega arith

pub fits_small : (st : Settings) (channel class n : ℕ) → frame_fits st channel class n ≡ true → SmallFrame st channel class n
fits_small st channel class n h =
    let b = both (ltb channel st.channels) (allowed st.format class n) h in
    let a = allowed_frame st.format class n b.1 in
    record { channels = ltb-true channel st.channels b.0; classes = class_small class a.0; short = a.1 }

long_unfit : (st : Settings) (channel class n : ℕ) → max_frame < n → frame_fits st channel class n ≡ false
long_unfit st channel class n l =
    by-test (frame_fits st channel class n) (λ h. let s = fits_small st channel class n h in absurd (omega arith)) (λ h. h)

module _ (ed : Edition) (st : Settings) (time channel class : ℕ) (frame : List ℕ) (area : ℕ) where
  pub frame_refused : in_range ed st ≡ false → frame_put ed st time channel class frame area ≡ no_bytes SettingsOutOfRange
  unfolding frame_put
  frame_refused h = rw h

  pub frame_unfit : in_range ed st ≡ true → frame_fits st channel class (length frame) ≡ false → frame_put ed st time channel class frame area ≡ no_bytes NotAllowed
  unfolding frame_put
  frame_unfit h f = rw (h, f)

  pub frame_long : in_range ed st ≡ true → max_frame < length frame → frame_put ed st time channel class frame area ≡ no_bytes NotAllowed
  frame_long h l = frame_unfit h (long_unfit st channel class (length frame) l)

  module _ (h : in_range ed st ≡ true) (f : frame_fits st channel class (length frame) ≡ true) where
    roomy : frame_put ed st time channel class frame area ≡ room_for area (frame_bytes time channel class frame)
    unfolding frame_put
    roomy = rw (h, f)

    pub frame_short : area < frame_start + length frame → frame_put ed st time channel class frame area ≡ no_bytes AreaTooShort
    frame_short s = roomy ∙ room_short area (frame_bytes time channel class frame) (rw (length_frame time channel class frame) s)

    pub frame_put_lem : frame_start + length frame ≤ area → frame_put ed st time channel class frame area ≡ bytes_of (frame_bytes time channel class frame)
    frame_put_lem s = roomy ∙ room_enough area (frame_bytes time channel class frame) (rw (length_frame time channel class frame) s)
