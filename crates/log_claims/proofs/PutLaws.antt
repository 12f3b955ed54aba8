-- Laws of what is written: bytes that were accepted are the field's or the log's, and had room.
use mathlib.Core.Path.{◌≡◌, refl}
use mathlib.Core.List.{List}
use mathlib.Core.Bool.{Bool, true, false, cond}
use Prim.Native.Nat.{ℕ, ◌≤◌}
use native.Mathlib.Omega.{arith}
use lib.ListN.{length}
use lib.Dec.{ltb}
use borrow.Author.Tests.{ltb-false, le-ltb}
use Rattle.rtp.specs.Editions.{Edition}
use Rattle.rtp.specs.Ranges.{in_range}
use Rattle.rtp.specs.declared.settings.Settings.{Settings}
use Rattle.rtp.specs.declared.refusal.Refusal.{Refusal}
use Rattle.rtp.specs.declared.refusal.Refusal.TheVariants.{AreaTooShort}
use Rattle.log_fields.specs.Fields.{frame_fits}
use Rattle.log_writer.specs.FieldBytes.{settings_bytes, frame_bytes, end_bytes, max_frames, Put, no_bytes, bytes_of, room_for, settings_put, frame_put, end_put}

-- a test that must pass, and one that must fail
pub passing : (t : Bool) (x : Put) (r : Refusal) (p : List ℕ) → cond t x (no_bytes r) ≡ bytes_of p → (t ≡ true) × (x ≡ bytes_of p)
passing true x r p h = (refl, h)
passing false x r p h = let z : ◌≡◌ {A = ℕ} 0 1 = cc in absurd (omega arith)

pub failing : (t : Bool) (x : Put) (r : Refusal) (p : List ℕ) → cond t (no_bytes r) x ≡ bytes_of p → (t ≡ false) × (x ≡ bytes_of p)
failing true x r p h = let z : ◌≡◌ {A = ℕ} 0 1 = cc in absurd (omega arith)
failing false x r p h = (refl, h)

-- bytes that have room
pub record Room (area : ℕ) (q p : List ℕ) : Type 0 where
  pub enough : length q ≤ area
  pub same : p ≡ q

pub room : (area : ℕ) (q p : List ℕ) → room_for area q ≡ bytes_of p → Room area q p
room area q p h =
    let a = failing (ltb area (length q)) (bytes_of q) AreaTooShort p h in
    let e = a.1 in
    record { enough = ltb-false area (length q) a.0; same = cc }

pub has_room : (area : ℕ) (q : List ℕ) → length q ≤ area → room_for area q ≡ bytes_of q
has_room area q h = rw (le-ltb area (length q) h)

-- the three fields
pub settings_put_lem : (ed : Edition) (st : Settings) (area : ℕ) (p : List ℕ) → settings_put ed st area ≡ bytes_of p → (in_range ed st ≡ true) × Room area (settings_bytes st) p
unfolding settings_put
settings_put_lem ed st area p h = let a = passing (in_range ed st) _ _ p h in (a.0, room area (settings_bytes st) p a.1)

pub frame_put_lem : (ed : Edition) (st : Settings) (time channel class : ℕ) (frame : List ℕ) (area : ℕ) (p : List ℕ) → frame_put ed st time channel class frame area ≡ bytes_of p
    → (frame_fits st channel class (length frame) ≡ true) × Room area (frame_bytes time channel class frame) p
unfolding frame_put
frame_put_lem ed st time channel class frame area p h =
    let a = passing (in_range ed st) _ _ p h in
    let b = passing (frame_fits st channel class (length frame)) _ _ p a.1 in
    (b.0, room area (frame_bytes time channel class frame) p b.1)

pub end_put_lem : (n area : ℕ) (p : List ℕ) → end_put n area ≡ bytes_of p → (n ≤ max_frames) × Room area (end_bytes n) p
unfolding end_put
end_put_lem n area p h = let a = failing (ltb max_frames n) _ _ p h in (ltb-false max_frames n a.0, room area (end_bytes n) p a.1)

-- .. and the other way
pub put_settings : (ed : Edition) (st : Settings) (area : ℕ) → in_range ed st ≡ true → length (settings_bytes st) ≤ area → settings_put ed st area ≡ bytes_of (settings_bytes st)
unfolding settings_put
put_settings ed st area i h = rw i (has_room area (settings_bytes st) h)

pub put_frame : (ed : Edition) (st : Settings) (time channel class : ℕ) (frame : List ℕ) (area : ℕ) → in_range ed st ≡ true → frame_fits st channel class (length frame) ≡ true
    → length (frame_bytes time channel class frame) ≤ area → frame_put ed st time channel class frame area ≡ bytes_of (frame_bytes time channel class frame)
unfolding frame_put
put_frame ed st time channel class frame area i f h = rw (i, f) (has_room area (frame_bytes time channel class frame) h)

pub put_end : (n area : ℕ) → n ≤ max_frames → length (end_bytes n) ≤ area → end_put n area ≡ bytes_of (end_bytes n)
unfolding end_put
put_end n area m h = rw (le-ltb max_frames n m) (has_room area (end_bytes n) h)
