-- Document 02, P3: the three fields that a log is written of. Each definition `..Put` is the whole meaning of a call, refusals included.
use Rattle.std.specs.Prelude.{ℕ, ◌+◌, ◌-◌, ◌^◌, List, [], ◌∷◌, ◌++◌, cond, length, ltb, Err, Ok, Result}
use Rattle.rtp.specs.Editions.{Edition}
use Rattle.rtp.specs.Numbers.{two, four}
use Rattle.rtp.specs.Ranges.{in_range}
use Rattle.rtp.specs.Refusals.{number}
use Rattle.rtp.specs.declared.settings.Settings.{Settings}
use Rattle.rtp.specs.declared.refusal.Refusal.{Refusal}
use Rattle.rtp.specs.declared.refusal.Refusal.TheVariants.{SettingsOutOfRange, AreaTooShort, NotAllowed}
use Rattle.log_fields.specs.Fields.{settings_tag, frame_tag, end_tag, settings_size, frame_head, end_size, frame_fits}

-- tag 1: the settings
unfoldable pub settings_bytes : Settings → List ℕ
settings_bytes st =
    settings_tag ∷ (two settings_size ++ (st.format ∷ st.channels ∷ st.payload_type ∷ st.redundancy_type ∷ []))

-- tag 2: a frame of this time, channel and class
unfoldable pub frame_bytes : ℕ → ℕ → ℕ → List ℕ → List ℕ
frame_bytes time channel class frame = frame_tag ∷ (two (frame_head + length frame) ++ (four time ++ (channel ∷ class ∷ frame)))

-- tag 3: the end, after n frames
unfoldable pub end_bytes : ℕ → List ℕ
end_bytes n = end_tag ∷ (two end_size ++ four n)

-- the most frames of a log: their count has four bytes
abbrev pub max_frames : ℕ
max_frames = 2 ^ 32 - 1

-- bytes to be written, or why there are none
pub data Put : Type 0 where
  no_bytes : Refusal → Put
  bytes_of : List ℕ → Put

-- an area of so many bytes has room for all of them
abbrev pub room_for : ℕ → List ℕ → Put
room_for area p = cond (ltb area (length p)) (no_bytes AreaTooShort) (bytes_of p)

-- each into an area of so many bytes: the order is 11, 19, 12
unfoldable pub settings_put : Edition → Settings → ℕ → Put
settings_put ed st area = cond (in_range ed st) (room_for area (settings_bytes st)) (no_bytes SettingsOutOfRange)

unfoldable pub frame_put : Edition → Settings → ℕ → ℕ → ℕ → List ℕ → ℕ → Put
frame_put ed st time channel class frame area =
    cond (in_range ed st)
    (cond (frame_fits st channel class (length frame)) (room_for area (frame_bytes time channel class frame)) (no_bytes NotAllowed))
    (no_bytes SettingsOutOfRange)

unfoldable pub end_put : ℕ → ℕ → Put
end_put count area = cond (ltb max_frames count) (no_bytes NotAllowed) (room_for area (end_bytes count))

-- The answer in numbers: the refusal number or 0, and the byte count, 0 on refusal
pub record Numbers : Type 0 where
  pub refusal : ℕ
  pub length : ℕ

-- of the code's answer, case by case
abbrev pub written_numbers : Result ℕ Refusal → Numbers
written_numbers (Err r) = record { refusal = number r; length = 0 }
written_numbers (Ok n) = record { refusal = 0; length = n }

-- of what writing comes to
unfoldable pub put_numbers : Put → Numbers
put_numbers (no_bytes r) = record { refusal = number r; length = 0 }
put_numbers (bytes_of p) = record { refusal = 0; length = length p }

-- the bytes written over the front of the area: none on refusal
unfoldable pub put_bytes : Put → List ℕ
put_bytes (no_bytes r) = []
put_bytes (bytes_of p) = p
