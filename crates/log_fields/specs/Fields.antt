-- Document 02, P3: a log is tagged fields: a one-byte tag, a two-byte length, and so many bytes of content; numbers are big-endian.
use Rattle.std.specs.Prelude.{ℕ, ◌+◌, List, Bool, false, cond, length, ltb, eqb}
use Rattle.rtp.specs.Numbers.{byte_at, be16}
use Rattle.rtp.specs.declared.settings.Settings.{Settings}
use Rattle.frame_codes.specs.Allowed.{allowed}
use Rattle.log_fields.specs.declared.fields.FieldHead.{FieldHead}
use Rattle.log_fields.specs.declared.fields.Field.{Field}

-- the settings (format, channels, payload type, redundancy type), a frame, and the end; a field with another tag is passed over
abbrev pub settings_tag : ℕ
settings_tag = 1

abbrev pub frame_tag : ℕ
frame_tag = 2

abbrev pub end_tag : ℕ
end_tag = 3

-- the bytes of a tag and a length
abbrev pub head_size : ℕ
head_size = 3

-- the content of the settings, of a frame before its own bytes (time, channel, class), and of the end (the number of frames)
abbrev pub settings_size : ℕ
settings_size = 4

abbrev pub frame_head : ℕ
frame_head = 6

abbrev pub end_size : ℕ
end_size = 4

-- the bytes of the first field, which is the settings
abbrev pub first_size : ℕ
first_size = head_size + settings_size

-- the length of its content, in the head of the field at the front of s
abbrev pub content_length : List ℕ → ℕ
content_length s = be16 s 1

-- the field at the front of s: none if s is empty; cut if its tag, length and content are not all there
unfoldable pub field_of : List ℕ → Field
field_of s =
    cond (eqb (length s) 0) Field.Stopped
    (cond (ltb (length s) head_size) (Field.Cut (byte_at s 0))
    (cond (ltb (length s) (head_size + content_length s)) (Field.Cut (byte_at s 0)) (Field.Whole (record { tag = byte_at s 0; length = content_length s }))))

-- The answer in numbers: how much of a field there is (0 nothing, 1 a part of it, 2 all of it), its tag, and the length of its content; zeros where a case
-- has none
pub record FieldNumbers : Type 0 where
  pub there : ℕ
  pub tag : ℕ
  pub length : ℕ

abbrev pub field_numbers : Field → FieldNumbers
field_numbers Field.Stopped = record { there = 0; tag = 0; length = 0 }
field_numbers (Field.Cut tag) = record { there = 1; tag = tag; length = 0 }
field_numbers (Field.Whole h) = record { there = 2; tag = h.tag; length = h.length }

-- the bytes of a whole field
abbrev pub field_size : FieldHead → ℕ
field_size h = head_size + h.length

-- the settings in the content of the field at the front of s
abbrev pub settings_in : List ℕ → Settings
settings_in s = record { format = byte_at s 3; channels = byte_at s 4; payload_type = byte_at s 5; redundancy_type = byte_at s 6 }

-- a frame of this channel, class and length is one that reading under the settings can give, and not of no data
abbrev pub frame_fits : Settings → ℕ → ℕ → ℕ → Bool
frame_fits st channel class n = cond (ltb channel st.channels) (allowed st.format class n) false
