-- Laws of fields as they are written: each reads back.
use mathlib.Core.Path.{◌≡◌, refl, ap, ap₂, sym, ◌∙◌}
use mathlib.Core.List.{List, [], ◌∷◌, ◌++◌}
use mathlib.Core.Bool.{true}
use Prim.Native.Nat.{ℕ, ◌+◌, ◌^◌, ◌<◌}
use native.Mathlib.Omega.{arith}
use lib.ListN.{length, length-append}
use lib.Seq.{take_at, drop_at, drop-drop}
use lib.Dec.{ltb}
use borrow.Author.Tests.{le-ltb, eq-eqb, ne_eqb}
use Rattle.rtp.specs.Editions.{Edition}
use Rattle.rtp.specs.Numbers.{be16, be32, two, four}
use Rattle.rtp.specs.Ranges.{in_range}
use Rattle.rtp.specs.declared.settings.Settings.{Settings}
use Rattle.rtp.proofs.TestLaws.{both}
use Rattle.rtp.proofs.ByteLaws.{two_back, four_back}
use Rattle.frame_codes.proofs.AllowedLaws.{allowed_frame}
use Rattle.log_fields.specs.declared.fields.Field.{Field}
use Rattle.log_fields.specs.Fields.{settings_tag, frame_tag, end_tag, head_size, frame_head, field_of, frame_fits}
use Rattle.log_writer.specs.FieldBytes.{settings_bytes, frame_bytes, end_bytes}
use Rattle.log_claims.specs.Logs.{whole, fields_of, Frame, frame_of, frame_allowed, ends, shows, end_of, read_on, opened, settled, read_fields, read_log}
use Rattle.log_claims.proofs.FieldLaws.{fields_behind, fields_step, after_none}

-- a field with this tag and content, before other bytes
module _ (tag : ℕ) (c : List ℕ) (n : ℕ) (size : length c ≡ n) (few : n < 2 ^ 16) (rest : List ℕ) where
  abbrev Bytes : List ℕ
  Bytes = tag ∷ (two n ++ (c ++ rest))

  field_is : field_of Bytes ≡ Field.Whole (record { tag = tag; length = n })
  unfolding field_of
  field_is =
      let l : length Bytes ≡ head_size + (n + length rest) = omega (arith, length-append c rest) in
      let b : be16 Bytes 1 ≡ n = two_back n (c ++ rest) few in
      rw (b, ne_eqb (length Bytes) 0 (λ z. absurd (omega arith)), le-ltb (length Bytes) head_size (omega arith), le-ltb (length Bytes) (head_size + n) (omega arith))

  pub field_back : fields_of Bytes ≡ whole tag c ∷ fields_of rest
  field_back =
      fields_step Bytes ∙ ap (fields_behind Bytes) field_is
      ∙ ap₂ (λ (d : List ℕ) (t : List ℕ). whole tag d ∷ fields_of t) (take_at c rest n size) (sym (drop-drop n head_size Bytes) ∙ drop_at c rest n size)

-- the settings
pub settings_back : (ed : Edition) (st : Settings) (rest : List ℕ) → in_range ed st ≡ true → read_log ed (settings_bytes st ++ rest) ≡ opened st (read_on st 0 (fields_of rest))
unfolding settings_bytes read_log read_fields settled
settings_back ed st rest h =
    rw (field_back settings_tag (st.format ∷ st.channels ∷ st.payload_type ∷ st.redundancy_type ∷ []) 4 refl (omega arith) rest)
    (rw h)

-- a frame's
abbrev frame_content : ℕ → ℕ → ℕ → List ℕ → List ℕ
frame_content time channel class frame = four time ++ (channel ∷ class ∷ frame)

content_allowed : (st : Settings) (time channel class : ℕ) (frame : List ℕ) → frame_fits st channel class (length frame) ≡ true
    → frame_allowed st (frame_content time channel class frame) ≡ true
unfolding frame_allowed
content_allowed st time channel class frame h = rw (le-ltb (length (frame_content time channel class frame)) frame_head (omega arith)) h

content_frame : (time channel class : ℕ) (frame : List ℕ) → time < 2 ^ 32
    → frame_of (frame_content time channel class frame) ≡ record { time = time; channel = channel; class = class; bytes = frame }
content_frame time channel class frame t = λ j. record { time = four_back time (channel ∷ class ∷ frame) t j; channel = channel; class = class; bytes = frame }

pub frame_back : (st : Settings) (n time channel class : ℕ) (frame rest : List ℕ) → time < 2 ^ 32 → frame_fits st channel class (length frame) ≡ true
    → read_on st n (fields_of (frame_bytes time channel class frame ++ rest))
    ≡ shows (record { time = time; channel = channel; class = class; bytes = frame }) (read_on st (n + 1) (fields_of rest))
unfolding frame_bytes read_on
frame_back st n time channel class frame rest t h =
    let a = (allowed_frame st.format class (length frame) (both (ltb channel st.channels) _ h).1).1 in
    rw (
      field_back frame_tag (frame_content time channel class frame) (frame_head + length frame) (omega arith) (omega arith) rest,
      content_allowed st time channel class frame h,
    )
    (ap (λ (f : Frame). shows f (read_on st (n + 1) (fields_of rest))) (content_frame time channel class frame t))

-- the end's
pub end_back : (st : Settings) (n : ℕ) → n < 2 ^ 32 → read_on st n (fields_of (end_bytes n)) ≡ ends 0
unfolding end_bytes read_on end_of
end_back st n h =
    rw (field_back end_tag (four n) 4 refl (omega arith) [], eq-eqb (be32 (four n) 0) n (four_back n [] h)) (after_none [] refl)
