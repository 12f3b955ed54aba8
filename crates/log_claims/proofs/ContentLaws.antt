-- Laws of a whole field's content: it lies behind the field's head, and says what the field's own bytes say.
use mathlib.Core.Path.{◌≡◌, ap, sym, ◌∙◌}
use mathlib.Core.List.{List}
use mathlib.Core.Bool.{false}
use Prim.Native.Nat.{ℕ, ◌+◌, ◌-◌, ◌≤◌, ◌<◌}
use native.Mathlib.Omega.{arith}
use lib.ListN.{length, take, drop, length-drop}
use lib.Seq.{length-take-le, take-add, drop_at, drop-drop, get_or-take, get_or-drop}
use borrow.Author.Tests.{lt-ltb, le-ltb}
use Rattle.rtp.specs.Numbers.{byte_at, be32}
use Rattle.rtp.specs.declared.settings.Settings.{Settings}
use Rattle.log_fields.specs.Fields.{head_size, frame_head, settings_in, frame_fits}
use Rattle.log_claims.specs.Logs.{frame_of, frame_allowed, settings_of}
use Rattle.log_claims.specs.Claims.{part_of}

-- the content of the field at the front of s, of n bytes
abbrev pub content : List ℕ → ℕ → List ℕ
content s n = take n (drop head_size s)

module _ (s : List ℕ) (n : ℕ) (fits : head_size + n ≤ length s) where
  pub content_length_lem : length (content s n) ≡ n
  content_length_lem = length-take-le n (drop head_size s) (omega (arith, length-drop head_size s))

  pub content_byte : (i : ℕ) → i < n → byte_at (content s n) i ≡ byte_at s (head_size + i)
  content_byte i h = get_or-take n (drop head_size s) i 0 h ∙ get_or-drop head_size s i 0

  pub content_four : 4 ≤ n → be32 (content s n) 0 ≡ be32 s 3
  content_four h = rw (content_byte 0 (omega arith), content_byte 1 (omega arith), content_byte 2 (omega arith), content_byte 3 (omega arith))

  pub content_settings : 4 ≤ n → settings_in s ≡ settings_of (content s n)
  content_settings h =
      let a = sym (content_byte 0 (omega arith)) in
      let b = sym (content_byte 1 (omega arith)) in
      let c = sym (content_byte 2 (omega arith)) in
      let d = sym (content_byte 3 (omega arith)) in
      λ j. record { format = a j; channels = b j; payload_type = c j; redundancy_type = d j }

  -- a frame's
  content_frame : frame_head ≤ n → drop frame_head (content s n) ≡ take (n - frame_head) (drop (head_size + frame_head) s)
  content_frame h =
      let k : n ≡ frame_head + (n - frame_head) = omega arith in
      let x = drop head_size s in
      let l : length (take frame_head x) ≡ frame_head = length-take-le frame_head x (omega (arith, length-drop head_size s)) in
      ap (λ (m : ℕ). drop frame_head (take m x)) k
      ∙ ap (drop frame_head) (take-add frame_head (n - frame_head) x)
      ∙ drop_at (take frame_head x) (take (n - frame_head) (drop frame_head x)) frame_head l
      ∙ ap (take (n - frame_head)) (drop-drop frame_head head_size s)

  pub content_shown : frame_head ≤ n
      → frame_of (content s n) ≡ part_of s (record { time = be32 s 3; channel = byte_at s 7; class = byte_at s 8; start = head_size + frame_head; length = n - frame_head })
  content_shown h =
      let a = content_four (omega arith) in
      let b = content_byte 4 (omega arith) in
      let c = content_byte 5 (omega arith) in
      let d = content_frame h in
      λ j. record { time = a j; channel = b j; class = c j; bytes = d j }

  pub content_allowed : (st : Settings) → frame_head ≤ n → frame_allowed st (content s n) ≡ frame_fits st (byte_at s 7) (byte_at s 8) (n - frame_head)
  unfolding frame_allowed
  content_allowed st h =
      let e : length (drop frame_head (content s n)) ≡ n - frame_head = length-drop frame_head (content s n) ∙ ap (λ (m : ℕ). m - frame_head) content_length_lem in
      rw (content_length_lem, le-ltb n frame_head h, content_byte 4 (omega arith), content_byte 5 (omega arith), e)

  pub content_short : (st : Settings) → n < frame_head → frame_allowed st (content s n) ≡ false
  unfolding frame_allowed
  content_short st h = rw (content_length_lem, lt-ltb n frame_head h)
