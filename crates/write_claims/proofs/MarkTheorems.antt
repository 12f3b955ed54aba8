-- The mark that rows are given with is ignored: rows are written by all else that they say.
use mathlib.Core.Path.{◌≡◌, refl, ap, sym, ◌∙◌}
use mathlib.Core.List.{List, [], ◌∷◌, ◌++◌}
use Prim.Native.Nat.{ℕ, zero, suc}
use native.Mathlib.Omega.{arith}
use lib.ListN.{length, take, drop}
use Rattle.rtp.specs.Editions.{Edition}
use Rattle.rtp.specs.declared.settings.Settings.{Settings}
use Rattle.row_tags.specs.Tags.{redundant_mark, tag_mark, tag_class, tag_channel}
use Rattle.read_contents.specs.Contents.{Contents, refused, groups}
use Rattle.read_rows.specs.Rows.{Row, frame_in, rows_in, with_mark, marked}
use Rattle.read_rows.proofs.RowLaws.{length_marked}
use Rattle.write_plan.specs.Lists.{first_time, outside}
use Rattle.write_plan.specs.Plans.{plan_from, plan, step_before}
use Rattle.write_payload.specs.Bytes.{table_bytes, frames}
use Rattle.write_sizes.specs.Asking.{request_bytes}
use Rattle.write_payload.specs.Writings.{bytes_of, planned_bytes, encoded, writing}
use Rattle.write_sizes.specs.Measures.{measured}
use Rattle.write_parts.specs.Parts.{primary_time, primary_part, parts}
use Rattle.write_packet.specs.Packets.{assembled, sending}
use Rattle.write_parts.specs.declared.headers.Heading.{Heading}
use Rattle.write_claims.specs.Marks.{cleared_tag, cleared}
use Rattle.write_claims.specs.PayloadClaims.{MarkIgnored}
use Rattle.write_claims.specs.PacketClaims.{PacketMarkIgnored}
use Rattle.write_claims.proofs.MarkLaws.{plains_marked}
use Rattle.write_claims.proofs.PlanBlockLaws.{plan_like, plan_plain}

-- Words with bit 16 of each second word cleared

class_cleared : (tag : ℕ) → tag_class (cleared_tag tag) ≡ tag_class tag
class_cleared tag = omega arith

channel_cleared : (tag : ℕ) → tag_channel (cleared_tag tag) ≡ tag_channel tag
channel_cleared tag = omega arith

mark_cleared : (tag : ℕ) → tag_mark (cleared_tag tag) ≡ redundant_mark
mark_cleared tag = omega arith

length_cleared : (ws : List ℕ) → length (cleared ws) ≡ length ws
unfolding cleared
length_cleared [] = refl
length_cleared (a ∷ []) = refl
length_cleared (a ∷ b ∷ []) = refl
length_cleared (a ∷ b ∷ c ∷ []) = refl
length_cleared (a ∷ b ∷ c ∷ d ∷ ws) = let e = length_cleared ws in omega arith

rows_cleared : (ws : List ℕ) → rows_in (cleared ws) ≡ marked redundant_mark (rows_in ws)
unfolding cleared rows_in marked
rows_cleared [] = refl
rows_cleared (a ∷ []) = refl
rows_cleared (a ∷ b ∷ []) = refl
rows_cleared (a ∷ b ∷ c ∷ []) = refl
rows_cleared (a ∷ b ∷ c ∷ d ∷ ws) =
    let e = rows_cleared ws in
    λ j. record { time = a; class = class_cleared b j; channel = channel_cleared b j; start = c; length = d; primary = mark_cleared b j } ∷ e j

-- Rows with another mark

module _ (ed : Edition) (mark : ℕ) where
  outside_marked : (n : ℕ) (rs : List Row) → outside n (marked mark rs) ≡ outside n rs
  unfolding outside marked
  outside_marked n [] = refl
  outside_marked n (r ∷ rs) = rw (outside_marked n rs)

  frames_marked : (bytes : List ℕ) (rs : List Row) → frames bytes (marked mark rs) ≡ frames bytes rs
  unfolding frames marked
  frames_marked bytes [] = refl
  frames_marked bytes (r ∷ rs) = ap (λ (l : List ℕ). frame_in bytes r ++ l) (frames_marked bytes rs)

  from_marked : (format ch c : ℕ) (p : Row) (rs : List Row) → plan_from format ch c p (marked mark rs) ≡ plan_from format ch c p rs
  from_marked format ch c p rs = plan_plain format ch c p (marked mark rs) ∙ ap (plan_from format ch c p) (plains_marked mark rs) ∙ sym (plan_plain format ch c p rs)

  first_marked : (format ch : ℕ) (r : Row) (rs : List Row) → plan_from format ch 0 (step_before format (with_mark mark r)) (marked mark rs) ≡ plan_from format ch 0 (step_before format r) rs
  first_marked format ch r rs =
      let p = step_before format (with_mark mark r) in
      let q = step_before format r in
      from_marked format ch 0 p rs ∙ plan_like format ch 0 p rs ∙ sym (plan_like format ch 0 q rs)

  plan_marked : (format ch : ℕ) (rs : List Row) → plan ed format ch (marked mark rs) ≡ plan ed format ch rs
  unfolding plan marked
  plan_marked format ch [] = refl
  plan_marked format ch (r ∷ rs) = rw (length_marked mark rs, first_marked format ch r (r ∷ rs))

  bytes_marked : (format request : ℕ) (bytes : List ℕ) (rs : List Row) (x : Contents) → planned_bytes format request bytes (marked mark rs) x ≡ planned_bytes format request bytes rs x
  bytes_marked format request bytes rs (refused f) = refl
  bytes_marked format request bytes rs (groups gs) = ap (λ (l : List ℕ). bytes_of (request_bytes format request ++ (table_bytes format gs ++ l))) (frames_marked bytes rs)

  encoded_marked : (st : Settings) (request : ℕ) (bytes : List ℕ) (rs : List Row) → encoded ed st request bytes (marked mark rs) ≡ encoded ed st request bytes rs
  unfolding encoded
  encoded_marked st request bytes rs =
      bytes_marked st.format request bytes rs (plan ed st.format st.channels (marked mark rs)) ∙ ap (planned_bytes st.format request bytes rs) (plan_marked st.format st.channels rs)

  -- lists of them

  take_marked : (n : ℕ) (rs : List Row) → take n (marked mark rs) ≡ marked mark (take n rs)
  unfolding marked
  take_marked zero rs = refl
  take_marked (suc n) [] = refl
  take_marked (suc n) (r ∷ rs) = ap (λ (l : List Row). with_mark mark r ∷ l) (take_marked n rs)

  drop_marked : (n : ℕ) (rs : List Row) → drop n (marked mark rs) ≡ marked mark (drop n rs)
  unfolding marked
  drop_marked zero rs = refl
  drop_marked (suc n) [] = refl
  drop_marked (suc n) (r ∷ rs) = drop_marked n rs

  time_marked : (rs : List Row) → first_time (marked mark rs) ≡ first_time rs
  unfolding marked
  time_marked [] = refl
  time_marked (r ∷ rs) = refl

  primary_marked : (counts : List ℕ) (rs : List Row) → primary_time counts (marked mark rs) ≡ primary_time counts rs
  unfolding primary_time
  primary_marked [] rs = refl
  primary_marked (n ∷ []) rs = time_marked rs
  primary_marked (n ∷ m ∷ ns) rs = ap (primary_time (m ∷ ns)) (drop_marked n rs) ∙ primary_marked (m ∷ ns) (drop n rs)

  parts_marked : (st : Settings) (request : ℕ) (bytes : List ℕ) (time : ℕ) (counts : List ℕ) (rs : List Row) → parts ed st request bytes time counts (marked mark rs) ≡ parts ed st request bytes time counts rs
  unfolding parts
  parts_marked st request bytes time [] rs = refl
  parts_marked st request bytes time (n ∷ []) rs = ap primary_part (encoded_marked st request bytes rs)
  parts_marked st request bytes time (n ∷ m ∷ ns) rs =
      rw (take_marked n rs, drop_marked n rs, time_marked (take n rs), encoded_marked st request bytes (take n rs), parts_marked st request bytes time (m ∷ ns) (drop n rs))

  assembled_marked : (st : Settings) (request : ℕ) (h : Heading) (counts bytes : List ℕ) (rs : List Row) → assembled ed st request h counts bytes (marked mark rs) ≡ assembled ed st request h counts bytes rs
  unfolding assembled
  assembled_marked st request h counts bytes rs = rw (primary_marked counts rs, parts_marked st request bytes (primary_time counts rs) counts rs)

-- Writing, measuring and sending

pub mark_ignored : (ed : Edition) → MarkIgnored ed
unfolding writing measured
mark_ignored ed st request ws bytes area =
    let rs = rows_in ws in (
      rw (rows_cleared ws, length_cleared ws, outside_marked ed redundant_mark (length bytes) rs, encoded_marked ed redundant_mark st request bytes rs),
      rw (rows_cleared ws, length_cleared ws, plan_marked ed redundant_mark st.format st.channels rs),
    )

pub packet_mark_ignored : (ed : Edition) → PacketMarkIgnored ed
unfolding sending
packet_mark_ignored ed st request h counts ws bytes area =
    let rs = rows_in ws in
    rw (rows_cleared ws, length_cleared ws, outside_marked ed redundant_mark (length bytes) rs, assembled_marked ed redundant_mark st request h counts bytes rs)
