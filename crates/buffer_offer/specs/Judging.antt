-- What judging frames asks of a buffer, its store and the rows of a packet, and what it gives then.
use Rattle.std.specs.Prelude.{ℕ, ◌+◌, ◌≤◌, ◌<◌, ◌≡◌, List, [], ◌∷◌, Bool, true, false, cond, not, length, eqb}
use Rattle.rtp.specs.Editions.{Edition}
use Rattle.rtp.specs.Ranges.{in_range}
use Rattle.rtp.specs.declared.settings.Settings.{Settings}
use Rattle.formats.specs.Frames.{no_data}
use Rattle.read_rows.specs.Rows.{Row}
use Rattle.buffer_copies.specs.declared.verdict.Verdict.{Verdict}
use Rattle.buffer_copies.specs.Sizes.{store_size}
use Rattle.buffer_copies.specs.Pairs.{order, is_after}
use Rattle.buffer_copies.specs.Copies.{Copy}
use Rattle.buffer_copies.specs.Verdicts.{is_late, is_far, judge, tally, judge_all}
use Rattle.buffer_layout.specs.declared.buffer.Buffer.{Buffer}
use Rattle.buffer_layout.specs.Arrays.{Machine}
use Rattle.buffer_layout.specs.Columns.{fits_from}
use Rattle.buffer_layout.specs.Layout.{encode, decode}
use Rattle.frame_codes.specs.Allowed.{allowed}
use Rattle.buffer_layout.specs.WellFormed.{well_formed}
use Rattle.buffer_insert.specs.declared.laying.FrameHead.{FrameHead}
use Rattle.buffer_insert.specs.declared.tally.Tally.{Tally}
use Rattle.buffer_insert.specs.Laying.{class_in, channel_in}
use Rattle.buffer_insert.specs.Tallies.{counts_of, TallySmall}
use Rattle.buffer_offer.specs.Rows.{received_in}

-- `is_late` and `is_far`
abbrev pub is_late_of : Buffer → FrameHead → Bool
is_late_of b h = cond (eqb b.drawn 1) (not (is_after (order h.time (channel_in h) b.last_time b.last_channel))) false

abbrev pub is_far_of : Buffer → ℕ → ℕ → Bool
is_far_of b n t = cond (eqb b.drawn 0) (not (fits_from b.times t n)) false

pub record Judgeable (ed : Edition) (b : Buffer) (h : FrameHead) (frame store : List ℕ) : Type 0 where
  pub machine : Machine b
  pub settings : in_range ed b.settings ≡ true
  pub fine : well_formed b ≡ true
  pub class : allowed b.settings.format (class_in h) (length frame) ≡ true
  pub channel : channel_in h < b.settings.channels
  pub room : store_size ≤ length store

-- neither late nor far
pub record Timely (b : Buffer) (c : Copy) : Type 0 where
  pub not_late : is_late (decode b) c ≡ false
  pub not_far : is_far (decode b) c ≡ false

-- what judging a frame with its mark against the buffer b leaves
pub record JudgedAs (b b' : Buffer) (c : Copy) (mark : ℕ) (store store' : List ℕ) (v : Verdict) : Type 0 where
  pub verdict : v ≡ (judge (decode b) store c mark).verdict
  pub buffer : b' ≡ encode b.settings (judge (decode b) store c mark).held
  pub store_left : store' ≡ (judge (decode b) store c mark).store

-- Judging the rows of a packet

-- a row of no data, or one of a frame that the settings allow, which lies in the packet
abbrev pub RowAllowed : Settings → ℕ → Row → Type 0
RowAllowed st n r =
    (r.class ≡ no_data → ⊥) → (allowed st.format r.class r.length ≡ true) × (r.channel < st.channels) × (r.start + r.length ≤ n)

abbrev pub RowsAllowed : Settings → ℕ → List Row → Type 0
RowsAllowed st n [] = Unit {0}
RowsAllowed st n (r ∷ rs) = RowAllowed st n r × RowsAllowed st n rs

pub record RowsJudgeable (ed : Edition) (b : Buffer) (packet : List ℕ) (rs : List Row) (t : Tally) (store : List ℕ) : Type 0 where
  pub machine : Machine b
  pub settings : in_range ed b.settings ≡ true
  pub fine : well_formed b ≡ true
  pub rows : RowsAllowed b.settings (length packet) rs
  pub small : TallySmall t (length rs)
  pub room : store_size ≤ length store

pub record RowsJudged (b b' : Buffer) (packet : List ℕ) (rs : List Row) (t t' : Tally) (store store' : List ℕ) : Type 0 where
  pub counts : counts_of t' ≡ tally (counts_of t) (judge_all (decode b) store (received_in packet rs)).judgements
  pub buffer : b' ≡ encode b.settings (judge_all (decode b) store (received_in packet rs)).held
  pub store_left : store' ≡ (judge_all (decode b) store (received_in packet rs)).store

-- the rows before those left judged, or passed over: the others can be judged then, and so all are
pub record PartJudged (ed : Edition) (b b' : Buffer) (packet : List ℕ) (rs left : List Row) (t t' : Tally) (store store' : List ℕ) : Type 0 where
  pub others : RowsJudgeable ed b' packet left t' store'
  pub all : (b'' : Buffer) (t'' : Tally) (store'' : List ℕ) → RowsJudged b' b'' packet left t' t'' store' store'' → RowsJudged b b'' packet rs t t'' store store''
