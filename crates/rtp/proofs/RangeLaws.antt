-- What settings in range say.
use Rattle.std.proofs.Common.{◌≡◌, ℕ, ◌<◌, ◌≤◌, true, false, eqb, ltb, leb, arith, ltb-false, le-ltb, lt-ltb, ne_eqb}
use borrow.Author.Tests.{eqb-false, lt-leb}
use Rattle.rtp.specs.Editions.{Edition}
use Rattle.rtp.specs.PayloadFormats.{format_number}
use Rattle.rtp.specs.declared.payload_format.PayloadFormat.{PayloadFormat}
use Rattle.rtp.specs.declared.payload_format.PayloadFormat.TheVariants.{G719, G719Interleaved, GsmHr, Amr, AmrWb}
use Rattle.rtp.specs.Ranges.{g719_interleaved, amr_wb, no_redundancy, most_channels, max_channels, in_range}
use Rattle.rtp.specs.declared.settings.Settings.{Settings}
use Rattle.rtp.proofs.TestLaws.{by-test, either}

pub record Ranged (ed : Edition) (st : Settings) : Type 0 where
  pub channels : 1 ≤ st.channels
  pub few : st.channels ≤ max_channels ed st.format
  pub plain : st.payload_type < 128
  pub redundant : eqb st.redundancy_type no_redundancy ≡ false → (st.redundancy_type < 128) × (st.redundancy_type ≡ st.payload_type → ⊥)

pub ranged : (ed : Edition) (st : Settings) → in_range ed st ≡ true → Ranged ed st
unfolding in_range
ranged ed st h =
    let a = either (eqb st.channels 0) _ h in
    let b = either (ltb (max_channels ed st.format) st.channels) _ a.1 in
    let c = either (ltb 127 st.payload_type) _ b.1 in
    record {
      channels = omega (arith, eqb-false st.channels 0 a.0);
      few = ltb-false (max_channels ed st.format) st.channels b.0;
      plain = omega (arith, ltb-false 127 st.payload_type c.0);
      redundant = λ n.
          let d = either (ltb 127 st.redundancy_type) _ (rw n at c.1) in
          let e = either (eqb st.redundancy_type st.payload_type) true d.1 in
          (omega (arith, ltb-false 127 st.redundancy_type d.0), eqb-false _ _ e.0);
    }

-- the number of channels: at least one, no more than any format has, and a byte
pub in_range_some : (ed : Edition) (st : Settings) → in_range ed st ≡ true → 0 < st.channels
in_range_some ed st h = (ranged ed st h).channels

pub most_channels_lem : (ed : Edition) (format : ℕ) → max_channels ed format ≤ most_channels ed
unfolding max_channels
most_channels_lem ed format =
    let some = ed.some in
    by-test (eqb format 0) (λ a. rw a (omega arith))
    (λ a. by-test (leb format g719_interleaved) (λ b. rw (a, b) (omega arith))
    (λ b. by-test (leb format amr_wb) (λ c. rw (a, b, c) (omega arith)) (λ c. rw (a, b, c) (omega arith))))

pub few_channels : (ed : Edition) (st : Settings) → in_range ed st ≡ true → st.channels ≤ 255
few_channels ed st h = omega (arith, (ranged ed st h).few, most_channels_lem ed st.format, ed.octet)

-- Editions

pub most_more : (a b : Edition) → most_channels a ≤ most_channels b → (format : ℕ) → max_channels a format ≤ max_channels b format
unfolding max_channels
most_more a b l format =
    by-test (eqb format 0) (λ x. rw x (omega arith))
    (λ x. by-test (leb format g719_interleaved) (λ y. rw (x, y) l)
    (λ y. by-test (leb format amr_wb) (λ z. rw (x, y, z) (omega arith)) (λ z. rw (x, y, z) (omega arith))))

-- settings in range of one edition are in range of one that has as many channels or more
pub more_in_range : (a b : Edition) (st : Settings) → most_channels a ≤ most_channels b → in_range a st ≡ true → in_range b st ≡ true
unfolding in_range
more_in_range a b st l h =
    let c = either (eqb st.channels 0) _ h in
    let d = either (ltb (max_channels a st.format) st.channels) _ c.1 in
    rw (c.0, le-ltb (max_channels b st.format) st.channels (omega (arith, ltb-false (max_channels a st.format) st.channels d.0, most_more a b l st.format)))
    d.1

-- and those of more channels than it has are not
pub more_out_of_range : (a : Edition) (st : Settings) → most_channels a < st.channels → in_range a st ≡ false
unfolding in_range
more_out_of_range a st l =
    rw (ne_eqb st.channels 0 (λ z. omega arith), lt-ltb (max_channels a st.format) st.channels (omega (arith, most_channels_lem a st.format)))

-- a number that names no format has no channels
pub no_channels : (ed : Edition) (n : ℕ) → ((format : PayloadFormat) → format_number format ≡ n → ⊥) → max_channels ed n ≡ 0
unfolding max_channels
no_channels ed n none =
    by-test (eqb n 0) (λ a. rw a)
    (λ a. let some = eqb-false n 0 a in
    let far : amr_wb < n = omega (arith, none G719, none G719Interleaved, none GsmHr, none Amr, none AmrWb) in
    rw (a, lt-leb n g719_interleaved (omega arith), lt-leb n amr_wb far))
