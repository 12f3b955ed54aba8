-- Document 01, "The take": the verdicts far and held as plain facts of what a well-formed buffer holds; and "Better", with document 02, P1.
use Rattle.std.specs.Prelude.{ℕ, ◌^◌, ◌<◌, ◌≡◌, ◌↔◌, ◌⊎◌, true, false, length}
use mathlib.Core.List.{List, ◌∷◌, ◌++◌, Memᴰ}
use Rattle.std.proofs.Math.Option.{some}
use Rattle.rtp.specs.Editions.{Edition}
use Rattle.rtp.specs.Ranges.{in_range}
use Rattle.rtp.specs.declared.settings.Settings.{Settings}
use Rattle.formats.specs.Frames.{sound, sid, damaged_sound, damaged_sid}
use Rattle.buffer_copies.specs.Pairs.{half, ahead}
use Rattle.buffer_copies.specs.Copies.{Copy, better}
use Rattle.buffer_copies.specs.Entries.{Entry, Held, entry_of, side_of_entry, find_by}
use Rattle.buffer_copies.specs.Verdicts.{is_far}
use Rattle.buffer_layout.specs.Model.{fine}

-- a stretch under 2^31 ticks that has the held times and this one: from some time all are at most 2^31 - 1 ahead
pub record StretchWith (es : List Entry) (t : ℕ) : Type 0 where
  pub base : ℕ
  pub word : base < 2 ^ 32
  pub held : (e : Entry) → Memᴰ e es → ahead e.time base < half
  pub this : ahead t base < half

-- what a well-formed buffer under settings in range holds
pub record Holds (ed : Edition) (st : Settings) (h : Held) : Type 0 where
  pub range : in_range ed st ≡ true
  pub well_formed_lem : fine (record { settings = st; held = h }) ≡ true
  pub words : (e : Entry) → Memᴰ e h.entries → e.time < 2 ^ 32

-- far: nothing was drawn yet, and no stretch has the held times and this one
abbrev pub FarExactly : Edition → Type 0
FarExactly ed = (st : Settings) (h : Held) → Holds ed st h → (c : Copy) → c.time < 2 ^ 32
    → is_far h c ≡ true ↔ ((h.drawn ≡ false) × (StretchWith h.entries c.time → ⊥))

-- an entry of the copy's pair
abbrev pub OfPair : Copy → Entry → Type 0
OfPair c e = (e.time ≡ c.time) × (e.channel ≡ c.channel)

-- held: the search for a copy's pair finds just the entry of that pair, if it is among the entries
abbrev pub HeldExactly : Edition → Type 0
HeldExactly ed = (st : Settings) (h : Held) → Holds ed st h → (c : Copy) (e : Entry)
    → find_by (side_of_entry (entry_of c 0 0)) h.entries ≡ some e ↔ (Memᴰ e h.entries × OfPair c e)

-- a is the better copy, and b is not
abbrev pub Beats : Copy → Copy → Type 0
Beats a b = (better a b ≡ true) × (better b a ≡ false)

abbrev pub IsGood : ℕ → Type 0
IsGood class = (class ≡ sound) ⊎ (class ≡ sid)

abbrev pub IsDamaged : ℕ → Type 0
IsDamaged class = (class ≡ damaged_sound) ⊎ (class ≡ damaged_sid)

pub record BetterOrder : Type 0 where
  -- good beats damaged, whatever else they are: a good SID beats damaged sound
  pub good_first : (a b : Copy) → IsGood a.class → IsDamaged b.class → Beats a b
  -- of one quality, sound beats SID
  pub sound_first : (a b : Copy) → a.class ≡ sound → b.class ≡ sid → Beats a b
  pub damaged_sound_first : (a b : Copy) → a.class ≡ damaged_sound → b.class ≡ damaged_sid → Beats a b
  -- of one class, the longer; then the greater at the first byte that differs
  pub longer : (a b : Copy) → a.class ≡ b.class → length b.bytes < length a.bytes → Beats a b
  pub greater_byte : (a b : Copy) → a.class ≡ b.class → length a.bytes ≡ length b.bytes
      → (front rest others : List ℕ) (x y : ℕ) → a.bytes ≡ front ++ x ∷ rest → b.bytes ≡ front ++ y ∷ others → y < x → Beats a b
  -- equal ones do not beat each other
  pub equal : (a b : Copy) → a.class ≡ b.class → a.bytes ≡ b.bytes → better a b ≡ false
