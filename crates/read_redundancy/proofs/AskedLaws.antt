-- Laws of the redundancy payload of a call.
use mathlib.Core.Path.{◌≡◌}
use mathlib.Core.List.{List}
use mathlib.Core.Bool.{true, false}
use Prim.Native.Nat.{ℕ, ◌+◌, ◌≤◌, ◌<◌}
use lib.ListN.{length}
use borrow.Author.Tests.{lt-ltb, le-ltb}
use Rattle.rtp.specs.Editions.{Edition}
use Rattle.rtp.specs.Sizes.{max_packet, row_area}
use Rattle.rtp.specs.Ranges.{in_range}
use Rattle.rtp.specs.Faults.{fault}
use Rattle.rtp.specs.declared.settings.Settings.{Settings}
use Rattle.rtp.specs.declared.refusal.Refusal.TheVariants.{PacketLength, SettingsOutOfRange, AreaTooShort}
use Rattle.read_payload.specs.Payloads.{no_rows}
use Rattle.read_redundancy.specs.Blocks.{redundant_rows, asked_redundant}

module _ (ed : Edition) (st : Settings) (area time at : ℕ) (s : List ℕ) where
  pub redundant_out : in_range ed st ≡ false → asked_redundant ed st area time at s ≡ no_rows (fault SettingsOutOfRange)
  unfolding asked_redundant
  redundant_out h = rw h

  module _ (h : in_range ed st ≡ true) where
    pub redundant_short : area < row_area ed → asked_redundant ed st area time at s ≡ no_rows (fault AreaTooShort)
    unfolding asked_redundant
    redundant_short a = rw (h, lt-ltb area (row_area ed) a)

    module _ (a : row_area ed ≤ area) where
      pub redundant_long : max_packet < at + length s → asked_redundant ed st area time at s ≡ no_rows (fault PacketLength)
      unfolding asked_redundant
      redundant_long b = rw (h, le-ltb area (row_area ed) a, lt-ltb max_packet (at + length s) b)

      pub redundant_in : at + length s ≤ max_packet → asked_redundant ed st area time at s ≡ redundant_rows ed st time at s
      unfolding asked_redundant
      redundant_in b = rw (h, le-ltb area (row_area ed) a, le-ltb max_packet (at + length s) b)
