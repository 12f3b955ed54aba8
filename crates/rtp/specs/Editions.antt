-- Document 02, P12: the figures that an edition of the papers changes. Definitions and claims are over an edition; the functions are of the current one.
use Rattle.std.specs.Prelude.{ℕ, ◌≤◌}
use Rattle.std.proofs.Common.{arith}

-- the most channels that any format has: at least one, and no more than a byte says; and the most rows of a packet: so few that two entries of a table
-- count the frame-blocks of any run, 254 and up to 255
pub record Edition : Type 0 where
  pub channels : ℕ
  pub some : 1 ≤ channels
  pub octet : channels ≤ 255
  pub rows : ℕ
  pub counted : rows ≤ 509

abbrev pub first_edition : Edition
first_edition = record { channels = 2; some = omega arith; octet = omega arith; rows = 128; counted = omega arith }

-- six channels: document 02, P12
abbrev pub second_edition : Edition
second_edition = record { channels = 6; some = omega arith; octet = omega arith; rows = 384; counted = omega arith }

-- the edition that the functions are of
abbrev pub current : Edition
current = second_edition
