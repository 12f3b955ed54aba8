-- The figures of RFC 3550, appendix A.3 (document 02, P7).
use Rattle.std.specs.Prelude.{ℕ, ℤ, pos, negsuc}

-- the most of the fraction lost, in parts of 256
abbrev pub most_fraction : ℕ
most_fraction = 255

-- the least and the most packets lost that a report says: -8388608 (`negsuc n` is -(n + 1)) and 8388607
abbrev pub least_lost : ℤ
least_lost = negsuc 8388607

abbrev pub most_lost : ℤ
most_lost = pos 8388607
