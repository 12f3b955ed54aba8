-- The figure of RFC 3550, appendix A.8 (document 02, P7).
use Rattle.std.specs.Prelude.{ℕ, ◌-◌, ◌^◌}

-- the largest jitter sum
abbrev pub max_sum : ℕ
max_sum = 2 ^ 35 - 8
