-- Numbers modulo 2^32 read as signed. `pos n` is n and `negsuc n` is -(n + 1); `nat_abs` is the size of either.
use Rattle.std.specs.Prelude.{ℕ, suc, ◌-◌, ◌^◌, cond, ℤ, pos, negsuc, nat_lt}

-- from 2^31 on a number stands for itself less 2^32
unfoldable pub signed : ℕ → ℤ
signed x = cond (nat_lt x (2 ^ 31)) (pos x) (negsuc (2 ^ 32 - suc x))
