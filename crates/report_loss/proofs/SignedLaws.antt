-- Numbers modulo 2^32 read as signed, as the machine reads and writes them.
use Rattle.std.proofs.Common.{◌≡◌, ℕ, ◌^◌, ltb, ℤ, w32, SFits, to_z, of_z}
use mir.ValLaws.{to_z-of_z}
use Rattle.rtp.proofs.TestLaws.{by-test}
use Rattle.report_loss.specs.Signed.{signed}

-- the bits read as signed
pub signed_bits : (x : ℕ) → to_z w32 x ≡ signed x
unfolding signed
signed_bits x = by-test (ltb x (2 ^ 31)) (λ t. rw t) (λ t. rw t)

-- what the machine reads back from the bits of x
abbrev pub back : ℤ → ℤ
back x = to_z w32 (of_z w32 x)

-- it is x, since it fits
pub same : (x : ℤ) → SFits w32 x → back x ≡ x
same x h = to_z-of_z w32 x h
