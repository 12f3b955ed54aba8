-- Laws of tags: what is packed is unpacked, and the other way round.
use mathlib.Core.Path.{◌≡◌}
use Prim.Native.Nat.{ℕ, ◌+◌, ◌*◌, ◌<◌}
use native.Mathlib.Omega.{arith}
use lib.Dec.{eqb}
use borrow.Author.Tests.{eq-eqb, ne_eqb}
use Rattle.rtp.proofs.TestLaws.{by-test}
use Rattle.row_tags.specs.Tags.{tag_of, tag_mark, tag_class, tag_channel, either_mark}

-- any tag by its parts
pub of_parts : (tag : ℕ) → tag_of (tag_mark tag) (tag_class tag) (tag_channel tag) ≡ tag
of_parts tag = omega arith

-- the parts of a tag
pub mark_of : (mark class channel : ℕ) → mark < 2 → class < 256 → channel < 256 → tag_mark (tag_of mark class channel) ≡ mark
mark_of mark class channel m c d = omega arith

pub class_of : (mark class channel : ℕ) → mark < 2 → class < 256 → channel < 256 → tag_class (tag_of mark class channel) ≡ class
class_of mark class channel m c d = omega arith

pub channel_of : (mark class channel : ℕ) → channel < 256 → tag_channel (tag_of mark class channel) ≡ channel
channel_of mark class channel d = omega arith

pub mark_small : (tag : ℕ) → tag_mark tag < 2
mark_small tag = omega arith

-- a tag joined with another's mark
pub joined_other : (tag other m : ℕ) → tag_mark tag ≡ 0 → m ≡ tag_mark other
    → tag + 65536 * m ≡ tag_of (either_mark (tag_mark tag) (tag_mark other)) (tag_class tag) (tag_channel tag)
joined_other tag other m h e = rw (eq-eqb (tag_mark tag) 0 h) (omega (arith, h, e))

pub joined_own : (tag other : ℕ) → (tag_mark tag ≡ 0 → ⊥) → tag ≡ tag_of (either_mark (tag_mark tag) (tag_mark other)) (tag_class tag) (tag_channel tag)
joined_own tag other h = rw (ne_eqb (tag_mark tag) 0 h) (omega arith)

pub either_small : (a b : ℕ) → a < 2 → b < 2 → either_mark a b < 2
either_small a b h k = by-test (eqb a 0) (λ z. rw z k) (λ z. rw z h)
