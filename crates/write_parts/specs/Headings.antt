-- A packet's header and a redundant block's header, written.
use Rattle.std.specs.Prelude.{ℕ, ◌+◌, ◌*◌, ◌/◌, ◌%◌, List, [], ◌∷◌, ◌++◌, cond, ltb, leb, eqb}
use Rattle.rtp.specs.Numbers.{two, four}
use Rattle.rtp.specs.Areas.{fitted}
use Rattle.write_parts.specs.Parts.{max_offset, max_block}
use Rattle.write_parts.specs.declared.headers.Heading.{Heading}

abbrev pub marker_bit : ℕ → ℕ
marker_bit m = cond (eqb m 0) 0 128

-- the twelve bytes of a header with no CC, X or P
abbrev pub header_bytes : Heading → ℕ → ℕ → List ℕ
header_bytes h type time = 128 ∷ (marker_bit h.marker + type) ∷ (two h.sequence ++ (four time ++ four h.source))

-- the four bytes of a redundant block's header: F and type, offset 14 bits, length 10 bits
abbrev pub block_header_bytes : ℕ → ℕ → ℕ → List ℕ
block_header_bytes type offset size = (128 + type) ∷ (offset / 64) ∷ (4 * (offset % 64) + size / 256) ∷ (size % 256) ∷ []

-- the area with them over its front; where a number does not fit in its bits, or the header in the area, it stays as it stood
unfoldable pub with_header : Heading → ℕ → ℕ → List ℕ → List ℕ
with_header h type time l = cond (ltb type 128) (fitted (header_bytes h type time) l) l

unfoldable pub with_block_header : ℕ → ℕ → ℕ → List ℕ → List ℕ
with_block_header type offset size l =
    cond (ltb type 128) (cond (leb offset max_offset) (cond (leb size max_block) (fitted (block_header_bytes type offset size) l) l) l) l
