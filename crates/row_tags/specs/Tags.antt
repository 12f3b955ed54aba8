-- Document 01, "A row is", and document 02, P6: a row's second word, 65,536 × mark + 256 × class (document 01: sort) + channel, packed and unpacked. The mark,
-- bit 16, says that a row was heard first-hand. Bits above it belong to the class: no format has such a class.
use Rattle.std.specs.Prelude.{ℕ, ◌+◌, ◌-◌, ◌*◌, ◌/◌, ◌%◌, cond, eqb}

-- the mark of what was heard first-hand (RFC 2198: the primary block, or a plain payload), and of a redundant block
abbrev pub primary_mark : ℕ
primary_mark = 1

abbrev pub redundant_mark : ℕ
redundant_mark = 0

abbrev pub tag_of : ℕ → ℕ → ℕ → ℕ
tag_of mark class channel = 65536 * mark + (256 * class + channel)

abbrev pub tag_mark : ℕ → ℕ
tag_mark tag = tag / 65536 % 2

abbrev pub tag_class : ℕ → ℕ
tag_class tag = tag / 256 - 256 * tag_mark tag

abbrev pub tag_channel : ℕ → ℕ
tag_channel tag = tag % 256

-- either was heard first-hand
abbrev pub either_mark : ℕ → ℕ → ℕ
either_mark a b = cond (eqb a redundant_mark) b a

-- a tag, marked if it or the other one is
abbrev pub joined_tag : ℕ → ℕ → ℕ
joined_tag tag other = tag_of (either_mark (tag_mark tag) (tag_mark other)) (tag_class tag) (tag_channel tag)
