-- A table of contents and the frames after it.
use Rattle.std.specs.Prelude.{ℕ, ◌+◌, ◌*◌, cond, List, [], length, ◌==◌, nat_lt}
use Rattle.rtp.specs.Editions.{Edition}
use Rattle.rtp.specs.Sizes.{max_packet, row_width, row_area}
use Rattle.rtp.specs.Faults.{fault_at, fault}
use Rattle.rtp.specs.declared.refusal.Refusal.TheVariants.{PacketLength, LengthMismatch, AreaTooShort}
use Rattle.formats.specs.Frames.{step_of}
use Rattle.read_contents.specs.Contents.{Contents, refused, groups, contents, pass_first, size_in, frames_in}
use Rattle.read_rows.specs.Rows.{words, table_rows, marked}

-- a table and just the frames that it tells of, in n bytes; if they do not come out, the first byte after the table is at fault
abbrev pub exact : ℕ → ℕ → ℕ → Contents → Contents
exact format ch n (refused f) = refused f
exact format ch n (groups gs) = cond (size_in format gs + frames_in ch gs == n) (groups gs) (refused (fault_at (size_in format gs) LengthMismatch))

-- the table and the frames s at `at` in a packet, after `rows` rows of it, for an area of so many words: the area is asked first for all the rows that the
-- packet may have, then whether s lies in a packet
unfoldable pub fitting : Edition → ℕ → ℕ → ℕ → ℕ → ℕ → List ℕ → Contents
fitting ed format ch rows area at s =
    cond (nat_lt (row_width * rows + area) (row_area ed)) (refused (fault AreaTooShort))
    (cond (nat_lt max_packet (at + length s)) (refused (fault PacketLength))
    (exact format ch (length s) (pass_first (contents ed format ch rows s))))

-- the words of the rows of a table at `at`, heard with this mark; its frames start after it. None of a refusal
unfoldable pub fitting_words : ℕ → ℕ → ℕ → ℕ → ℕ → Contents → List ℕ
fitting_words mark format ch time at (refused f) = []
fitting_words mark format ch time at (groups gs) = words (marked mark (table_rows (step_of format) ch time (at + size_in format gs) gs))
