-- Document 01, "Refusal numbers", and document 02, P3: 17 cut field, 18 tag in the wrong place or missing, 19 content not allowed by the settings, 20 wrong
-- count.
use Rattle.std.specs.Prelude.{ℕ}
use Rattle.rtp.specs.declared.refusal.Refusal.{Refusal}
use Rattle.rtp.specs.declared.refusal.Refusal.TheVariants.{PacketLength, Version, HeaderTruncated, PaddingCount, UnknownPayloadType, ContentsTruncated, ReservedCode, NoFrameBlocks, TooManyRows, LengthMismatch, SettingsOutOfRange, AreaTooShort, Unwritable, RowOutsideBytes, Malformed, CutField, MisplacedTag, NotAllowed, WrongCount}

-- the number of each reason; an answer that is no refusal has the number 0
abbrev pub number : Refusal → ℕ
number PacketLength = 1
number Version = 2
number HeaderTruncated = 3
number PaddingCount = 4
number UnknownPayloadType = 5
number ContentsTruncated = 6
number ReservedCode = 7
number NoFrameBlocks = 8
number TooManyRows = 9
number LengthMismatch = 10
number SettingsOutOfRange = 11
number AreaTooShort = 12
number Unwritable = 13
number RowOutsideBytes = 14
number Malformed = 15
number CutField = 17
number MisplacedTag = 18
number NotAllowed = 19
number WrongCount = 20
