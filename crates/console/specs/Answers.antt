-- What can be said of answers that come from the operating system.
use Rattle.std.specs.Prelude.{ℕ, ◌<◌, ◌≤◌, ◌≡◌, List, Bool, true, length, Option, Some, None, Result, Ok, Err}
use denote.Bor.{Bor}
use Rattle.rtp.specs.Editions.{current}
use Rattle.rtp.specs.Ranges.{in_range}
use Rattle.rtp.specs.declared.settings.Settings.{Settings}
use Rattle.console.specs.declared.standard_input.NotRead.{NotRead}

-- settings that the arguments ask for are in range
abbrev pub InRange : Option Settings → Type 0
InRange (Some s) = in_range current s ≡ true
InRange None = Unit

-- a word that is found among the arguments has 1 to 16 bytes
abbrev pub WordSized : Bool → List ℕ → Type 0
WordSized found word = found ≡ true → (1 ≤ length word) × (length word ≤ 16)

-- a packet's length is a 16-bit number
abbrev pub Short : Option (Bor (List ℕ)) → Type 0
Short (Some p) = length p.now < 65536
Short None = Unit

-- what is read into an area of so many bytes is not more
abbrev pub Within : Result (Bor (List ℕ)) NotRead → ℕ → Type 0
Within (Ok bytes) size = length bytes.now ≤ size
Within (Err why) size = Unit
