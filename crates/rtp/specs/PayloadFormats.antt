-- The payload formats by their numbers in settings.
use Rattle.std.specs.Prelude.{◌≡◌, ℕ, Result, MatchResult}
use Rattle.rtp.specs.Ranges.{g719, g719_interleaved, gsm_hr, amr, amr_wb}
use Rattle.rtp.specs.declared.payload_format.PayloadFormat.{PayloadFormat}
use Rattle.rtp.specs.declared.payload_format.PayloadFormat.TheVariants.{G719, G719Interleaved, GsmHr, Amr, AmrWb}
use Rattle.rtp.specs.declared.payload_format.UnknownFormat.{UnknownFormat}

abbrev pub format_number : PayloadFormat → ℕ
format_number G719 = g719
format_number G719Interleaved = g719_interleaved
format_number GsmHr = gsm_hr
format_number Amr = amr
format_number AmrWb = amr_wb

-- the format with this number, or an error with a number that no format has
abbrev pub IsNumbered : ℕ → Result PayloadFormat UnknownFormat → Type 0
IsNumbered n r = MatchResult r (λ format. format_number format ≡ n) (λ e. (e.0 ≡ n) × ((format : PayloadFormat) → format_number format ≡ n → ⊥))
