-- What a writer is asked with: settings and a mode request; and the byte of a mode request.
use Rattle.std.specs.Prelude.{ℕ, ◌*◌, List, [], ◌∷◌, Bool, false, cond, ltb, eqb}
use Rattle.rtp.specs.Editions.{Edition}
use Rattle.rtp.specs.Ranges.{in_range}
use Rattle.rtp.specs.declared.settings.Settings.{Settings}
use Rattle.formats.specs.Formats.{format_of}

-- the largest mode request: it has 4 bits
abbrev pub max_request : ℕ
max_request = 15

-- what a writer is asked with is in range: a mode request over 15 is a setting out of range in every format (document 02, P1)
unfoldable pub askable : Edition → Settings → ℕ → Bool
askable ed st request = cond (ltb max_request request) false (in_range ed st)

-- the bytes before the table: none, or the mode request in the high half of one byte, with four reserved bits after it (RFC 4867's payload header)
unfoldable pub request_bytes : ℕ → ℕ → List ℕ
request_bytes format request = cond (eqb (format_of format).header 0) [] (16 * request ∷ [])
