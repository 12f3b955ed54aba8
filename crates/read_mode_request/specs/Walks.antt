-- The mode request by the block headers, as the walk over them finds it.
use Rattle.std.specs.Prelude.{ℕ, List}
use Rattle.read_headers.specs.Redundancy.{Headers, refused, headers_of, headers}
use Rattle.rtp.specs.declared.settings.Settings.{Settings}
use Rattle.read_payload.specs.Payloads.{no_request}
use Rattle.read_redundancy.specs.Blocks.{cut}
use Rattle.read_mode_request.specs.Requests.{blocks_request}

-- the mode request of the blocks whose headers are these, or stand at the front of h, and whose bytes are d, after the request `found`
abbrev pub headed_request : Settings → ℕ → List ℕ → Headers → ℕ
headed_request st found d (refused r) = no_request
headed_request st found d (headers_of bs type) = blocks_request st found (cut bs type 0 d)

unfoldable pub request_from : Settings → ℕ → List ℕ → List ℕ → ℕ
request_from st found h d = headed_request st found d (headers h)
