-- Document 02, P1: the mode request of a packet is that of its last payload with rows, plain or a block; `no_request` if there is none.
use Rattle.std.specs.Prelude.{ℕ, List, [], ◌∷◌, cond, length, drop, eqb}
use Rattle.read_headers.specs.Redundancy.{Headers, refused, headers_of, redundancy_headers, headers_size}
use Rattle.rtp.specs.declared.settings.Settings.{Settings}
use Rattle.read_payload.specs.Payloads.{no_request, request_of}
use Rattle.read_redundancy.specs.Blocks.{Block, cut}

-- that of a block of these bytes, after the request `found` before it: a block of another type and a block of length 0 have no rows
unfoldable pub block_request : Settings → ℕ → ℕ → List ℕ → ℕ
block_request st found type s = cond (eqb type st.payload_type) (cond (eqb (length s) 0) found (request_of st.format s)) found

-- the last of the blocks', one after another
unfoldable pub blocks_request : Settings → ℕ → List Block → ℕ
blocks_request st found [] = found
blocks_request st found (b ∷ bs) = blocks_request st (block_request st found b.type b.bytes) bs

-- of the redundancy payload s, whose block headers are these; where its blocks stand in the packet does not matter
abbrev pub split_request : Settings → List ℕ → Headers → ℕ
split_request st s (refused r) = no_request
split_request st s (headers_of bs type) = blocks_request st no_request (cut bs type 0 (drop (headers_size bs) s))

unfoldable pub redundant_request : Settings → List ℕ → ℕ
redundant_request st s = split_request st s (redundancy_headers s)

-- of the payload s of a packet of this type: the payload type, the redundancy type, or neither
unfoldable pub typed_request : Settings → ℕ → List ℕ → ℕ
typed_request st type s =
    cond (eqb type st.payload_type) (request_of st.format s)
    (cond (eqb type st.redundancy_type) (redundant_request st s) no_request)
