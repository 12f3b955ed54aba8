-- Laws of the headers and the payloads of a packet's lists: of one list, and of a first list and the others.
use mathlib.Core.Path.{◌≡◌, refl}
use mathlib.Core.List.{List, [], ◌∷◌, ◌++◌}
use Prim.Native.Nat.{ℕ, ◌*◌, ◌≤◌, ◌<◌}
use native.Mathlib.Omega.{arith}
use lib.ListN.{length, get_or, take, drop}
use Rattle.rtp.specs.Editions.{Edition}
use Rattle.rtp.specs.Sizes.{row_width}
use Rattle.rtp.specs.declared.settings.Settings.{Settings}
use Rattle.write_packet.specs.Room.{list_bytes, lists_payloads, list_header, lists_headers, list_headers_size, HeaderFits, HeadersFit}

module _ (ed : Edition) (st : Settings) (request time : ℕ) (bytes : List ℕ) where
  -- The headers

  pub headers_one : (counts ws : List ℕ) → length counts < 2 → lists_headers ed st request time bytes counts ws ≡ st.payload_type ∷ []
  unfolding lists_headers
  headers_one [] ws h = refl
  headers_one (n ∷ []) ws h = refl
  headers_one (n ∷ m ∷ ns) ws h = absurd (omega arith)

  pub headers_more : (counts ws : List ℕ) → 2 ≤ length counts → let n = row_width * get_or counts 0 0 in
      lists_headers ed st request time bytes counts ws ≡ list_header ed st request time bytes (take n ws) ++ lists_headers ed st request time bytes (drop 1 counts) (drop n ws)
  unfolding lists_headers
  headers_more [] ws h = absurd (omega arith)
  headers_more (n ∷ []) ws h = absurd (omega arith)
  headers_more (n ∷ m ∷ ns) ws h = refl

  pub length_headers : (counts ws : List ℕ) → length (lists_headers ed st request time bytes counts ws) ≡ list_headers_size (length counts)
  unfolding lists_headers
  length_headers [] ws = refl
  length_headers (n ∷ []) ws = refl
  length_headers (n ∷ m ∷ ns) ws = omega (arith, length_headers (m ∷ ns) (drop (row_width * n) ws))

  pub fit_more : (counts ws : List ℕ) → 2 ≤ length counts → HeadersFit ed st request time bytes counts ws
      → let n = row_width * get_or counts 0 0 in HeaderFits ed st request time bytes (take n ws) × HeadersFit ed st request time bytes (drop 1 counts) (drop n ws)
  fit_more [] ws h f = absurd (omega arith)
  fit_more (n ∷ []) ws h f = absurd (omega arith)
  fit_more (n ∷ m ∷ ns) ws h f = f

-- The payloads

module _ (ed : Edition) (st : Settings) (request : ℕ) (bytes : List ℕ) where
  pub payloads_one : (counts ws : List ℕ) → length counts < 2 → lists_payloads ed st request bytes counts ws ≡ list_bytes ed st request bytes ws
  unfolding lists_payloads
  payloads_one [] ws h = refl
  payloads_one (n ∷ []) ws h = refl
  payloads_one (n ∷ m ∷ ns) ws h = absurd (omega arith)

  pub payloads_more : (counts ws : List ℕ) → 2 ≤ length counts → let n = row_width * get_or counts 0 0 in
      lists_payloads ed st request bytes counts ws ≡ list_bytes ed st request bytes (take n ws) ++ lists_payloads ed st request bytes (drop 1 counts) (drop n ws)
  unfolding lists_payloads
  payloads_more [] ws h = absurd (omega arith)
  payloads_more (n ∷ []) ws h = absurd (omega arith)
  payloads_more (n ∷ m ∷ ns) ws h = refl
