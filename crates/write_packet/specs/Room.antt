-- What the functions that write a packet ask of one another inside this crate: the lists of a packet as words, one after another.
use Rattle.std.specs.Prelude.{ℕ, ◌+◌, ◌-◌, ◌*◌, ◌%◌, ◌≤◌, ◌<◌, ◌≡◌, List, [], ◌∷◌, ◌++◌, true, false, length, take, drop}
use Rattle.rtp.specs.Editions.{Edition}
use Rattle.rtp.specs.Sizes.{row_width}
use Rattle.rtp.specs.Areas.{over}
use Rattle.rtp.specs.declared.settings.Settings.{Settings}
use Rattle.write_plan.specs.Lists.{rows_in, outside}
use Rattle.write_payload.specs.Writings.{Encoded, no_bytes, bytes_of, encoded, encoded_bytes}
use Rattle.write_sizes.specs.Asking.{askable}
use Rattle.write_parts.specs.Parts.{max_offset, max_block, parts}
use Rattle.write_parts.specs.Headings.{block_header_bytes}
use Rattle.write_parts.specs.declared.headers.Heading.{Heading}
use Rattle.write_parts.specs.ListSizes.{Counted, offset_of}
use Rattle.write_packet.specs.Packets.{assembled_from}

-- Lists

abbrev pub list_bytes : Edition → Settings → ℕ → List ℕ → List ℕ → List ℕ
list_bytes ed st request bytes ws = encoded_bytes (encoded ed st request bytes (rows_in ws))

unfoldable pub lists_payloads : Edition → Settings → ℕ → List ℕ → List ℕ → List ℕ → List ℕ
lists_payloads ed st request bytes [] ws = list_bytes ed st request bytes ws
lists_payloads ed st request bytes (n ∷ []) ws = list_bytes ed st request bytes ws
lists_payloads ed st request bytes (n ∷ m ∷ ns) ws = list_bytes ed st request bytes (take (row_width * n) ws) ++ lists_payloads ed st request bytes (m ∷ ns) (drop (row_width * n) ws)

abbrev pub list_header : Edition → Settings → ℕ → ℕ → List ℕ → List ℕ → List ℕ
list_header ed st request time bytes ws = block_header_bytes st.payload_type (offset_of time ws) (length (list_bytes ed st request bytes ws))

unfoldable pub lists_headers : Edition → Settings → ℕ → ℕ → List ℕ → List ℕ → List ℕ → List ℕ
lists_headers ed st request time bytes [] ws = st.payload_type ∷ []
lists_headers ed st request time bytes (n ∷ []) ws = st.payload_type ∷ []
lists_headers ed st request time bytes (n ∷ m ∷ ns) ws = list_header ed st request time bytes (take (row_width * n) ws) ++ lists_headers ed st request time bytes (m ∷ ns) (drop (row_width * n) ws)

-- the block headers of k lists
abbrev pub list_headers_size : ℕ → ℕ
list_headers_size k = 1 + 4 * (k - 1)

-- the numbers of a list's block header fit in it
pub record HeaderFits (ed : Edition) (st : Settings) (request time : ℕ) (bytes ws : List ℕ) : Type 0 where
  pub type : st.payload_type < 128
  pub near : offset_of time ws ≤ max_offset
  pub short : length (list_bytes ed st request bytes ws) ≤ max_block

abbrev pub HeadersFit : Edition → Settings → ℕ → ℕ → List ℕ → List ℕ → List ℕ → Type 0
HeadersFit ed st request time bytes [] ws = Unit {0}
HeadersFit ed st request time bytes (n ∷ []) ws = Unit {0}
HeadersFit ed st request time bytes (n ∷ m ∷ ns) ws = HeaderFits ed st request time bytes (take (row_width * n) ws) × HeadersFit ed st request time bytes (m ∷ ns) (drop (row_width * n) ws)

-- Areas

-- the area l with ws written over it from n on
unfoldable pub over_from : ℕ → List ℕ → List ℕ → List ℕ
over_from n ws l = take n l ++ over ws (drop n l)

-- a list inside its bytes, and room for its payload
pub record ListRoom (ed : Edition) (st : Settings) (request : ℕ) (bytes ws : List ℕ) (area : ℕ) : Type 0 where
  pub settings : askable ed st request ≡ true
  pub inside : outside (length bytes) (rows_in ws) ≡ false
  pub whole_rows : length ws % row_width ≡ 0
  pub room : length (list_bytes ed st request bytes ws) ≤ area

pub record PayloadsRoom (ed : Edition) (st : Settings) (request : ℕ) (bytes counts ws : List ℕ) (area : ℕ) : Type 0 where
  pub settings : askable ed st request ≡ true
  pub inside : outside (length bytes) (rows_in ws) ≡ false
  pub counted : Counted counts ws
  pub room : length (lists_payloads ed st request bytes counts ws) ≤ area

-- a redundant list whose header goes to the front of the area, and whose payload goes to `start`
pub record BlockRoom (ed : Edition) (st : Settings) (request time : ℕ) (bytes ws : List ℕ) (start area : ℕ) : Type 0 where
  pub fits : HeaderFits ed st request time bytes ws
  pub apart : 4 ≤ start
  pub inside : start ≤ area
  pub list : ListRoom ed st request bytes ws (area - start)

-- lists likewise, their payloads one after another
pub record BlocksRoom (ed : Edition) (st : Settings) (request time : ℕ) (bytes counts ws : List ℕ) (start area : ℕ) : Type 0 where
  pub fit : HeadersFit ed st request time bytes counts ws
  pub apart : list_headers_size (length counts) ≤ start
  pub inside : start ≤ area
  pub payloads : PayloadsRoom ed st request bytes counts ws (area - start)

-- Packets

abbrev pub BytesRoom : Encoded → ℕ → Type 0
BytesRoom (no_bytes r) area = ⊥
BytesRoom (bytes_of p) area = length p ≤ area

pub record PacketRoom (ed : Edition) (st : Settings) (request : ℕ) (h : Heading) (time : ℕ) (bytes counts ws : List ℕ) (area : ℕ) : Type 0 where
  pub settings : askable ed st request ≡ true
  pub inside : outside (length bytes) (rows_in ws) ≡ false
  pub counted : Counted counts ws
  pub some : 0 < length counts
  pub room : BytesRoom (assembled_from st h time (parts ed st request bytes time counts (rows_in ws))) area
