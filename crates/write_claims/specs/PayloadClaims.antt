-- Demand 2's sentence on writing, as claims: a frame list is written as a plain payload that reads back to it, and is refused exactly if no plain payload
-- within 2,036 bytes does, or the area is too short. (Settings out of range and rows outside the bytes are refused before, with 11 and 14.)
use Rattle.std.specs.Prelude.{ℕ, ◌%◌, ◌≤◌, ◌<◌, ◌≡◌, ◌↔◌, List, ◌∷◌, ◌++◌, true, false, length, drop}
use Rattle.rtp.specs.Editions.{Edition}
use Rattle.rtp.specs.Numbers.{byte_at}
use Rattle.rtp.specs.Ranges.{in_range}
use Rattle.rtp.specs.declared.settings.Settings.{Settings}
use Rattle.rtp.specs.declared.refusal.Refusal.TheVariants.{Unwritable, AreaTooShort}
use Rattle.formats.specs.Formats.{format_of}
use Rattle.read_contents.specs.Contents.{min_entry, Group, groups, half_at, contents, size_in}
use Rattle.read_payload.specs.Payloads.{body, request_of}
use Rattle.write_plan.specs.Lists.{rows_in, outside}
use Rattle.write_plan.specs.Plans.{max_payload}
use Rattle.write_payload.specs.Writings.{no_bytes, bytes_of, encoded, writing, encoded_numbers}
use Rattle.write_sizes.specs.Measures.{measured}
use Rattle.write_sizes.specs.Asking.{max_request, askable}
use Rattle.write_claims.specs.Marks.{cleared, BitAbove}
use Rattle.write_claims.specs.ReadingBack.{Bytes, Words, read_request, ReadsTo}

-- Round trip: whatever is written is a payload of at most 2,036 bytes that reads back to the list and to the mode request
abbrev pub RoundTrip : Edition → Type 0
RoundTrip ed = (st : Settings) (request : ℕ) (ws bytes : List ℕ) (area : ℕ) (p : List ℕ) → Words ws
    → writing ed st request ws bytes area ≡ bytes_of p
    → (length p ≤ max_payload) × ReadsTo ed st p bytes ws × (request_of st.format p ≡ read_request st.format request)

-- Writing

-- p is the list's payload, which no area changes: bytes, at most 2,036 of them, and it reads back to the list and to the mode request
pub record PayloadOf (ed : Edition) (st : Settings) (request : ℕ) (ws bytes p : List ℕ) : Type 0 where
  pub canonical : encoded ed st request bytes (rows_in ws) ≡ bytes_of p
  pub made : Bytes p
  pub short : length p ≤ max_payload
  pub reads : ReadsTo ed st p bytes ws
  pub request_read : request_of st.format p ≡ read_request st.format request

-- the list has a payload, and the area is shorter
pub record Longer (ed : Edition) (st : Settings) (request : ℕ) (ws bytes : List ℕ) (area : ℕ) : Type 0 where
  pub payload : List ℕ
  pub of_list : PayloadOf ed st request ws bytes payload
  pub longer : area < length payload

-- no bytes of at most 2,036 are a plain payload that reads to the list, whatever their mode request
abbrev pub Unreadable : Edition → Settings → List ℕ → List ℕ → Type 0
Unreadable ed st ws bytes = (p : List ℕ) → Bytes p → length p ≤ max_payload → ReadsTo ed st p bytes ws → ⊥

-- the three answers: the payload, 13 and 12
pub data Answer (ed : Edition) (st : Settings) (request : ℕ) (ws bytes : List ℕ) (area : ℕ) : Type 0 where
  written : (p : List ℕ) → writing ed st request ws bytes area ≡ bytes_of p → Answer ed st request ws bytes area
  unwritable : writing ed st request ws bytes area ≡ no_bytes Unwritable → Answer ed st request ws bytes area
  too_short : writing ed st request ws bytes area ≡ no_bytes AreaTooShort → Answer ed st request ws bytes area

-- one of them is given, and each exactly where it is due; no two are, as `writing` is one value
pub record Demand2 (ed : Edition) (st : Settings) (request : ℕ) (ws bytes : List ℕ) (area : ℕ) : Type 0 where
  pub answers : Answer ed st request ws bytes area
  pub written_exactly : (p : List ℕ) → (writing ed st request ws bytes area ≡ bytes_of p) ↔ (PayloadOf ed st request ws bytes p × (length p ≤ area))
  pub unwritable_exactly : (writing ed st request ws bytes area ≡ no_bytes Unwritable) ↔ Unreadable ed st ws bytes
  pub too_short_exactly : (writing ed st request ws bytes area ≡ no_bytes AreaTooShort) ↔ Longer ed st request ws bytes area

-- Writing: under settings and a mode request in range and with every row inside its bytes (else it is 11 or 14, by the definition of `writing`)
abbrev pub Writing : Edition → Type 0
Writing ed = (st : Settings) (request : ℕ) (ws bytes : List ℕ) (area : ℕ) → Words ws → Bytes bytes → askable ed st request ≡ true → outside (length bytes) (rows_in ws) ≡ false
    → Demand2 ed st request ws bytes area

-- Measuring

-- measuring answers what writing does where the area is no shorter than the count measured, and writing gives 12 exactly where it is
pub record Measures (ed : Edition) (st : Settings) (request : ℕ) (ws bytes : List ℕ) (area : ℕ) : Type 0 where
  pub enough : (measured ed st ws).count ≤ area → encoded_numbers (writing ed st request ws bytes area) ≡ measured ed st ws
  pub too_short : (writing ed st request ws bytes area ≡ no_bytes AreaTooShort) ↔ (area < (measured ed st ws).count)

-- whatever the settings; measuring asks neither for a mode request nor that every row lies inside its bytes
abbrev pub Measuring : Edition → Type 0
Measuring ed = (st : Settings) (request : ℕ) (ws bytes : List ℕ) (area : ℕ) → request ≤ max_request → outside (length bytes) (rows_in ws) ≡ false
    → Measures ed st request ws bytes area

-- Marks that are ignored

-- whether rows are given as heard first-hand makes no difference (document 02, P6): words are written and measured as the same with bit 16 of each row's
-- second word cleared are
abbrev pub MarkIgnored : Edition → Type 0
MarkIgnored ed = (st : Settings) (request : ℕ) (ws bytes : List ℕ) (area : ℕ)
    → (writing ed st request (cleared ws) bytes area ≡ writing ed st request ws bytes area) × (measured ed st (cleared ws) ≡ measured ed st ws)

-- that one bit alone is: with a bit above it a row is of no class, and its list is 13
abbrev pub BitAboveRefused : Edition → Type 0
BitAboveRefused ed = (st : Settings) (request : ℕ) (ws bytes : List ℕ) (area : ℕ) → askable ed st request ≡ true → outside (length bytes) (rows_in ws) ≡ false
    → BitAbove ws → writing ed st request ws bytes area ≡ no_bytes Unwritable

-- Bits that are 0

-- the first displacement, DIS1, of the entry at the front of s: the high half of the byte after the entry's code and count
abbrev pub first_displacement : ℕ → List ℕ → ℕ
first_displacement format s = half_at (drop (min_entry format) s) 0

-- the entry of n frame-blocks at the front of s: reserved bits are 0, and with displacements the padding bits after an odd number of them
pub record Zeros (format n : ℕ) (s : List ℕ) : Type 0 where
  pub reserved : byte_at s 0 % (format_of format).unit ≡ 0
  pub padding : (format_of format).displaced ≡ true → n % 2 ≡ 1 → half_at (drop (min_entry format) s) n ≡ 0

-- in the payload of a list, which `write_payload` gives alone and `write_packet` as a block, these bits are 0 in each entry g of the table as it is read,
-- whatever the entries before and after it
abbrev pub ZeroBits : Edition → Type 0
ZeroBits ed = (st : Settings) (request : ℕ) (ws bytes p : List ℕ) → Words ws → in_range ed st ≡ true → encoded ed st request bytes (rows_in ws) ≡ bytes_of p
    → (before : List Group) (g : Group) (after : List Group) → contents ed st.format st.channels 0 (body st.format p) ≡ groups (before ++ g ∷ after)
    → Zeros st.format (length g.gaps) (drop (size_in st.format before) (body st.format p))

-- the first entry's DIS1 is 0 too. That a later entry's is the number of frame-blocks between the groups is what reading makes of it (payload: passFirst, and
-- Writing: the payload reads back to the list, its times included)
abbrev pub FirstDisplacement : Edition → Type 0
FirstDisplacement ed = (st : Settings) (request : ℕ) (ws bytes p : List ℕ) → Words ws → in_range ed st ≡ true → encoded ed st request bytes (rows_in ws) ≡ bytes_of p
    → (format_of st.format).displaced ≡ true → first_displacement st.format (body st.format p) ≡ 0

-- and so are the reserved bits after the mode request, where a payload has one
abbrev pub RequestBits : Edition → Type 0
RequestBits ed = (st : Settings) (request : ℕ) (ws bytes p : List ℕ) → encoded ed st request bytes (rows_in ws) ≡ bytes_of p
    → ((format_of st.format).header ≡ 0 → ⊥) → byte_at p 0 % 16 ≡ 0
