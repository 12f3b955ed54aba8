-- Demand 2 of packets, as a claim: a packet that is written reads back.
use Rattle.std.specs.Prelude.{ℕ, ◌/◌, ◌≤◌, ◌<◌, ◌^◌, ◌≡◌, List, true, false, length}
use Rattle.rtp.specs.Editions.{Edition}
use Rattle.rtp.specs.Sizes.{row_area}
use Rattle.rtp.specs.declared.settings.Settings.{Settings}
use Rattle.read_headers.specs.declared.header.Header.{Header}
use Rattle.rtp.specs.declared.refusal.Refusal.TheVariants.{Unwritable}
use Rattle.read_rows.specs.Rows.{Row}
use Rattle.read_packet.specs.Readings.{read_as, reading}
use Rattle.write_plan.specs.Lists.{rows_in, outside}
use Rattle.write_payload.specs.Writings.{no_bytes, bytes_of}
use Rattle.write_sizes.specs.Asking.{askable}
use Rattle.write_parts.specs.Parts.{primary_time}
use Rattle.write_packet.specs.Packets.{sending}
use Rattle.write_parts.specs.Headings.{marker_bit}
use Rattle.write_parts.specs.declared.headers.Heading.{Heading}
use Rattle.write_claims.specs.Marks.{PrimaryLast, cleared, BitAbove}
use Rattle.write_claims.specs.ReadingBack.{Words, read_request, SameFrames}

-- reading the packet p gives the lists' rows in order, starts and marks aside, and the marker, sequence, timestamp, source and mode request given; the rows
-- of the last list, and no others, come back with the mark of what was heard first-hand
pub record ReadsBack (ed : Edition) (st : Settings) (request : ℕ) (h : Heading) (counts ws bytes p : List ℕ) (area : ℕ) : Type 0 where
  pub head : Header
  pub rows : List Row
  pub read : reading ed st area p ≡ read_as head rows (read_request st.format request)
  pub same : SameFrames p bytes rows (rows_in ws)
  pub heard : PrimaryLast counts rows
  pub marker : head.marker ≡ marker_bit h.marker / 128
  pub sequence : head.sequence ≡ h.sequence
  pub timestamp : head.timestamp ≡ primary_time counts (rows_in ws)
  pub source : head.source ≡ h.source

-- Round trip of packets, under the same settings, into any row area of the edition's size or more
abbrev pub PacketRoundTrip : Edition → Type 0
PacketRoundTrip ed = (st : Settings) (request : ℕ) (h : Heading) (counts ws bytes : List ℕ) (area rows : ℕ) (p : List ℕ)
    → Words ws → h.sequence < 2 ^ 16 → h.source < 2 ^ 32 → row_area ed ≤ rows
    → sending ed st request h counts ws bytes area ≡ bytes_of p → ReadsBack ed st request h counts ws bytes p rows

-- The mark that rows are given with is ignored (document 02, P6): words are written as the same with bit 16 of each row's second word cleared are
abbrev pub PacketMarkIgnored : Edition → Type 0
PacketMarkIgnored ed = (st : Settings) (request : ℕ) (h : Heading) (counts ws bytes : List ℕ) (area : ℕ)
    → sending ed st request h counts (cleared ws) bytes area ≡ sending ed st request h counts ws bytes area

-- and with a bit above it in some row the packet is 13
abbrev pub PacketBitAboveRefused : Edition → Type 0
PacketBitAboveRefused ed = (st : Settings) (request : ℕ) (h : Heading) (counts ws bytes : List ℕ) (area : ℕ) → askable ed st request ≡ true → outside (length bytes) (rows_in ws) ≡ false
    → BitAbove ws → sending ed st request h counts ws bytes area ≡ no_bytes Unwritable
