-- Document 01, "Checked table", lines 1 to 10, with the marks of document 02, P6: one claim over the definitions that the contracts cite.
use Rattle.std.specs.Prelude.{ℕ, ◌≤◌, ◌<◌, ◌≡◌, List, [], ◌∷◌, ◌++◌, true, false, length}
use Rattle.rtp.specs.Editions.{current}
use Rattle.rtp.specs.Sizes.{row_area}
use Rattle.rtp.specs.Ranges.{g719}
use Rattle.rtp.specs.Areas.{over}
use Rattle.rtp.specs.declared.settings.Settings.{Settings}
use Rattle.formats.specs.Frames.{sound}
use Rattle.row_tags.specs.Tags.{primary_mark}
use Rattle.read_rows.specs.Rows.{Row, words}
use Rattle.read_claims.specs.CheckedTable.{CheckedTable, plain_type, settings_of, packet_of, row}
use Rattle.buffer_copies.specs.declared.verdict.Verdict.TheVariants.{Late, Far, Repeated, Better, Inserted}
use Rattle.buffer_copies.specs.Sizes.{store_size}
use Rattle.buffer_copies.specs.Entries.{Entry, stored}
use Rattle.buffer_copies.specs.Verdicts.{Counts, no_counts, counted}
use Rattle.buffer_layout.specs.declared.buffer.Buffer.{Buffer}
use Rattle.buffer_layout.specs.Layout.{encode}
use Rattle.buffer_offer.specs.Calls.{new_call, count_numbers, OfferOutcome, offer_call}

-- G.719, mono and stereo
abbrev pub mono : Settings
mono = settings_of g719 1

abbrev pub stereo : Settings
stereo = settings_of g719 2

-- a packet of one frame-block at a time, with frames of 80 or of 120 bytes: L = 8 and L = 12
abbrev pub packet80 : ℕ → List ℕ → List ℕ
packet80 time frames = packet_of plain_type time (0x20 ∷ 0x01 ∷ frames)

abbrev pub packet120 : ℕ → List ℕ → List ℕ
packet120 time frames = packet_of plain_type time (0x30 ∷ 0x01 ∷ frames)

-- the buffer with nothing drawn and these entries, and with (0, 0) drawn last
abbrev pub holding : Settings → List Entry → Buffer
holding st es = encode st (record { entries = es; drawn = false; last_time = 0; last_channel = 0 })

abbrev pub after_zero : Settings → List Entry → Buffer
after_zero st es = encode st (record { entries = es; drawn = true; last_time = 0; last_channel = 0 })

-- sound at a time and channel, so many bytes in a slot, with a mark; and heard first-hand
abbrev pub entry_with : ℕ → ℕ → ℕ → ℕ → ℕ → Entry
entry_with mark time channel length slot = record { time = time; channel = channel; class = sound; length = length; slot = slot; primary = mark }

abbrev pub entry : ℕ → ℕ → ℕ → ℕ → Entry
entry time channel length slot = entry_with primary_mark time channel length slot

-- an offer that is not refused: how often each verdict was given, the buffer and the store left, and the rows read
abbrev pub comes_to : List ℕ → Counts → Buffer → List Row → List ℕ → OfferOutcome
comes_to rows counts b rs store = record { answer = count_numbers counts; buffer = b; rows = over (words rs) rows; store = store }

-- any bytes of such a length
abbrev pub Bytes : ℕ → (List ℕ → Type 0) → Type 0
Bytes n P = (frame : List ℕ) → length frame ≡ n → P frame

-- lines 8 to 10, whatever the row area and the store held before
pub record OfferLines (rows store : List ℕ) : Type 0 where
  -- a frame at time 0, offered to a fresh buffer, is held in slot 0, the front of the store: what lines 8 and 10 start from
  pub first_80 : Bytes 80 (λ f. offer_call current (new_call current mono).buffer (packet80 0 f) rows store
      ≡ comes_to rows (counted no_counts Inserted) (holding mono (entry 0 0 80 0 ∷ [])) (row 0 sound 0 14 80 ∷ []) (over f store))
  pub first_120 : Bytes 120 (λ g. offer_call current (new_call current mono).buffer (packet120 0 g) rows store
      ≡ comes_to rows (counted no_counts Inserted) (holding mono (entry 0 0 120 0 ∷ [])) (row 0 sound 0 14 120 ∷ []) (over g store))
  -- 8. Held {0}: 2147483647 is new, 2147483648 is far.
  pub new_ahead : Bytes 80 (λ f. offer_call current (holding mono (entry 0 0 80 0 ∷ [])) (packet80 2147483647 f) rows store
      ≡ comes_to rows (counted no_counts Inserted) (holding mono (entry 0 0 80 0 ∷ entry 2147483647 0 80 1 ∷ [])) (row 2147483647 sound 0 14 80 ∷ []) (stored store 1 f))
  pub far_ahead : Bytes 80 (λ f. offer_call current (holding mono (entry 0 0 80 0 ∷ [])) (packet80 2147483648 f) rows store
      ≡ comes_to rows (counted no_counts Far) (holding mono (entry 0 0 80 0 ∷ [])) (row 2147483648 sound 0 14 80 ∷ []) store)
  -- 9. Stereo, drawn (0, 0): (0, 0) late, (0, 1) new, (2147483648, 0) late. A stereo packet has both channels: (2147483648, 1) is late too.
  pub same_late : Bytes 80 (λ f. Bytes 80 (λ g. offer_call current (after_zero stereo []) (packet80 0 (f ++ g)) rows store
      ≡ comes_to rows (counted (counted no_counts Late) Inserted) (after_zero stereo (entry 0 1 80 0 ∷ [])) (row 0 sound 0 14 80 ∷ row 0 sound 1 94 80 ∷ []) (over g store)))
  pub half_late : Bytes 80 (λ f. Bytes 80 (λ g. offer_call current (after_zero stereo []) (packet80 2147483648 (f ++ g)) rows store
      ≡ comes_to rows (counted (counted no_counts Late) Late) (after_zero stereo []) (row 2147483648 sound 0 14 80 ∷ row 2147483648 sound 1 94 80 ∷ []) store))
  -- 10. Held 80 bytes, offered 120 for the same pair: better, and the new frame lies in the entry's own slot. Held 120, offered 80: repeat, and nothing changes
  -- but, perhaps, the mark: whether the entry was marked or not, it is marked then, since these packets are heard first-hand.
  pub longer_better : (mark : ℕ) → mark < 2 → Bytes 80 (λ f. Bytes 120 (λ g. offer_call current (holding mono (entry_with mark 0 0 80 0 ∷ [])) (packet120 0 g) rows (over f store)
      ≡ comes_to rows (counted no_counts Better) (holding mono (entry 0 0 120 0 ∷ [])) (row 0 sound 0 14 120 ∷ []) (over g (over f store))))
  pub shorter_repeated : (mark : ℕ) → mark < 2 → Bytes 120 (λ g. Bytes 80 (λ f. offer_call current (holding mono (entry_with mark 0 0 120 0 ∷ [])) (packet80 0 f) rows (over g store)
      ≡ comes_to rows (counted no_counts Repeated) (holding mono (entry 0 0 120 0 ∷ [])) (row 0 sound 0 14 80 ∷ []) (over g store)))

pub record WholeTable : Type 0 where
  -- 1 to 7
  pub reading : CheckedTable
  -- 8 to 10
  pub offers : (rows store : List ℕ) → row_area current ≤ length rows → store_size ≤ length store → OfferLines rows store
