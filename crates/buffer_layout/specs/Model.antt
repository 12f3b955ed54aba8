-- Document 01, "The take": what a reorder buffer holds, however it is laid out; and when that is well-formed (document 01: sound), clause by clause.
use Rattle.std.specs.Prelude.{ℕ, List, [], ◌∷◌, Bool, true, cond, not, ◌&&◌, ltb, eqb}
use Rattle.rtp.specs.declared.settings.Settings.{Settings}
use Rattle.frame_codes.specs.Allowed.{allowed}
use Rattle.buffer_copies.specs.Sizes.{slots}
use Rattle.buffer_copies.specs.Pairs.{order, is_after}
use Rattle.buffer_copies.specs.Entries.{Entry, Held, side_of_entry, slot_used}
use Rattle.buffer_copies.specs.Verdicts.{all_within}

-- the settings, and the entries in time order with the last pair drawn; the store goes beside it
pub record Model : Type 0 where
  pub settings : Settings
  pub held : Held

-- entries strictly ascending
unfoldable pub ascending : List Entry → Bool
ascending [] = true
ascending (e ∷ []) = true
ascending (e ∷ f ∷ es) = is_after (side_of_entry f e) && ascending (f ∷ es)

-- their times within a stretch under 2^31 ticks, which starts with the first
abbrev pub in_stretch : List Entry → Bool
in_stretch [] = true
in_stretch (e ∷ es) = all_within e.time (e ∷ es)

-- slots distinct, each one of the 192
unfoldable pub slots_apart : List Entry → Bool
slots_apart [] = true
slots_apart (e ∷ es) = ltb e.slot slots && not (slot_used e.slot es) && slots_apart es

-- after the last pair drawn, if any
abbrev pub after_last : Held → Entry → Bool
after_last h e = cond h.drawn (is_after (order e.time e.channel h.last_time h.last_channel)) true

-- class and length as the format allows, the channel in range, a mark of 0 or 1, all after the last pair drawn
abbrev pub entry_fine : Model → Entry → Bool
entry_fine m e = allowed m.settings.format e.class e.length && ltb e.channel m.settings.channels && ltb e.primary 2 && after_last m.held e

unfoldable pub entries_fine : Model → List Entry → Bool
entries_fine m [] = true
entries_fine m (e ∷ es) = entry_fine m e && entries_fine m es

-- the last pair's channel in range too; no pair drawn yet is kept as zeros
abbrev pub last_fine : Settings → Bool → ℕ → ℕ → Bool
last_fine st drawn time channel = cond drawn (ltb channel st.channels) (eqb time 0 && eqb channel 0)

unfoldable pub fine : Model → Bool
fine m =
    let h = m.held in
    let es = h.entries in
    ascending es && in_stretch es && slots_apart es && entries_fine m es && last_fine m.settings h.drawn h.last_time h.last_channel
