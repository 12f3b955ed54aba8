-- The lists of a packet as words, one after another: their sizes.
use Rattle.std.specs.Prelude.{ℕ, ◌+◌, ◌*◌, ◌≡◌, List, [], ◌∷◌, cond, length, get_or, take, drop, ltb, eqb}
use Rattle.rtp.specs.Editions.{Edition}
use Rattle.rtp.specs.Sizes.{min_packet, max_packet, row_width}
use Rattle.rtp.specs.Ranges.{no_redundancy}
use Rattle.rtp.specs.Time.{difference}
use Rattle.rtp.specs.declared.settings.Settings.{Settings}
use Rattle.rtp.specs.declared.refusal.Refusal.TheVariants.{Unwritable}
use Rattle.write_plan.specs.Lists.{rows_in, first_time}
use Rattle.write_sizes.specs.Measures.{Numbers, refused_numbers, measured}
use Rattle.write_parts.specs.Parts.{max_redundant, max_offset, max_block, total}

-- the words are the lists' rows
abbrev pub Counted : List ℕ → List ℕ → Type 0
Counted counts ws = length ws ≡ row_width * total counts

-- the words of the first list, at most all
unfoldable pub first_words : List ℕ → List ℕ → ℕ
first_words counts ws = cond (ltb (length ws) (row_width * get_or counts 0 0)) (length ws) (row_width * get_or counts 0 0)

-- how far before `time` the list stands
abbrev pub offset_of : ℕ → List ℕ → ℕ
offset_of time ws = difference time (first_time (rows_in ws))

-- the bytes that a redundant list takes, its block header too
unfoldable pub redundant_numbers : Edition → Settings → ℕ → List ℕ → Numbers
redundant_numbers ed st time ws =
    cond (eqb (measured ed st ws).refusal 0)
    (cond (ltb max_block (measured ed st ws).count) (refused_numbers Unwritable)
    (cond (ltb max_offset (offset_of time ws)) (refused_numbers Unwritable) (record { refusal = 0; count = 4 + (measured ed st ws).count })))
    (refused_numbers Unwritable)

abbrev pub add_numbers : Numbers → Numbers → Numbers
add_numbers m n = cond (eqb m.refusal 0) (cond (eqb n.refusal 0) (record { refusal = 0; count = m.count + n.count }) (refused_numbers Unwritable)) (refused_numbers Unwritable)

-- the bytes that the lists take, but for the primary block's header
unfoldable pub lists_numbers : Edition → Settings → ℕ → List ℕ → List ℕ → Numbers
lists_numbers ed st time [] ws = measured ed st ws
lists_numbers ed st time (n ∷ []) ws = measured ed st ws
lists_numbers ed st time (n ∷ m ∷ ns) ws =
    add_numbers (redundant_numbers ed st time (take (row_width * n) ws)) (lists_numbers ed st time (m ∷ ns) (drop (row_width * n) ws))

-- a packet of so many bytes is within 2,048
abbrev pub within_numbers : ℕ → Numbers
within_numbers n = cond (ltb max_packet n) (refused_numbers Unwritable) (record { refusal = 0; count = n })

-- the bytes of a packet of k lists that take so many: with redundant lists it has the primary block's header of one byte
abbrev pub packet_numbers : Settings → ℕ → Numbers → Numbers
packet_numbers st k n =
    cond (eqb n.refusal 0)
    (cond (ltb k 2) (within_numbers (min_packet + n.count))
    (cond (eqb st.redundancy_type no_redundancy) (refused_numbers Unwritable) (within_numbers (min_packet + 1 + n.count))))
    (refused_numbers Unwritable)

-- the bytes of a packet of the lists; with more than five of them it has none
unfoldable pub size_numbers : Edition → Settings → ℕ → List ℕ → List ℕ → Numbers
size_numbers ed st time counts ws =
    cond (ltb (max_redundant + 1) (length counts)) (refused_numbers Unwritable) (packet_numbers st (length counts) (lists_numbers ed st time counts ws))
