-- Document 01, "Sizes": the store of a reorder buffer.
use Rattle.std.specs.Prelude.{ℕ, ◌*◌}
use Rattle.rtp.specs.Sizes.{max_frame}

-- slots, the bytes of a slot, and of the store
abbrev pub slots : ℕ
slots = 192

abbrev pub slot_size : ℕ
slot_size = max_frame

abbrev pub store_size : ℕ
store_size = slots * slot_size
