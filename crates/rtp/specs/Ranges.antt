-- Document 01, "Settings", and document 02, P1 and P12: their ranges. The format is document 01's kind, payload_type its plain payload type.
use Rattle.std.specs.Prelude.{ℕ, Bool, true, false, cond, ◌==◌, nat_le, nat_lt}
use Rattle.rtp.specs.Editions.{Edition}
use Rattle.rtp.specs.declared.settings.Settings.{Settings}

-- G.719 basic, G.719 interleaved, GSM-HR, AMR and AMR-WB
abbrev pub g719 : ℕ
g719 = 1

abbrev pub g719_interleaved : ℕ
g719_interleaved = 2

abbrev pub gsm_hr : ℕ
gsm_hr = 3

abbrev pub amr : ℕ
amr = 4

abbrev pub amr_wb : ℕ
amr_wb = 5

-- the redundancy type for none; no packet has it as its type
abbrev pub no_redundancy : ℕ
no_redundancy = 128

-- the most channels that any format has
abbrev pub most_channels : Edition → ℕ
most_channels ed = ed.channels

-- the most channels of a format: formats 3 to 5 have one; 0 where there is no such format
unfoldable pub max_channels : Edition → ℕ → ℕ
max_channels ed format = cond (format == 0) 0 (cond (nat_le format g719_interleaved) (most_channels ed) (cond (nat_le format amr_wb) 1 0))

-- format 1 to 5 and 1 to its most channels; the payload type at most 127; the redundancy type at most 127 and another, or none
unfoldable pub in_range : Edition → Settings → Bool
in_range ed s =
    cond (s.channels == 0) false
    (cond (nat_lt (max_channels ed s.format) s.channels) false
    (cond (nat_lt 127 s.payload_type) false
    (cond (s.redundancy_type == no_redundancy) true
    (cond (nat_lt 127 s.redundancy_type) false
    (cond (s.redundancy_type == s.payload_type) false true)))))
