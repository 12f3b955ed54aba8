-- What functions ask of their callers inside this crate: a type of a table.
use Rattle.std.specs.Prelude.{ℕ, ◌<◌}
use Rattle.formats.specs.declared.facts.FrameTable.{FrameTable}

-- a frame type that a frame table has
abbrev pub InTable : FrameTable → ℕ → Type 0
InTable FrameTable.G719 type = type < 32
InTable FrameTable.GsmHr type = Unit {0}
InTable FrameTable.Amr type = type < 16
InTable FrameTable.AmrWb type = type < 16
InTable FrameTable.Empty type = Unit {0}
