use Rattle.std.proofs.Common.{◌≡◌, take}
use Rattle.console_text.specs.Lines.{gathered, hexadecimal}
use Rattle.console_text.proofs.lines.Line.put_hex.Given as goal

abbrev pub invariant-loop-byte : goal.invariant-loop-byte
invariant-loop-byte l = l.self ≡ gathered l.initial.self (hexadecimal (take l.byte-index l.bytes))
