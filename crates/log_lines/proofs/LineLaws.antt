-- Laws of the lines of a log.
use mathlib.Core.Path.{◌≡◌}
use mathlib.Core.List.{List, ◌++◌, append_assoc}
use Prim.Native.Nat.{ℕ, ◌≤◌, ◌<◌}
use borrow.Author.Tests.{lt-ltb, le-ltb}
use Rattle.console_text.specs.Ascii.{ascii}
use Rattle.console_text.specs.Lines.{decimal}
use Rattle.log_lines.specs.LineTexts.{refusal_text, fault_text}

-- pieces in turn
pub three : (a b c : List ℕ) → (a ++ b) ++ c ≡ a ++ (b ++ c)
three a b c = append_assoc a b c

pub four : (a b c d : List ℕ) → ((a ++ b) ++ c) ++ d ≡ a ++ (b ++ (c ++ d))
four a b c d = simp append_assoc

-- a fault that has no place
pub fault_low : (n offset : ℕ) → n < 17 → refusal_text n ≡ fault_text n offset
unfolding fault_text
fault_low n offset h = rw (lt-ltb n 17 h)

-- .. and one that has
pub fault_high : (n offset : ℕ) → 17 ≤ n
    → ((ascii "refusal " ++ decimal n) ++ (ascii " at byte " ++ decimal offset)) ++ ascii ": " ≡ fault_text n offset
unfolding fault_text
fault_high n offset h = rw (le-ltb n 17 h) (pieces (ascii "refusal ") (decimal n) (ascii " at byte ") (decimal offset) (ascii ": "))
  where
    pieces : (a b c d e : List ℕ) → ((a ++ b) ++ (c ++ d)) ++ e ≡ a ++ (b ++ (c ++ (d ++ e)))
    pieces a b c d e = simp append_assoc
