-- Lines of output, gathered in memory of a fixed size before they are written. A line is the bytes that it holds.
use Rattle.std.specs.Prelude.{ℕ, zero, suc, ◌/◌, ◌%◌, ◌≡◌, List, [], ◌∷◌, ◌++◌, cond, ltb, eqb, length, take}
use Rattle.io.specs.Digits.{last_digits, hex_digit_ascii}
use Rattle.console_text.specs.Ascii.{ascii}

-- the bytes of the longest line
abbrev pub line_size : ℕ
line_size = 1024

-- what a line holds once a text follows, as far as there is room
unfoldable pub gathered : List ℕ → List ℕ → List ℕ
gathered line text = take line_size (line ++ text)

-- how many decimal digits a number below 10 ^ most has
unfoldable pub places_up_to : ℕ → ℕ → ℕ
places_up_to zero n = 1
places_up_to (suc most) n = cond (ltb n 10) 1 (suc (places_up_to most (n / 10)))

-- a 64-bit number, which has at most 20 digits, in decimal
unfoldable pub decimal : ℕ → List ℕ
decimal n = last_digits 10 (places_up_to 20 n) n

-- a number with the word for one or for several
unfoldable pub counted : ℕ → List ℕ → List ℕ → List ℕ
counted n one several = decimal n ++ cond (eqb n 1) one several

-- bytes in hexadecimal, two digits each
unfoldable pub hexadecimal : List ℕ → List ℕ
hexadecimal [] = []
hexadecimal (b ∷ bs) = hex_digit_ascii (b / 16) ∷ hex_digit_ascii (b % 16) ∷ hexadecimal bs

-- a 32-bit number's bytes, the high one first
abbrev pub bytes_of : ℕ → List ℕ
bytes_of n = (n / 16777216 % 256) ∷ (n / 65536 % 256) ∷ (n / 256 % 256) ∷ (n % 256) ∷ []

-- a frame's class in a word
unfoldable pub class_word : ℕ → List ℕ
class_word class =
    cond (eqb class 1) (ascii "sound")
    (cond (eqb class 2) (ascii "sid")
    (cond (eqb class 5) (ascii "damaged-sound")
    (cond (eqb class 6) (ascii "damaged-sid")
    (ascii "unknown"))))

-- a frame: time, channel, class, length and bytes, a space between them
unfoldable pub frame_text : ℕ → ℕ → ℕ → List ℕ → List ℕ
frame_text time channel class bytes =
    decimal time ++ ((32 ∷ decimal channel) ++ ((32 ∷ class_word class) ++ ((32 ∷ decimal (length bytes)) ++ (32 ∷ hexadecimal bytes))))

-- a line begins with what it held before; what follows is left open
abbrev pub Continued : List ℕ → List ℕ → Type 0
Continued before after = take (length before) after ≡ before
