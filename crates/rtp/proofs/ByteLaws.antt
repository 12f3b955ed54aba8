-- Laws of bytes and of the numbers that they make up.
use Rattle.std.proofs.Common.{◌≡◌, ℕ, ◌+◌, ◌*◌, ◌/◌, ◌%◌, ◌^◌, ◌<◌, ◌≤◌, List, ◌++◌, length, drop, refl, ap, ◌∙◌, arith, get_or, get_or-drop, sym, length-drop, le-leb}
use borrow.Author.Tests.{lt-leb}
use Rattle.std.specs.Int.{w16, w32, from_be_bytes}
use Rattle.std.specs.List.{slice_range}
use Rattle.rtp.proofs.AreaLaws.{part_to_end}
use Rattle.rtp.specs.Numbers.{byte_at, be16, be32, read_u16, read_u32, two, four}
pub use Rattle.rtp.specs.Numbers.{Bytes}

pub bytes_drop : (n : ℕ) (s : List ℕ) → Bytes s → Bytes (drop n s)
bytes_drop n s bs i = rw get_or-drop (bs (n + i))

-- A number that is read: inside the bytes it is the number there, else 0

pub read_two : (s : List ℕ) (i : ℕ) → i + 2 ≤ length s → read_u16 s i ≡ be16 s i
unfolding read_u16
read_two s i h = rw (le-leb (i + 2) (length s) h)

pub read_two_outside : (s : List ℕ) (i : ℕ) → length s < i + 2 → read_u16 s i ≡ 0
unfolding read_u16
read_two_outside s i h = rw (lt-leb (i + 2) (length s) h)

pub read_four : (s : List ℕ) (i : ℕ) → i + 4 ≤ length s → read_u32 s i ≡ be32 s i
unfolding read_u32
read_four s i h = rw (le-leb (i + 4) (length s) h)

pub read_four_outside : (s : List ℕ) (i : ℕ) → length s < i + 4 → read_u32 s i ≡ 0
unfolding read_u32
read_four_outside s i h = rw (lt-leb (i + 4) (length s) h)

-- .. by the bytes at the front of what follows, the highest first
part_byte : (s : List ℕ) (i k j : ℕ) → i + k ≡ j → get_or (drop i s) k 0 ≡ byte_at s j
part_byte s i k j e = rw (get_or-drop, e)

pub rest_two : (s r : List ℕ) (i : ℕ) → r ≡ slice_range s i (length s) → 2 ≤ length r → from_be_bytes w16 r ≡ read_u16 s i
rest_two s r i e h =
    let d : r ≡ drop i s = e ∙ part_to_end i s in
    let l : 2 + i ≤ length s = omega (arith, length-drop i s, ap length d) in
    rw (d, read_two s i (omega arith), part_byte s i 0 i (omega arith), part_byte s i 1 (i + 1) (omega arith)) (omega arith)

pub rest_two_short : (s r : List ℕ) (i : ℕ) → r ≡ slice_range s i (length s) → length r < 2 → 0 ≡ read_u16 s i
rest_two_short s r i e h = sym (read_two_outside s i (omega (arith, length-drop i s, ap length (e ∙ part_to_end i s))))

pub rest_four : (s r : List ℕ) (i : ℕ) → r ≡ slice_range s i (length s) → 4 ≤ length r → from_be_bytes w32 r ≡ read_u32 s i
rest_four s r i e h =
    let d : r ≡ drop i s = e ∙ part_to_end i s in
    let l : 4 + i ≤ length s = omega (arith, length-drop i s, ap length d) in
    rw (
      d,
      read_four s i (omega arith),
      part_byte s i 0 i (omega arith),
      part_byte s i 1 (i + 1) (omega arith),
      part_byte s i 2 (i + 2) (omega arith),
      part_byte s i 3 (i + 2 + 1) (omega arith),
    )
    (omega arith)

pub rest_four_short : (s r : List ℕ) (i : ℕ) → r ≡ slice_range s i (length s) → length r < 4 → 0 ≡ read_u32 s i
rest_four_short s r i e h = sym (read_four_outside s i (omega (arith, length-drop i s, ap length (e ∙ part_to_end i s))))

-- A number that is written: it reads back

pub two_length : (n : ℕ) → length (two n) ≡ 2
two_length n = refl

pub four_length : (n : ℕ) → length (four n) ≡ 4
four_length n = refl

two_sum : (n : ℕ) → 256 * (n / 256 % 256) + n % 256 ≡ n % 65536
two_sum n = omega arith

pub two_bytes : (n : ℕ) (s : List ℕ) → be16 (two n ++ s) 0 ≡ n % 2 ^ 16
two_bytes n s = two_sum n

pub two_back : (n : ℕ) (s : List ℕ) → n < 2 ^ 16 → be16 (two n ++ s) 0 ≡ n
two_back n s h = omega (arith, two_sum n)

pub four_bytes : (n : ℕ) (s : List ℕ) → be32 (four n ++ s) 0 ≡ n % 2 ^ 32
four_bytes n s =
    let a : n / 16777216 ≡ n / 65536 / 256 = omega arith in
    rw (a, two_sum (n / 65536), two_sum n) (omega arith)

pub four_back : (n : ℕ) (s : List ℕ) → n < 2 ^ 32 → be32 (four n ++ s) 0 ≡ n
four_back n s h = omega (arith, four_bytes n s)
