-- Laws of the entries that runs are written with: their bytes and their frames.
use mathlib.Core.Path.{◌≡◌, refl, ap, ◌∙◌}
use mathlib.Core.List.{List, [], ◌∷◌}
use Prim.Native.Nat.{ℕ, ◌+◌, ◌-◌, ◌*◌, ◌/◌, ◌≤◌, ◌<◌}
use native.Mathlib.Omega.{arith}
use native.Mathlib.Nat.{add-mul}
use lib.ListN.{length, take, drop, length-drop}
use lib.Seq.{length-take-le}
use lib.Dec.{leb}
use borrow.Author.Tests.{le-leb, lt-leb, leb-true, leb-false}
use Rattle.rtp.proofs.TestLaws.{by-test}
use Rattle.formats.specs.Formats.{format_of}
use Rattle.read_contents.specs.Contents.{Group, gaps_size, entry_size, size_in, frames_in}
use Rattle.read_contents.proofs.EntryLaws.{min_few}
use Rattle.write_plan.specs.Entries.{max_blocks, first_part, part, entries_of}
use Rattle.write_plan.specs.Room.{run_size}

-- a run that one entry counts, and a longer one
module _ (g : Group) (gs : List Group) where
  pub entries_one : length g.gaps ≤ max_blocks → entries_of (g ∷ gs) ≡ g ∷ entries_of gs
  unfolding entries_of
  entries_one h = rw (le-leb (length g.gaps) max_blocks h)

  pub entries_two : max_blocks < length g.gaps → entries_of (g ∷ gs) ≡ part g (take first_part g.gaps) ∷ part g (drop first_part g.gaps) ∷ entries_of gs
  unfolding entries_of
  entries_two h = rw (lt-leb (length g.gaps) max_blocks h)

-- Their bytes

-- an entry has at most two bytes, and one for every two displacements
pub size_half : (format n : ℕ) → entry_size format n ≤ 2 + (n + 1) / 2
unfolding entry_size gaps_size
size_half format n = let m = min_few format in by-test (format_of format).displaced (λ a. rw a (omega arith)) (λ a. rw a (omega arith))

pub run_one : (format n : ℕ) → n ≤ max_blocks → run_size format n ≡ entry_size format n
unfolding run_size
run_one format n h = rw (le-leb n max_blocks h)

pub run_two : (format n : ℕ) → max_blocks < n → run_size format n ≡ entry_size format first_part + entry_size format (n - first_part)
unfolding run_size
run_two format n h = rw (lt-leb n max_blocks h)

pub run_half : (format n : ℕ) → run_size format n ≤ 5 + n / 2
run_half format n =
    by-test (leb n max_blocks)
    (λ a. omega (arith, run_one format n (leb-true n max_blocks a), size_half format n))
    (λ a. omega (arith, leb-false n max_blocks a, run_two format n (leb-false n max_blocks a), size_half format first_part, size_half format (n - first_part)))

pub run_first : (format : ℕ) → run_size format 1 ≤ 3
run_first format = omega (arith, run_one format 1 (omega arith), size_half format 1)

-- one more frame-block
size_next : (format n : ℕ) → entry_size format (n + 1) ≤ entry_size format n + 1
unfolding entry_size gaps_size
size_next format n = by-test (format_of format).displaced (λ a. rw a (omega arith)) (λ a. rw a (omega arith))

size_less : (format n : ℕ) → entry_size format n ≤ entry_size format (n + 1)
unfolding entry_size gaps_size
size_less format n = by-test (format_of format).displaced (λ a. rw a (omega arith)) (λ a. rw a (omega arith))

pub run_next : (format n : ℕ) → run_size format (n + 1) ≤ run_size format n + 3
run_next format n =
    by-test (leb (n + 1) max_blocks)
    (λ a. let h = leb-true (n + 1) max_blocks a in omega (arith, run_one format (n + 1) h, run_one format n (omega (arith, h)), size_next format n))
    (λ a. let h = leb-false (n + 1) max_blocks a in by-test (leb n max_blocks)
    (λ b.
    let k = leb-true n max_blocks b in
    let e : n ≡ 255 = omega (arith, h, k) in
    rw e (omega (arith, run_two format 256 (omega arith), run_one format 255 (omega arith), size_less format 254, size_half format 2)))
    (λ b.
    let k = leb-false n max_blocks b in
    let e : n + 1 - first_part ≡ n - first_part + 1 = omega (arith, k) in
    omega (arith, run_two format (n + 1) h, run_two format n k, size_next format (n - first_part), ap (entry_size format) e)))

pub size_entries : (format : ℕ) (g : Group) (gs : List Group) → size_in format (entries_of (g ∷ gs)) ≡ run_size format (length g.gaps) + size_in format (entries_of gs)
unfolding size_in
size_entries format g gs =
    by-test (leb (length g.gaps) max_blocks)
    (λ a. let h = leb-true (length g.gaps) max_blocks a in rw (entries_one g gs h, run_one format (length g.gaps) h))
    (λ a.
    let h = leb-false (length g.gaps) max_blocks a in
    rw (entries_two g gs h, run_two format (length g.gaps) h, length-take-le first_part g.gaps (omega (arith, h)), length-drop first_part g.gaps) (omega arith))

-- and their frames

frames_parts : (m n ch len : ℕ) → m ≤ n → n * ch * len ≡ m * ch * len + (n - m) * ch * len
frames_parts m n ch len h =
    let e : n ≡ m + (n - m) = omega arith in
    ap (λ (k : ℕ). k * ch * len) e ∙ rw (add-mul m (n - m) ch, add-mul (m * ch) ((n - m) * ch) len)

pub frames_entries : (ch : ℕ) (gs : List Group) → frames_in ch (entries_of gs) ≡ frames_in ch gs
unfolding frames_in
frames_entries ch [] = unfold entries_of in refl
frames_entries ch (g ∷ gs) =
    let i = frames_entries ch gs in
    by-test (leb (length g.gaps) max_blocks)
    (λ a. rw (entries_one g gs (leb-true (length g.gaps) max_blocks a), i))
    (λ a.
    let h = leb-false (length g.gaps) max_blocks a in
    rw (entries_two g gs h, i, length-take-le first_part g.gaps (omega (arith, h)), length-drop first_part g.gaps) (omega (arith, frames_parts first_part (length g.gaps) ch g.length (omega (arith, h)))))
