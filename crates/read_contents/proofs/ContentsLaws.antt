-- Laws of a table of contents: its first entry and the rest, and its bounds.
use mathlib.Core.Path.{◌≡◌, refl, ap}
use Rattle.std.specs.Prelude.{Err, Ok, Result}
use Rattle.rtp.specs.declared.refusal.Fault.{Fault}
use mathlib.Core.List.{List, [], ◌∷◌}
use mathlib.Core.Bool.{true, false}
use Prim.Native.Nat.{ℕ, zero, suc, ◌+◌, ◌-◌, ◌*◌, ◌≤◌, ◌<◌}
use native.Mathlib.Omega.{arith}
use native.Mathlib.Nat.{mul-le-mul_left, add-zero}
use lib.ListN.{length, drop, length-drop}
use lib.Dec.{ltb}
use borrow.Author.Tests.{lt-ltb, le-ltb, ltb-true, ltb-false}
use Rattle.rtp.specs.Editions.{Edition}
use Rattle.rtp.specs.Sizes.{max_rows, max_frame}
use Rattle.rtp.specs.declared.refusal.Refusal.{Refusal}
use Rattle.rtp.specs.declared.refusal.Refusal.TheVariants.{TooManyRows}
use Rattle.rtp.proofs.TestLaws.{by-test}
use Rattle.read_contents.specs.declared.entries.Entry.{Entry}
use Rattle.read_contents.specs.declared.entries.Sizes.{Sizes}
use Rattle.rtp.specs.Faults.{fault, shifted}
use Rattle.read_contents.specs.Contents.{entry_size, entry_of, Contents, refused, groups, gaps_from, meaning, prepend, contents_step, contents_by, contents, row_count, size_in, frames_in, sizes_answer}
use Rattle.read_contents.proofs.EntryLaws.{fair}

-- Fuel

step_same : (ed : Edition) (format ch rows : ℕ) (s : List ℕ) (f g : ℕ → List ℕ → Contents) (r : Result Entry Refusal)
    → ((e : Entry) → r ≡ Ok e → (n : ℕ) → f n (drop e.size s) ≡ g n (drop e.size s))
    → contents_step ed format ch rows s f r ≡ contents_step ed format ch rows s g r
step_same ed format ch rows s f g (Err n) h = refl
step_same ed format ch rows s f g (Ok e) h = rw (h e refl (rows + e.blocks * ch))

-- what follows an entry is shorter
pub shorter : (format : ℕ) (s : List ℕ) (e : Entry) → entry_of format s ≡ Ok e → length (drop e.size s) < length s
shorter format s e h = let k = fair format s e h in simp length-drop (omega arith)

fuel : (ed : Edition) (f g format ch rows : ℕ) (s : List ℕ) → length s < f → length s < g → contents_by ed f format ch rows s ≡ contents_by ed g format ch rows s
unfolding contents_by
fuel ed zero g format ch rows s h k = absurd (omega arith)
fuel ed (suc f) zero format ch rows s h k = absurd (omega arith)
fuel ed (suc f) (suc g) format ch rows s h k =
    step_same ed format ch rows s (λ r t. contents_by ed f format ch r t) (λ r t. contents_by ed g format ch r t) (entry_of format s)
    (λ e q n. fuel ed f g format ch n (drop e.size s) (omega (arith, shorter format s e q)) (omega (arith, shorter format s e q)))

-- the table by its first entry: what every other proof goes by
pub contents_step_lem : (ed : Edition) (format ch rows : ℕ) (s : List ℕ) → contents ed format ch rows s ≡ contents_step ed format ch rows s (λ r t. contents ed format ch r t) (entry_of format s)
unfolding contents contents_by
contents_step_lem ed format ch rows s =
    step_same ed format ch rows s (λ r t. contents_by ed (length s) format ch r t) (λ r t. contents ed format ch r t) (entry_of format s)
    (λ e q n. fuel ed (length s) (suc (length (drop e.size s))) format ch n (drop e.size s) (shorter format s e q) (omega arith))

-- Bounds

pub length_gaps : (format : ℕ) (s : List ℕ) (k n : ℕ) → length (gaps_from format s k n) ≡ n
unfolding gaps_from
length_gaps format s k zero = refl
length_gaps format s k (suc n) = ap suc (length_gaps format s (k + 1) n)

pub blocks_of_lem : (format : ℕ) (s : List ℕ) (e : Entry) → length (meaning format s e).gaps ≡ e.blocks
unfolding meaning
blocks_of_lem format s e = length_gaps format s 0 e.blocks

pub len_of : (format : ℕ) (s : List ℕ) (e : Entry) → (meaning format s e).length ≡ e.length
unfolding meaning
len_of format s e = refl

-- what a table that was read says of itself, where `rows` rows came before it and n bytes are there
pub record Small (ed : Edition) (rows n : ℕ) (t : Sizes) : Type 0 where
  pub few : rows + t.rows ≤ max_rows ed
  pub within : t.size ≤ n
  pub short : t.frames ≤ max_frame * t.rows

abbrev pub Within : Edition → ℕ → ℕ → Result Sizes Fault → Type 0
Within ed rows n (Ok t) = Small ed rows n t
Within ed rows n (Err f) = f.offset ≤ n

-- The table and its sizes by the first entry

-- an entry's numbers before those of what follows
abbrev pub ahead : ℕ → Entry → Result Sizes Fault → Result Sizes Fault
ahead ch e (Err f) = Err (shifted e.size f)
ahead ch e (Ok t) =
    Ok (record { rows = e.blocks * ch + t.rows; size = e.size + t.size; frames = e.blocks * ch * e.length + t.frames })

module _ (ed : Edition) (format ch rows : ℕ) (s : List ℕ) where
  pub contents_refused : (n : Refusal) → entry_of format s ≡ Err n → contents ed format ch rows s ≡ refused (fault n)
  contents_refused n h = rw (contents_step_lem ed, h)

  pub at_refused : (n : Refusal) → entry_of format s ≡ Err n → sizes_answer format ch (contents ed format ch rows s) ≡ Err (fault n)
  unfolding sizes_answer
  at_refused n h = rw (contents_refused n h)

  module _ (e : Entry) (h : entry_of format s ≡ Ok e) where
    pub at_many : max_rows ed < rows + e.blocks * ch → sizes_answer format ch (contents ed format ch rows s) ≡ Err (fault TooManyRows)
    unfolding sizes_answer
    at_many l = rw (contents_step_lem ed, h) (simp (lt-ltb _ _ l))

    more_answer : e.size ≡ entry_size format e.blocks → (p : Contents) → sizes_answer format ch (prepend e.size (meaning format s e) p) ≡ ahead ch e (sizes_answer format ch p)
    unfolding sizes_answer row_count size_in frames_in
    more_answer z (refused n) = refl
    more_answer z (groups es) = simp (blocks_of_lem, len_of, z)

    module _ (l : rows + e.blocks * ch ≤ max_rows ed) where
      pub contents_last : e.more ≡ false → contents ed format ch rows s ≡ groups (meaning format s e ∷ [])
      contents_last m = rw (contents_step_lem ed, h) (simp (le-ltb _ _ l, m))

      pub at_last : e.more ≡ false
          → sizes_answer format ch (contents ed format ch rows s) ≡ Ok (record { rows = e.blocks * ch; size = e.size; frames = e.blocks * ch * e.length })
      unfolding sizes_answer row_count size_in frames_in
      at_last m = let k = fair format s e h in rw (contents_last m) (simp (blocks_of_lem, len_of, add-zero, k.sized))

      pub contents_more : e.more ≡ true → contents ed format ch rows s ≡ prepend e.size (meaning format s e) (contents ed format ch (rows + e.blocks * ch) (drop e.size s))
      contents_more m = rw (contents_step_lem ed format ch rows s, h) (simp (le-ltb _ _ l, m))

      pub at_more : e.more ≡ true
          → sizes_answer format ch (contents ed format ch rows s) ≡ ahead ch e (sizes_answer format ch (contents ed format ch (rows + e.blocks * ch) (drop e.size s)))
      at_more m = rw (contents_more m) (more_answer (fair format s e h).sized _)

-- the bounds, by induction on the fuel

within_last : (ed : Edition) (rows n ch : ℕ) (e : Entry) → rows + e.blocks * ch ≤ max_rows ed → e.size ≤ n → e.length ≤ max_frame
    → Small ed rows n (record { rows = e.blocks * ch; size = e.size; frames = e.blocks * ch * e.length })
within_last ed rows n ch e h k l = record { few = h; within = k; short = omega (arith, mul-le-mul_left (e.blocks * ch) l) }

within_more : (ed : Edition) (rows n ch : ℕ) (e : Entry) (r : Result Sizes Fault) → e.size ≤ n → e.length ≤ max_frame
    → Within ed (rows + e.blocks * ch) (n - e.size) r → Within ed rows n (ahead ch e r)
within_more ed rows n ch e (Err f) z l w = omega arith
within_more ed rows n ch e (Ok t) z l w =
    record { few = omega arith; within = omega arith; short = omega (arith, mul-le-mul_left (e.blocks * ch) l) }

within_step : (ed : Edition) (f format ch rows : ℕ) (s : List ℕ) → length s < suc f
    → ((n : ℕ) (t : List ℕ) → length t < f → Within ed n (length t) (sizes_answer format ch (contents ed format ch n t)))
    → (r : Result Entry Refusal) → entry_of format s ≡ r → Within ed rows (length s) (sizes_answer format ch (contents ed format ch rows s))
within_step ed f format ch rows s h ih (Err n) q = rw (at_refused ed format ch rows s n q) (omega arith)
within_step ed f format ch rows s h ih (Ok e) q =
    let k = fair format s e q in
    by-test (ltb (max_rows ed) (rows + e.blocks * ch))
    (λ a. rw (at_many ed format ch rows s e q (ltb-true _ _ a)) (omega arith))
    (λ a. by-test e.more
    (λ m. rw (at_more ed format ch rows s e q (ltb-false _ _ a) m)
    (within_more ed rows (length s) ch e (sizes_answer format ch (contents ed format ch (rows + e.blocks * ch) (drop e.size s))) k.within k.short
    (rw (length-drop e.size s) at (ih (rows + e.blocks * ch) (drop e.size s) (omega (arith, shorter format s e q))))))
    (λ m. rw (at_last ed format ch rows s e q (ltb-false _ _ a) m) (within_last ed rows (length s) ch e (ltb-false _ _ a) k.within k.short)))

within_by : (ed : Edition) (f format ch rows : ℕ) (s : List ℕ) → length s < f → Within ed rows (length s) (sizes_answer format ch (contents ed format ch rows s))
within_by ed zero format ch rows s h = absurd (omega arith)
within_by ed (suc f) format ch rows s h = within_step ed f format ch rows s h (λ n t l. within_by ed f format ch n t l) (entry_of format s) refl

pub within : (ed : Edition) (format ch rows : ℕ) (s : List ℕ) → Within ed rows (length s) (sizes_answer format ch (contents ed format ch rows s))
within ed format ch rows s = within_by ed (suc (length s)) format ch rows s (omega arith)
