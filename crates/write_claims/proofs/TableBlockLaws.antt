-- Laws of a table's rows by its frame-blocks, one after another, however entries group them.
use mathlib.Core.Path.{◌≡◌, refl, ap, sym}
use mathlib.Core.List.{List, [], ◌∷◌, ◌++◌, append_assoc}
use Prim.Native.Nat.{ℕ, zero, suc, ◌+◌, ◌*◌}
use native.Mathlib.Omega.{arith}
use native.Mathlib.Nat.{zero-mul, suc-mul, add-mul, add-zero}
use lib.ListN.{length}
use Rattle.read_contents.specs.Contents.{Group, frames_in}
use Rattle.write_plan.specs.Room.{lengths_in}
use Rattle.read_rows.specs.Rows.{Row, placed, next_place, time_after, block_rows, group_rows, table_rows}

-- a frame-block: the frame-blocks left out before it, and its frames' class and length
pub record Block : Type 0 where
  pub gap : ℕ
  pub class : ℕ
  pub length : ℕ

-- a group's, and a table's
abbrev pub blocks_of : ℕ → ℕ → List ℕ → List Block
blocks_of class len [] = []
blocks_of class len (g ∷ gs) = record { gap = g; class = class; length = len } ∷ blocks_of class len gs

abbrev pub blocks_in : List Group → List Block
blocks_in [] = []
blocks_in (g ∷ gs) = blocks_of g.class g.length g.gaps ++ blocks_in gs

-- their rows
unfoldable pub blocks_rows : ℕ → ℕ → ℕ → ℕ → List Block → List Row
blocks_rows step ch time start [] = []
blocks_rows step ch time start (b ∷ bs) =
    block_rows ch 0 (placed step time b.gap) b.class start b.length ++ blocks_rows step ch (next_place step time b.gap) (start + ch * b.length) bs

further : (start n ch len : ℕ) → start + ch * len + n * ch * len ≡ start + suc n * ch * len
further start n ch len = let e : suc n * ch * len ≡ n * ch * len + ch * len = rw (suc-mul, add-mul) in omega arith

group_blocks : (step ch class len : ℕ) (gs : List ℕ) (time start : ℕ) (bs : List Block)
    → blocks_rows step ch time start (blocks_of class len gs ++ bs)
    ≡ group_rows step ch time class start len gs ++ blocks_rows step ch (time_after step time gs) (start + length gs * ch * len) bs
unfolding blocks_rows group_rows time_after
group_blocks step ch class len [] time start bs = simp (zero-mul, add-zero)
group_blocks step ch class len (g ∷ gs) time start bs =
    rw (append_assoc, ← further start (length gs) ch len)
    (ap (λ (l : List Row). block_rows ch 0 (placed step time g) class start len ++ l) (group_blocks step ch class len gs (next_place step time g) (start + ch * len) bs))

pub table_blocks : (step ch time start : ℕ) (gs : List Group) → table_rows step ch time start gs ≡ blocks_rows step ch time start (blocks_in gs)
unfolding table_rows blocks_rows
table_blocks step ch time start [] = refl
table_blocks step ch time start (g ∷ gs) =
    rw (table_blocks step ch (time_after step time g.gaps) (start + length g.gaps * ch * g.length) gs)
    (sym (group_blocks step ch g.class g.length g.gaps time start (blocks_in gs)))

-- The bytes of rows' frames

lengths_append : (a b : List Row) → lengths_in (a ++ b) ≡ lengths_in a + lengths_in b
unfolding lengths_in
lengths_append [] b = omega arith
lengths_append (r ∷ a) b = let e = lengths_append a b in omega arith

lengths_block : (n c time class start len : ℕ) → lengths_in (block_rows n c time class start len) ≡ n * len
unfolding lengths_in block_rows
lengths_block zero c time class start len = rw zero-mul
lengths_block (suc n) c time class start len = let e = lengths_block n (c + 1) time class (start + len) len in rw suc-mul (omega arith)

-- those of a table are what it says
group_frames : (step ch time class start len : ℕ) (gs : List ℕ) → lengths_in (group_rows step ch time class start len gs) ≡ length gs * ch * len
unfolding group_rows lengths_in
group_frames step ch time class start len [] = simp zero-mul
group_frames step ch time class start len (g ∷ gs) =
    let e = group_frames step ch (next_place step time g) class (start + ch * len) len gs in
    let d : suc (length gs) * ch * len ≡ length gs * ch * len + ch * len = rw (suc-mul, add-mul) in
    rw (lengths_append, lengths_block) (omega arith)

pub table_frames : (step ch time start : ℕ) (gs : List Group) → lengths_in (table_rows step ch time start gs) ≡ frames_in ch gs
unfolding table_rows frames_in lengths_in
table_frames step ch time start [] = refl
table_frames step ch time start (g ∷ gs) =
    rw (lengths_append, group_frames, table_frames step ch (time_after step time g.gaps) (start + length g.gaps * ch * g.length) gs)

-- Rows whose frames lie one after another

abbrev pub Laid : ℕ → List Row → Type 0
Laid s [] = Unit {0}
Laid s (r ∷ rs) = (r.start ≡ s) × Laid (s + r.length) rs

laid_block : (n c time class start len : ℕ) (rs : List Row) → Laid (start + n * len) rs → Laid start (block_rows n c time class start len ++ rs)
unfolding block_rows
laid_block zero c time class start len rs h = rw (zero-mul, add-zero) at h
laid_block (suc n) c time class start len rs h =
    let e : start + suc n * len ≡ start + len + n * len = let d = suc-mul n len in omega arith in
    (refl, laid_block n (c + 1) time class (start + len) len rs (rw e at h))

pub laid_blocks : (step ch time start : ℕ) (bs : List Block) → Laid start (blocks_rows step ch time start bs)
unfolding blocks_rows
laid_blocks step ch time start [] = tt
laid_blocks step ch time start (b ∷ bs) =
    laid_block ch 0 (placed step time b.gap) b.class start b.length (blocks_rows step ch (next_place step time b.gap) (start + ch * b.length) bs)
    (laid_blocks step ch (next_place step time b.gap) (start + ch * b.length) bs)
