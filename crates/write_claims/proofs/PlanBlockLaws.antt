-- Laws of a plan: it goes by what rows say but for their starts and marks, and of a table's rows it is the table of their frame-blocks.
use mathlib.Core.Path.{◌≡◌, refl, ap, sym, ◌∙◌}
use mathlib.Core.List.{List, [], ◌∷◌, ◌++◌}
use mathlib.Core.Bool.{true, cond}
use Prim.Native.Nat.{ℕ, zero, suc, ◌+◌, ◌-◌, ◌*◌, ◌^◌, ◌≤◌, ◌<◌}
use native.Mathlib.Omega.{arith}
use native.Mathlib.Nat.{mod-lt}
use lib.ListN.{get_or}
use lib.Dec.{eqb}
use borrow.Author.Tests.{lt-ltb, eq-eqb, ne_eqb}
use Rattle.formats.specs.Formats.{step_of}
use Rattle.read_contents.specs.Contents.{Group, Contents, refused, groups}
use Rattle.read_rows.specs.Rows.{Row, placed, block_rows}
use Rattle.frame_codes.specs.Codes.{no_code, code_for}
use Rattle.formats.proofs.FormatLaws.{gap_small}
use Rattle.write_plan.specs.Plans.{unwritable, gap_between, next_channel, starts, follows, attach, plan_from}
use Rattle.write_claims.proofs.TableBackLaws.{Runs}
use Rattle.write_claims.proofs.TableBlockLaws.{Block, blocks_of, blocks_in, blocks_rows}
use Rattle.write_claims.proofs.FrameLaws.{plain, plains}
use Rattle.write_claims.proofs.AttachLaws.{block_at}
use Rattle.write_claims.proofs.ShortestLaws.{row_for, attach_all}
use Rattle.write_claims.proofs.TickLaws.{next, ticks}

-- What a plan goes by: of the row before, the time, the class and the length

abbrev pub row_like : ℕ → ℕ → ℕ → Row
row_like time class len = record { time = time; class = class; channel = 0; start = 0; length = len; primary = 0 }

pub plan_like : (format ch c : ℕ) (p : Row) (rs : List Row) → plan_from format ch c p rs ≡ plan_from format ch c (row_like p.time p.class p.length) rs
unfolding plan_from
plan_like format ch c p [] = refl
plan_like format ch c p (r ∷ rs) = refl

-- of a frame-block's row, the class and the length
attach_like : (format gap : ℕ) (r : Row) (x : Contents) → attach format r gap x ≡ attach format (row_for (block_at gap r)) gap x
attach_like format gap r (refused q) = refl
attach_like format gap r (groups []) = refl
attach_like format gap r (groups (g ∷ gs)) = refl

-- and of the rows, all but their starts and marks
pub plan_plain : (format ch c : ℕ) (p : Row) (rs : List Row) → plan_from format ch c p rs ≡ plan_from format ch c p (plains rs)
unfolding plan_from
plan_plain format ch c p [] = refl
plan_plain format ch c p (r ∷ rs) =
    let gap = gap_between (step_of format) p.time r.time in
    let n = next_channel ch c in
    let e : plan_from format ch n r rs ≡ plan_from format ch n (plain r) (plains rs) =
    plan_plain format ch n r rs ∙ plan_like format ch n r (plains rs) ∙ sym (plan_like format ch n (plain r) (plains rs)) in
    let x = plan_from format ch n (plain r) (plains rs) in
    rw e (ap (λ (y : Contents). cond (follows format c p r) (cond (eqb c 0) y x) (refused unwritable)) (attach_like format gap r x ∙ sym (attach_like format gap (plain r) x)))

-- Frame-blocks that entries can say

abbrev pub Fit : ℕ → List Block → Type 0
Fit format [] = Unit {0}
Fit format (b ∷ bs) = (code_for format b.class b.length < no_code) × (b.gap ≤ 15) × Fit format bs

fit_more : (format class len : ℕ) (gaps : List ℕ) (bs : List Block) → code_for format class len < no_code → ((i : ℕ) → get_or gaps i 0 ≤ 15) → Fit format bs → Fit format (blocks_of class len gaps ++ bs)
fit_more format class len [] bs c h f = f
fit_more format class len (g ∷ gaps) bs c h f = (c, h 0, fit_more format class len gaps bs c (λ i. h (suc i)) f)

pub fit_runs : (format : ℕ) (gs : List Group) → Runs format gs → Fit format (blocks_in gs)
fit_runs format [] v = tt
fit_runs format (g ∷ gs) v = fit_more format g.class g.length g.gaps (blocks_in gs) v.0.code small (fit_runs format gs v.2)
  where
    small : (i : ℕ) → get_or g.gaps i 0 ≤ 15
    small zero = omega (arith, v.1, gap_small format)
    small (suc i) = omega (arith, v.0.near i, gap_small format)

-- The plan of their rows

-- the channel c, or the first after the last
abbrev pub standing : ℕ → ℕ → ℕ
standing ch c = cond (eqb c ch) 0 c

module _ (format ch : ℕ) where
  -- the rest of a frame-block goes on with it
  block_rest : (n c time class start len : ℕ) (rs : List Row) → 1 ≤ c → n + c ≡ ch
      → plan_from format ch (standing ch c) (row_like time class len) (block_rows n c time class start len ++ rs) ≡ plan_from format ch 0 (row_like time class len) rs
  unfolding block_rows plan_from
  block_rest zero c time class start len rs h e = let q : c ≡ ch = omega arith in rw (eq-eqb c ch q)
  block_rest (suc n) c time class start len rs h e =
      let a : c ≡ ch → ⊥ = omega arith in
      let b : c ≡ 0 → ⊥ = omega arith in
      rw (ne_eqb c ch a, eq-eqb c c refl, ne_eqb c 0 b, eq-eqb time time refl, eq-eqb class class refl, eq-eqb len len refl)
      (plan_like format ch (standing ch (c + 1)) (record { time = time; class = class; channel = c; start = start; length = len; primary = 0 }) (block_rows n (c + 1) time class (start + len) len ++ rs)
      ∙ block_rest n (c + 1) time class (start + len) len rs (omega arith) (omega arith))

  -- a frame-block's first row puts it before what follows
  block_first : (n time class start len : ℕ) (p : Row) (rs : List Row) → suc n ≡ ch → starts format p.time (row_like time class len) ≡ true
      → plan_from format ch 0 p (block_rows (suc n) 0 time class start len ++ rs)
      ≡ attach format (row_for (record { gap = 0; class = class; length = len })) (gap_between (step_of format) p.time time) (plan_from format ch 0 (row_like time class len) rs)
  unfolding block_rows plan_from
  block_first n time class start len p rs e s =
      let r : Row = record { time = time; class = class; channel = 0; start = start; length = len; primary = 0 } in
      let gap = gap_between (step_of format) p.time time in
      let rest = block_rows n 1 time class (start + len) len ++ rs in
      rw s
      (ap (attach format r gap) (plan_like format ch (standing ch 1) r rest ∙ block_rest n 1 time class (start + len) len rs (omega arith) (omega arith))
      ∙ attach_like format gap r (plan_from format ch 0 (row_like time class len) rs))

  pub plan_blocks : (bs : List Block) (p : Row) (start : ℕ) → 1 ≤ ch → p.time < 2 ^ 32 → Fit format bs
      → plan_from format ch 0 p (blocks_rows (step_of format) ch (next (step_of format) p.time) start bs) ≡ attach_all format bs
  unfolding blocks_rows plan_from
  plan_blocks [] p start h t f = refl
  plan_blocks (b ∷ bs) p start h t f =
      let step = step_of format in
      let k = ticks format p.time b.gap t f.1 in
      let time = placed step (next step p.time) b.gap in
      let s : starts format p.time (row_like time b.class b.length) ≡ true = rw (lt-ltb (code_for format b.class b.length) no_code f.0) (eq-eqb _ 0 k.whole) in
      let q = row_like time b.class b.length in
      let rest = blocks_rows step ch (next step time) (start + ch * b.length) bs in
      let ih = plan_blocks bs q (start + ch * b.length) h (mod-lt (next step p.time + b.gap * step) (omega arith)) f.2 in
      let n : suc (ch - 1) ≡ ch = omega arith in
      ap (λ (m : ℕ). plan_from format ch 0 p (block_rows m 0 time b.class start b.length ++ rest)) (sym n)
      ∙ block_first (ch - 1) time b.class start b.length p rest n s
      ∙ rw (ih, k.gaps)
