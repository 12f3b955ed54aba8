-- Laws of the rows of a plan: those that it was made of, but for their starts and marks.
use mathlib.Core.Path.{◌≡◌, refl, ap, sym, ◌∙◌, subst}
use mathlib.Core.List.{List, [], ◌∷◌, ◌++◌}
use mathlib.Core.Bool.{Bool, true, false, cond}
use Prim.Native.Nat.{ℕ, zero, suc, ◌+◌, ◌-◌, ◌*◌, ◌^◌, ◌%◌, ◌≤◌, ◌<◌}
use native.Mathlib.Omega.{arith}
use lib.Dec.{ltb, eqb}
use borrow.Author.Tests.{eq-eqb, ne_eqb, ltb-true, eqb-true}
use Rattle.rtp.proofs.TestLaws.{both}
use Rattle.formats.specs.Formats.{step_of}
use Rattle.read_contents.specs.Contents.{Group, Contents, refused, groups}
use Rattle.read_rows.specs.Rows.{Row, placed, next_place, block_rows}
use Rattle.frame_codes.specs.Codes.{no_code, code_for}
use Rattle.write_plan.specs.Plans.{unwritable, ticks_after, gap_between, continues, follows, attach, plan_from}
use Rattle.write_claims.proofs.TableBlockLaws.{Block, blocks_in, blocks_rows}
use Rattle.write_claims.proofs.FrameLaws.{plain, plains, plains_append, Alike}
use Rattle.write_claims.proofs.AttachLaws.{Later, same_groups, Attached, attached}
use Rattle.write_claims.proofs.PlanBlockLaws.{standing}
use Rattle.write_claims.proofs.TickLaws.{next, placed_back}

-- Rows of frame-blocks but for their starts and marks

unfoldable pub block_plains : ℕ → ℕ → ℕ → ℕ → ℕ → List Row
block_plains zero c time class len = []
block_plains (suc n) c time class len = record { time = time; class = class; channel = c; start = 0; length = len; primary = 0 } ∷ block_plains n (c + 1) time class len

unfoldable pub blocks_plains : ℕ → ℕ → ℕ → List Block → List Row
blocks_plains step ch time [] = []
blocks_plains step ch time (b ∷ bs) = block_plains ch 0 (placed step time b.gap) b.class b.length ++ blocks_plains step ch (next_place step time b.gap) bs

plain_block : (n c time class start len : ℕ) → plains (block_rows n c time class start len) ≡ block_plains n c time class len
unfolding block_rows block_plains
plain_block zero c time class start len = refl
plain_block (suc n) c time class start len = rw (plain_block n (c + 1) time class (start + len) len)

pub plain_blocks : (step ch time start : ℕ) (bs : List Block) → plains (blocks_rows step ch time start bs) ≡ blocks_plains step ch time bs
unfolding blocks_rows blocks_plains
plain_blocks step ch time start [] = refl
plain_blocks step ch time start (b ∷ bs) = rw (plains_append, plain_block, plain_blocks step ch (next_place step time b.gap) (start + ch * b.length) bs)

block_ahead : (ch time class len : ℕ) → 1 ≤ ch → block_plains ch 0 time class len ≡ record { time = time; class = class; channel = 0; start = 0; length = len; primary = 0 } ∷ block_plains (ch - 1) 1 time class len
unfolding block_plains
block_ahead ch time class len h = let n : ch ≡ suc (ch - 1) = omega arith in ap (λ (m : ℕ). block_plains m 0 time class len) n

-- What a plan that is no refusal went by

passed : (t : Bool) (x : Contents) (gs : List Group) → cond t x (refused unwritable) ≡ groups gs → (t ≡ true) × (x ≡ groups gs)
passed true x gs h = (refl, h)
passed false x gs h = let z : ◌≡◌ {A = ℕ} 0 1 = cc in absurd (omega arith)

-- a frame-block that starts with the row r
pub record Begun (format ch : ℕ) (p r : Row) (rs : List Row) (gs : List Group) : Type 0 where
  pub code : code_for format r.class r.length < no_code
  pub steps : ticks_after (step_of format) p.time r.time % step_of format ≡ 0
  pub channel : r.channel ≡ 0
  pub table : List Group
  pub rest : plan_from format ch (standing ch 1) r rs ≡ groups table
  pub put : Attached format r (gap_between (step_of format) p.time r.time) table gs

pub begun : (format ch : ℕ) (p r : Row) (rs : List Row) (gs : List Group) → plan_from format ch 0 p (r ∷ rs) ≡ groups gs → Begun format ch p r rs gs
unfolding plan_from
begun format ch p r rs gs h =
    let a = passed (follows format 0 p r) _ gs h in
    let b = both (eqb r.channel 0) _ a.0 in
    let c = both (ltb (code_for format r.class r.length) no_code) _ b.1 in
    go (plan_from format ch (standing ch 1) r rs) refl (ltb-true _ _ c.0) (eqb-true _ _ c.1) (eqb-true _ _ b.0) a.1
  where
    go : (x : Contents) → plan_from format ch (standing ch 1) r rs ≡ x → code_for format r.class r.length < no_code → ticks_after (step_of format) p.time r.time % step_of format ≡ 0
        → r.channel ≡ 0 → attach format r (gap_between (step_of format) p.time r.time) x ≡ groups gs → Begun format ch p r rs gs
    go (refused q) e i j k m = let z : ◌≡◌ {A = ℕ} 0 1 = cc in absurd (omega arith)
    go (groups table) e i j k m = record { code = i; steps = j; channel = k; table = table; rest = e; put = attached format r _ table gs m }

-- a frame-block that goes on with the row r
pub record Gone-on (format ch c : ℕ) (p r : Row) (rs : List Row) (gs : List Group) : Type 0 where
  pub same : Alike r (record { time = p.time; class = p.class; channel = c; start = 0; length = p.length; primary = 0 })
  pub rest : plan_from format ch (standing ch (c + 1)) r rs ≡ groups gs

pub gone_on : (format ch c : ℕ) (p r : Row) (rs : List Row) (gs : List Group) → (c ≡ 0 → ⊥) → plan_from format ch c p (r ∷ rs) ≡ groups gs → Gone-on format ch c p r rs gs
unfolding plan_from
gone_on format ch c p r rs gs n h =
    let a = passed (follows format c p r) _ gs h in
    let b = both (eqb r.channel c) _ a.0 in
    let d : continues p r ≡ true = rw (ne_eqb c 0 n) at b.1 in
    let e = both (eqb r.time p.time) _ d in
    let f = both (eqb r.class p.class) _ e.1 in
    record {
      same = record { time = eqb-true _ _ e.0; class = eqb-true _ _ f.0; channel = eqb-true _ _ b.0; length = eqb-true _ _ f.1 };
      rest = rw (ne_eqb c 0 n) at a.1;
    }

-- Times of 32 bits
abbrev pub Times : List Row → Type 0
Times [] = Unit {0}
Times (r ∷ rs) = (r.time < 2 ^ 32) × Times rs

-- the rows of a plan after p, at channel c with n rows of its frame-block to come
pub record Planned (format ch n c : ℕ) (p : Row) (rs : List Row) (gs : List Group) : Type 0 where
  pub rows : plains rs ≡ block_plains n c p.time p.class p.length ++ blocks_plains (step_of format) ch (next (step_of format) p.time) (blocks_in gs)
  pub runs : Later format gs

module _ (format ch : ℕ) (some : 1 ≤ ch) where
  planned_none : (c : ℕ) (p : Row) (gs : List Group) → groups [] ≡ groups gs → Planned format ch 0 c p [] gs
  unfolding block_plains blocks_plains
  planned_none c p gs h = subst (Planned format ch 0 c p []) (same_groups [] gs h) (record { rows = refl; runs = tt })

  planned_begun : (c : ℕ) (p r : Row) (rs : List Row) (gs : List Group) → p.time < 2 ^ 32 → r.time < 2 ^ 32 → (b : Begun format ch p r rs gs)
      → Planned format ch (ch - 1) 1 r rs b.table → Planned format ch 0 c p (r ∷ rs) gs
  unfolding block_plains blocks_plains
  planned_begun c p r rs gs t u b k =
      let step = step_of format in
      let gap = gap_between step p.time r.time in
      let e : placed step (next step p.time) gap ≡ r.time = placed_back format p.time r.time t u b.steps in
      let rest = blocks_plains step ch (next step r.time) (blocks_in b.table) in
      let first : Row = record { time = r.time; class = r.class; channel = 0; start = 0; length = r.length; primary = 0 } in
      let f : plain r ≡ first = λ i. record { time = r.time; class = r.class; channel = b.channel i; start = 0; length = r.length; primary = 0 } in
      record {
        rows = ap (λ (x : Row). x ∷ plains rs) f ∙ ap (λ (l : List Row). first ∷ l) k.rows
            ∙ ap (λ (l : List Row). l ++ rest) (sym (block_ahead ch r.time r.class r.length some))
            ∙ ap (λ (x : ℕ). block_plains ch 0 x r.class r.length ++ blocks_plains step ch (next step x) (blocks_in b.table)) (sym e)
            ∙ ap (blocks_plains step ch (next step p.time)) (sym b.put.blocks);
        runs = b.put.runs b.code k.runs;
      }

  planned_gone_on : (n c : ℕ) (p r : Row) (rs : List Row) (gs : List Group) → (g : Gone-on format ch c p r rs gs)
      → Planned format ch n (c + 1) r rs gs → Planned format ch (suc n) c p (r ∷ rs) gs
  unfolding block_plains
  planned_gone_on n c p r rs gs g k =
      let s = g.same in
      let first : Row = record { time = p.time; class = p.class; channel = c; start = 0; length = p.length; primary = 0 } in
      let f : plain r ≡ first = λ i. record { time = s.time i; class = s.class i; channel = s.channel i; start = 0; length = s.length i; primary = 0 } in
      record {
        rows = ap (λ (x : Row). x ∷ plains rs) f
            ∙ ap (λ (l : List Row). first ∷ l)
            (rw (s.time, s.class, s.length) at k.rows);
        runs = k.runs;
      }

  pub planned : (n c : ℕ) (p : Row) (rs : List Row) (gs : List Group) → 1 ≤ c → n + c ≡ ch → p.time < 2 ^ 32 → Times rs
      → plan_from format ch (standing ch c) p rs ≡ groups gs → Planned format ch n c p rs gs
  unfolding plan_from
  planned zero c p [] gs h e t ts q =
      let a : c ≡ ch = omega arith in
      planned_none c p gs (rw (eq-eqb c ch a) at q)
  planned (suc n) c p [] gs h e t ts q =
      let a : c ≡ ch → ⊥ = omega arith in
      let b : c ≡ 0 → ⊥ = omega arith in
      let k = rw (ne_eqb c ch a, ne_eqb c 0 b) at q in let z : ◌≡◌ {A = ℕ} 0 1 = cc in absurd (omega arith)
  planned zero c p (r ∷ rs) gs h e t ts q =
      let a : c ≡ ch = omega arith in
      let b = begun format ch p r rs gs (rw (eq-eqb c ch a) at q) in
      planned_begun c p r rs gs t ts.0 b (planned (ch - 1) 1 r rs b.table (omega arith) (omega arith) ts.0 ts.1 b.rest)
  planned (suc n) c p (r ∷ rs) gs h e t ts q =
      let a : c ≡ ch → ⊥ = omega arith in
      let b : c ≡ 0 → ⊥ = omega arith in
      let g = gone_on format ch c p r rs gs b (rw (ne_eqb c ch a) at q) in
      planned_gone_on n c p r rs gs g (planned n (c + 1) r rs gs (omega arith) (omega arith) ts.0 ts.1 g.rest)
