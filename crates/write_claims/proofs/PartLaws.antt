-- Laws of the parts of a packet: what stands behind them.
use mathlib.Core.Path.{◌≡◌, refl, ap, sym, ◌∙◌, subst}
use mathlib.Core.List.{List, [], ◌∷◌}
use mathlib.Core.Bool.{Bool, true, false, cond}
use Prim.Native.Nat.{ℕ, zero, suc, ◌^◌, ◌≤◌, ◌<◌}
use native.Mathlib.Omega.{arith}
use lib.ListN.{length, take, drop}
use lib.Dec.{ltb}
use borrow.Author.Tests.{ltb-false}
use Rattle.rtp.specs.Editions.{Edition}
use Rattle.rtp.specs.Time.{difference}
use Rattle.rtp.specs.declared.settings.Settings.{Settings}
use Rattle.read_rows.specs.Rows.{Row}
use Rattle.write_payload.specs.Writings.{Encoded, no_bytes, bytes_of, encoded}
use Rattle.write_plan.specs.Lists.{first_time}
use Rattle.write_claims.proofs.MarkLaws.{first_count, later_counts}
use Rattle.write_claims.proofs.PlanRowLaws.{Times}
use Rattle.write_parts.specs.Parts.{max_offset, max_block, primary_time, Part, Parts, no_parts, parts_of, primary_part, prepend_part, redundant_part, parts}

-- Times of 32 bits

pub times_take : (n : ℕ) (rs : List Row) → Times rs → Times (take n rs)
times_take zero rs h = tt
times_take (suc n) [] h = tt
times_take (suc n) (r ∷ rs) h = (h.0, times_take n rs h.1)

pub times_drop : (n : ℕ) (rs : List Row) → Times rs → Times (drop n rs)
times_drop zero rs h = h
times_drop (suc n) [] h = tt
times_drop (suc n) (r ∷ rs) h = times_drop n rs h.1

pub first_small : (rs : List Row) → Times rs → first_time rs < 2 ^ 32
first_small [] h = omega arith
first_small (r ∷ rs) h = h.0

pub primary_small : (counts : List ℕ) (rs : List Row) → Times rs → primary_time counts rs < 2 ^ 32
unfolding primary_time
primary_small [] rs h = omega arith
primary_small (n ∷ []) rs h = first_small rs h
primary_small (n ∷ m ∷ ns) rs h = primary_small (m ∷ ns) (drop n rs) (times_drop n rs h)

-- a redundant block of the list rs, in a packet at `time`
pub record Redundancy (ed : Edition) (st : Settings) (request : ℕ) (bytes : List ℕ) (time : ℕ) (b : Part) (rs : List Row) : Type 0 where
  pub payload : encoded ed st request bytes rs ≡ bytes_of b.bytes
  pub offset : b.offset ≡ difference time (first_time rs)
  pub near : b.offset ≤ max_offset
  pub short : length b.bytes ≤ max_block

-- the redundant blocks bs and the primary payload p of the lists of so many rows in rs, with this mode request
abbrev pub Made : Edition → Settings → ℕ → List ℕ → ℕ → List ℕ → List Part → List ℕ → List Row → Type 0
Made ed st request bytes time counts [] p rs = (encoded ed st request bytes rs ≡ bytes_of p) × (first_time rs ≡ time) × (length counts ≡ 1)
Made ed st request bytes time counts (b ∷ bs) p rs =
    Redundancy ed st request bytes time b (take (first_count counts) rs) × Made ed st request bytes time (later_counts counts) bs p (drop (first_count counts) rs) × (2 ≤ length counts)

record Same (bs : List Part) (p : List ℕ) (cs : List Part) (q : List ℕ) : Type 0 where
  blocks : bs ≡ cs
  primary : p ≡ q

same_parts : (bs cs : List Part) (p q : List ℕ) → parts_of bs p ≡ parts_of cs q → Same bs p cs q
same_parts bs cs p q h = record { blocks = cc; primary = cc }

past : (t : Bool) (x : Parts) (bs : List Part) (p : List ℕ) → cond t no_parts x ≡ parts_of bs p → (t ≡ false) × (x ≡ parts_of bs p)
past true x bs p h = let z : ◌≡◌ {A = ℕ} 0 1 = cc in absurd (omega arith)
past false x bs p h = (refl, h)

module _ (ed : Edition) (st : Settings) (request : ℕ) (bytes : List ℕ) (time : ℕ) where
  made_last : (n : ℕ) (rs : List Row) (bs : List Part) (p : List ℕ) → time ≡ first_time rs → primary_part (encoded ed st request bytes rs) ≡ parts_of bs p → Made ed st request bytes time (n ∷ []) bs p rs
  made_last n rs bs p t h = go (encoded ed st request bytes rs) refl h
    where
      go : (x : Encoded) → encoded ed st request bytes rs ≡ x → primary_part x ≡ parts_of bs p → Made ed st request bytes time (n ∷ []) bs p rs
      go (no_bytes r) e k = let z : ◌≡◌ {A = ℕ} 0 1 = cc in absurd (omega arith)
      go (bytes_of q) e k =
          let s = same_parts [] bs q p k in
          subst (λ (l : List Part). Made ed st request bytes time (n ∷ []) l p rs) s.blocks (e ∙ ap bytes_of s.primary, sym t, refl)

  made_more : (n m : ℕ) (ns : List ℕ) (rs : List Row) (rest : Parts) (bs : List Part) (p : List ℕ) → ((cs : List Part) (q : List ℕ) → rest ≡ parts_of cs q → Made ed st request bytes time (m ∷ ns) cs q (drop n rs))
      → redundant_part (difference time (first_time (take n rs))) (encoded ed st request bytes (take n rs)) rest ≡ parts_of bs p → Made ed st request bytes time (n ∷ m ∷ ns) bs p rs
  made_more n m ns rs rest bs p ih h = go (encoded ed st request bytes (take n rs)) refl h
    where
      offset : ℕ
      offset = difference time (first_time (take n rs))

      put : (q : List ℕ) → encoded ed st request bytes (take n rs) ≡ bytes_of q → length q ≤ max_block → offset ≤ max_offset → (x : Parts) → rest ≡ x
          → prepend_part (record { offset = offset; bytes = q }) x ≡ parts_of bs p → Made ed st request bytes time (n ∷ m ∷ ns) bs p rs
      put q e short near no_parts r k = let z : ◌≡◌ {A = ℕ} 0 1 = cc in absurd (omega arith)
      put q e short near (parts_of cs d) r k =
          let b : Part = record { offset = offset; bytes = q } in
          let s = same_parts (b ∷ cs) bs d p k in
          subst (λ (l : List Part). Made ed st request bytes time (n ∷ m ∷ ns) l p rs) s.blocks
          (record { payload = e; offset = refl; near = near; short = short }, ih cs p (r ∙ ap (parts_of cs) s.primary), omega arith)

      go : (x : Encoded) → encoded ed st request bytes (take n rs) ≡ x → redundant_part offset x rest ≡ parts_of bs p → Made ed st request bytes time (n ∷ m ∷ ns) bs p rs
      go (no_bytes r) e k = let z : ◌≡◌ {A = ℕ} 0 1 = cc in absurd (omega arith)
      go (bytes_of q) e k =
          let a = past (ltb max_block (length q)) _ bs p k in
          let b = past (ltb max_offset offset) _ bs p a.1 in
          put q e (ltb-false _ _ a.0) (ltb-false _ _ b.0) rest refl b.1

  pub made : (counts : List ℕ) (rs : List Row) (bs : List Part) (p : List ℕ) → time ≡ primary_time counts rs → parts ed st request bytes time counts rs ≡ parts_of bs p → Made ed st request bytes time counts bs p rs
  unfolding primary_time parts
  made [] rs bs p t h = let z : ◌≡◌ {A = ℕ} 0 1 = cc in absurd (omega arith)
  made (n ∷ []) rs bs p t h = made_last n rs bs p t h
  made (n ∷ m ∷ ns) rs bs p t h = made_more n m ns rs (parts ed st request bytes time (m ∷ ns) (drop n rs)) bs p (λ cs q k. made (m ∷ ns) (drop n rs) cs q t k) h
