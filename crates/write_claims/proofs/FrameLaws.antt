-- Laws of rows but for their starts and marks, and of their frames laid one after another.
use mathlib.Core.Path.{◌≡◌, refl, ap, sym, ◌∙◌, subst}
use mathlib.Core.List.{List, [], ◌∷◌, ◌++◌, append_assoc}
use mathlib.Core.Bool.{false}
use Prim.Native.Nat.{ℕ, ◌+◌}
use native.Mathlib.Omega.{arith}
use lib.ListN.{length, take, drop, length-append}
use lib.Seq.{take_at, drop_at}
use lib.Dec.{ltb}
use borrow.Author.Tests.{ltb-false}
use Rattle.rtp.proofs.TestLaws.{neither}
use Rattle.rtp.proofs.AreaLaws.{part_size}
use Rattle.read_rows.specs.Rows.{Row, frame_in}
use Rattle.write_plan.specs.Lists.{outside}
use Rattle.write_payload.specs.Bytes.{frames}
use Rattle.write_plan.specs.Room.{lengths_in}
use Rattle.write_claims.specs.ReadingBack.{SameFrames}
use Rattle.write_claims.proofs.TableBlockLaws.{Laid}

-- a row but for its start and its mark
abbrev pub plain : Row → Row
plain r = record { time = r.time; class = r.class; channel = r.channel; start = 0; length = r.length; primary = 0 }

abbrev pub plains : List Row → List Row
plains [] = []
plains (r ∷ rs) = plain r ∷ plains rs

pub plains_append : (a b : List Row) → plains (a ++ b) ≡ plains a ++ plains b
plains_append [] b = refl
plains_append (r ∷ a) b = rw (plains_append a b)

-- rows that are the same but for their starts and marks
pub record Alike (q r : Row) : Type 0 where
  pub time : q.time ≡ r.time
  pub class : q.class ≡ r.class
  pub channel : q.channel ≡ r.channel
  pub length : q.length ≡ r.length

cons_first : (q r : Row) (qs rs : List Row) → q ∷ qs ≡ r ∷ rs → q ≡ r
cons_first q r qs rs h = cc

cons_rest : (q r : Row) (qs rs : List Row) → q ∷ qs ≡ r ∷ rs → qs ≡ rs
cons_rest q r qs rs h = cc

pub plain_first : (q r : Row) (qs rs : List Row) → plains (q ∷ qs) ≡ plains (r ∷ rs) → Alike q r
plain_first q r qs rs h =
    let e : plain q ≡ plain r = cons_first (plain q) (plain r) (plains qs) (plains rs) h in
    record { time = ap (λ (x : Row). x.time) e; class = ap (λ (x : Row). x.class) e; channel = ap (λ (x : Row). x.channel) e; length = ap (λ (x : Row). x.length) e }

pub plain_rest : (q r : Row) (qs rs : List Row) → plains (q ∷ qs) ≡ plains (r ∷ rs) → plains qs ≡ plains rs
plain_rest q r qs rs h = cons_rest (plain q) (plain r) (plains qs) (plains rs) h

pub same_plains : (p bytes : List ℕ) (qs rs : List Row) → SameFrames p bytes qs rs → plains qs ≡ plains rs
same_plains p bytes [] [] h = refl
same_plains p bytes [] (r ∷ rs) h = absurd h
same_plains p bytes (q ∷ qs) [] h = absurd h
same_plains p bytes (q ∷ qs) (r ∷ rs) h = let e = same_plains p bytes qs rs h.1 in λ i. record { time = h.0.time i; class = h.0.class i; channel = h.0.channel i; start = 0; length = h.0.length i; primary = 0 } ∷ e i

pub lengths_plains : (rs : List Row) → lengths_in (plains rs) ≡ lengths_in rs
unfolding lengths_in
lengths_plains [] = refl
lengths_plains (r ∷ rs) = rw (lengths_plains rs)

pub length_plains : (rs : List Row) → length (plains rs) ≡ length rs
length_plains [] = refl
length_plains (r ∷ rs) = rw (length_plains rs)

-- rows laid after a front find the frames of their like there
pub laid_same : (front bytes : List ℕ) (qs rs : List Row) → plains qs ≡ plains rs → Laid (length front) qs → outside (length bytes) rs ≡ false
    → SameFrames (front ++ frames bytes rs) bytes qs rs
unfolding frames outside
laid_same front bytes [] [] e l h = tt
laid_same front bytes [] (r ∷ rs) e l h = let z : ◌≡◌ {A = ℕ} 0 1 = cc in absurd (omega arith)
laid_same front bytes (q ∷ qs) [] e l h = let z : ◌≡◌ {A = ℕ} 0 1 = cc in absurd (omega arith)
laid_same front bytes (q ∷ qs) (r ∷ rs) e l h =
    let p = neither (ltb (length bytes) (r.start + r.length)) (outside (length bytes) rs) h in
    let a = plain_first q r qs rs e in
    let n = part_size bytes r.start r.length (ltb-false _ _ p.0) in
    let s : length (front ++ frame_in bytes r) ≡ length front + q.length = rw (length-append, n, a.length) in
    let rest = frame_in bytes r ++ frames bytes rs in
    let f : frame_in (front ++ rest) q ≡ frame_in bytes r =
    ap (λ (k : ℕ). take q.length (drop k (front ++ rest))) l.0
    ∙ ap (take q.length) (drop_at front rest (length front) refl)
    ∙ take_at (frame_in bytes r) (frames bytes rs) q.length (n ∙ sym a.length) in (
      record { time = a.time; class = a.class; channel = a.channel; length = a.length; frame = f },
      subst (λ (x : List ℕ). SameFrames x bytes qs rs) (append_assoc front (frame_in bytes r) (frames bytes rs))
          (laid_same (front ++ frame_in bytes r) bytes qs rs (plain_rest q r qs rs e) (rw (← s) at l.1) p.1),
    )
