-- Laws of rows that are the rows of a list, row by row, but for their starts.
use mathlib.Core.Path.{◌≡◌, refl, ap, sym, ◌∙◌}
use mathlib.Core.List.{List, [], ◌∷◌, ◌++◌}
use mathlib.Core.Bool.{false}
use Prim.Native.Nat.{ℕ, zero, suc, ◌+◌, ◌-◌, ◌≤◌}
use native.Mathlib.Omega.{arith}
use lib.ListN.{length, take, drop, length-take, length-drop}
use lib.Seq.{take-append-le, drop-append-le}
use lib.Dec.{ltb}
use borrow.Author.Tests.{ltb-false}
use Rattle.rtp.proofs.TestLaws.{neither}
use Rattle.rtp.proofs.AreaLaws.{part_size}
use Rattle.read_rows.specs.Rows.{Row, frame_in}
use Rattle.write_plan.specs.Lists.{outside}
use Rattle.write_claims.specs.ReadingBack.{SameFrames}

pub same_length : (p bytes : List ℕ) (qs rs : List Row) → SameFrames p bytes qs rs → length qs ≡ length rs
same_length p bytes [] [] h = refl
same_length p bytes [] (r ∷ rs) h = absurd h
same_length p bytes (q ∷ qs) [] h = absurd h
same_length p bytes (q ∷ qs) (r ∷ rs) h = ap suc (same_length p bytes qs rs h.1)

pub same_append : (p bytes : List ℕ) (qs rs qs' rs' : List Row) → SameFrames p bytes qs rs → SameFrames p bytes qs' rs' → SameFrames p bytes (qs ++ qs') (rs ++ rs')
same_append p bytes [] [] qs' rs' h k = k
same_append p bytes [] (r ∷ rs) qs' rs' h k = absurd h
same_append p bytes (q ∷ qs) [] qs' rs' h k = absurd h
same_append p bytes (q ∷ qs) (r ∷ rs) qs' rs' h k = (h.0, same_append p bytes qs rs qs' rs' h.1 k)

-- a part that is whole in a list is the same in a longer one
part_longer : (n s : ℕ) (p back : List ℕ) → length (take n (drop s p)) ≡ n → take n (drop s (p ++ back)) ≡ take n (drop s p)
part_longer zero s p back h = refl
part_longer (suc n) s p back h =
    let m : suc n ≤ length p - s = let e = length-take (suc n) (drop s p) in let d = length-drop s p in omega arith in
    ap (take (suc n)) (drop-append-le s p back (omega arith)) ∙ take-append-le (suc n) (drop s p) back (omega (arith, length-drop s p))

-- bytes after those that the rows lie in
pub same_longer : (p back bytes : List ℕ) (qs rs : List Row) → outside (length bytes) rs ≡ false → SameFrames p bytes qs rs → SameFrames (p ++ back) bytes qs rs
unfolding outside
same_longer p back bytes [] [] o h = tt
same_longer p back bytes [] (r ∷ rs) o h = absurd h
same_longer p back bytes (q ∷ qs) [] o h = absurd h
same_longer p back bytes (q ∷ qs) (r ∷ rs) o h =
    let i = neither (ltb (length bytes) (r.start + r.length)) (outside (length bytes) rs) o in
    let n : length (frame_in p q) ≡ q.length = ap length h.0.frame ∙ part_size bytes r.start r.length (ltb-false _ _ i.0) ∙ sym h.0.length in (
      record {
        time = h.0.time;
        class = h.0.class;
        channel = h.0.channel;
        length = h.0.length;
        frame = part_longer q.length q.start p back n ∙ h.0.frame;
      },
      same_longer p back bytes qs rs i.1 h.1,
    )
