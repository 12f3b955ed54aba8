-- Laws of areas that are written over from a place on.
use mathlib.Core.Path.{◌≡◌, refl, ap, sym, ◌∙◌}
use mathlib.Core.List.{List, [], ◌∷◌, ◌++◌, append-nil}
use Prim.Native.Nat.{ℕ, zero, suc, ◌+◌, ◌-◌, ◌≤◌}
use native.Mathlib.Omega.{arith}
use lib.ListN.{length, take, drop, length-append, length-drop, drop_of_length-le}
use lib.Seq.{take_at, length-take-le}
use borrow.Rule.Slice.PartMut.{put_mid}
use Rattle.rtp.specs.Areas.{over}
use Rattle.rtp.proofs.AreaLaws.{over_more, over_rest, part_to_end}
use Rattle.write_packet.specs.Room.{over_from}

-- the area past a place before it
pub from_drop : (k n m : ℕ) (ws l : List ℕ) → m ≡ k + n → k ≤ length l → drop k (over_from m ws l) ≡ over_from n ws (drop k l)
unfolding over_from
from_drop zero n m ws l e h = let q : m ≡ n = omega arith in ap (λ (j : ℕ). over_from j ws l) q
from_drop (suc k) n zero ws l e h = absurd (omega arith)
from_drop (suc k) n (suc m) ws [] e h = absurd (omega arith)
from_drop (suc k) n (suc m) ws (x ∷ l) e h = from_drop k n m ws l (omega arith) (omega arith)

over_first : (a l : List ℕ) (n : ℕ) → length a ≡ n → take n (over a l) ≡ a
unfolding over
over_first a l n h = take_at a (drop (length a) l) n h

-- one after another
pub from_more : (n m : ℕ) (a b l : List ℕ) → m ≡ n + length a → n ≤ length l → over_from m b (over_from n a l) ≡ over_from n (a ++ b) l
unfolding over_from
from_more zero m a b l e h =
    let q : length a ≡ m = omega arith in
    rw (over_first a l m q, over_rest a l m q) (ap (λ (j : ℕ). a ++ over b (drop j l)) (sym q) ∙ sym (over_more a b l))
from_more (suc n) zero a b l e h = absurd (omega arith)
from_more (suc n) (suc m) a b [] e h = absurd (omega arith)
from_more (suc n) (suc m) a b (x ∷ l) e h = ap (λ (t : List ℕ). x ∷ t) (from_more n m a b l (omega arith) (omega arith))

none_left : (m : List ℕ) (n : ℕ) → drop (length m - n) (drop n m) ≡ []
none_left m n = drop_of_length-le (drop n m) {i = length m - n} (simp length-drop (omega arith))

-- the area from n on to its end, lent and written over
pub from_part : (b m e : List ℕ) (n : ℕ) → e ≡ over b (take (length m - n) (drop n m)) → put_mid n (length m - n) m e ≡ over_from n b m
unfolding over_from
from_part b m e n q = rw (none_left m n, append-nil, q, part_to_end n m)

-- from where the front that is written over ends
pub from_front : (a b l : List ℕ) (n : ℕ) → length a ≡ n → n ≤ length l → over a (over_from n b l) ≡ over (a ++ b) l
unfolding over over_from
from_front a b l n e k =
    let past : drop (length a) (over_from n b l) ≡ over b (drop (length a) l) = from_drop (length a) 0 n b l (omega arith) (omega arith) in
    ap (λ (t : List ℕ). a ++ t) past ∙ sym (over_more a b l)

-- it is as long as the place at least
pub from_length : (n : ℕ) (ws l : List ℕ) → n ≤ length l → n ≤ length (over_from n ws l)
unfolding over_from
from_length n ws l h = omega (arith, length-append (take n l) (over ws (drop n l)), length-take-le n l h)

-- a first block, whose header h is at the front and whose payload p is at `start`, and then the others after it
pub from_both : (h hs p ps l m e : List ℕ) (start s : ℕ) → length h ≡ 4 → 4 ≤ start → start ≤ length l → s ≡ length p → m ≡ over h (over_from start p l)
    → e ≡ over hs (over_from (start - 4 + s) ps (take (length m - 4) (drop 4 m))) → put_mid 4 (length m - 4) m e ≡ over (h ++ hs) (over_from start (p ++ ps) l)
from_both h hs p ps l m e start s four apart inside size laid others =
    let one = over_from start p l in
    let all = over_from start (p ++ ps) l in
    let first : take 4 m ≡ h = ap (λ (t : List ℕ). take 4 t) laid ∙ over_first h one 4 four in
    let rest : drop 4 m ≡ drop 4 one = ap (λ (t : List ℕ). drop 4 t) laid ∙ over_rest h one 4 four in
    let place : start + length p ≡ 4 + (start - 4 + s) = omega arith in
    let room : 4 ≤ length one = omega (arith, from_length start p l inside) in
    let past : over_from (start - 4 + s) ps (drop 4 one) ≡ drop 4 all =
    sym (from_drop 4 (start - 4 + s) (start + length p) ps one place room) ∙ ap (λ (t : List ℕ). drop 4 t) (from_more start (start + length p) p ps l refl inside) in
    rw (first, none_left m 4, append-nil, others, part_to_end 4 m, rest, past) (ap (λ (n : ℕ). h ++ over hs (drop n all)) (sym four) ∙ sym (over_more h hs all))
