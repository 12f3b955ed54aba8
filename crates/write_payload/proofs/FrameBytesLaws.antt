-- Laws of the frames of a list.
use mathlib.Core.Path.{◌≡◌, refl, ap, sym, ◌∙◌}
use mathlib.Core.List.{List, [], ◌∷◌, ◌++◌, append_assoc, append-nil}
use mathlib.Core.Bool.{true, false}
use Prim.Native.Nat.{ℕ, ◌+◌, ◌-◌, ◌≤◌}
use native.Mathlib.Omega.{arith}
use lib.ListN.{length, take, drop, length-append}
use lib.Dec.{ltb}
use borrow.Author.Tests.{ltb-false}
use borrow.Rule.Slice.PartMut.{put_mid}
use Rattle.rtp.specs.Areas.{over, fitted}
use Rattle.rtp.proofs.TestLaws.{by-test, not-both}
use Rattle.rtp.proofs.AreaLaws.{over_none, length_over, fitted_part, part_cut, part_size}
use Rattle.read_rows.specs.Rows.{Row}
use Rattle.write_plan.specs.Lists.{rows_in, outside}
use Rattle.write_payload.specs.Bytes.{frames}
use Rattle.write_plan.specs.Room.{lengths_in}
use Rattle.write_payload.specs.Room.{FramesRoom}

-- the first row lies in its bytes, and so do the others
inside_more : (n : ℕ) (r : Row) (rs : List Row) → outside n (r ∷ rs) ≡ false → (r.start + r.length ≤ n) × (outside n rs ≡ false)
unfolding outside
inside_more n r rs h = by-test (ltb n (r.start + r.length)) (λ a. not-both true refl (rw a at h)) (λ a. (ltb-false n (r.start + r.length) a, rw a at h))

-- the frames of a list that lie in their bytes are as long as the rows say
pub length_frames : (bytes : List ℕ) (rs : List Row) → outside (length bytes) rs ≡ false → length (frames bytes rs) ≡ lengths_in rs
unfolding frames lengths_in
length_frames bytes [] h = refl
length_frames bytes (r ∷ rs) h =
    let i = inside_more (length bytes) r rs h in
    length-append (take r.length (drop r.start bytes)) (frames bytes rs) ∙ rw (part_size bytes r.start r.length i.0, length_frames bytes rs i.1)

-- after the rows before the rest, whose frames end at a place: what is done, and room for the frames of the others
pub record Going (ws bytes l m rest : List ℕ) (place : ℕ) : Type 0 where
  pub done : List ℕ
  pub placed : length done ≡ place
  pub inside : outside (length bytes) (rows_in rest) ≡ false
  pub room : place + lengths_in (rows_in rest) ≤ length m
  pub kept : length m ≡ length l
  pub laid : m ≡ over done l
  pub all : done ++ frames bytes (rows_in rest) ≡ frames bytes (rows_in ws)

pub going_start : (ws bytes l rest : List ℕ) → rest ≡ ws → FramesRoom (length bytes) (rows_in ws) (length l) → Going ws bytes l l rest 0
going_start ws bytes l rest e r = record {
  done = [];
  placed = refl;
  inside = ap (λ (w : List ℕ). outside (length bytes) (rows_in w)) e ∙ r.inside;
  room = rw e (omega (arith, r.room));
  kept = refl;
  laid = sym (over_none l);
  all = ap (λ (w : List ℕ). frames bytes (rows_in w)) e;
}

module _ (ws bytes l m rest : List ℕ) (place : ℕ) (g : Going ws bytes l m rest place) where
  pub going_end : rows_in rest ≡ [] → m ≡ over (frames bytes (rows_in ws)) l
  unfolding frames
  going_end e =
      let all = sym (append-nil g.done) ∙ ap (λ (rs : List Row). g.done ++ frames bytes rs) (sym e) ∙ g.all in
      g.laid ∙ ap (λ (w : List ℕ). over w l) all

  module _ (r : Row) (next : List ℕ) (e : rows_in rest ≡ r ∷ rows_in next) where
    inside_here : (r.start + r.length ≤ length bytes) × (outside (length bytes) (rows_in next) ≡ false)
    inside_here = inside_more (length bytes) r _ (rw e at g.inside)

    frames_here : frames bytes (rows_in rest) ≡ take r.length (drop r.start bytes) ++ frames bytes (rows_in next)
    unfolding frames
    frames_here = ap (frames bytes) e

    lengths_here : lengths_in (rows_in rest) ≡ r.length + lengths_in (rows_in next)
    unfolding lengths_in
    lengths_here = ap lengths_in e

    pub frame_inside : r.start + r.length ≤ length bytes
    frame_inside = inside_here.0

    pub frame_room : place + r.length ≤ length m
    frame_room = omega (arith, lengths_here, g.room)

    pub going_more : (z : List ℕ) → z ≡ fitted (take (r.start + r.length - r.start) (drop r.start bytes)) (take (length m - place) (drop place m))
        → Going ws bytes l (put_mid place (length m - place) m z) next (place + r.length)
    going_more z q =
        let frame = take r.length (drop r.start bytes) in
        let n = part_size bytes r.start r.length frame_inside in
        let k = length-append g.done frame in
        let laid = fitted_part g.done frame l m z place g.placed (omega (arith, n, frame_room, g.kept)) g.laid
        (q ∙ ap (λ (x : List ℕ). fitted x (take (length m - place) (drop place m))) (part_cut r.start r.length bytes)) in
        let kept = ap (λ (x : List ℕ). length x) laid ∙ length_over (g.done ++ frame) l (omega (arith, k, n, g.placed, frame_room, g.kept)) in
        record {
          done = g.done ++ frame;
          placed = omega (arith, k, n, g.placed);
          inside = inside_here.1;
          room = omega (arith, kept, lengths_here, g.room, g.kept);
          kept = kept;
          laid = laid;
          all = append_assoc g.done frame (frames bytes (rows_in next)) ∙ ap (λ (x : List ℕ). g.done ++ x) (sym frames_here) ∙ g.all;
        }
