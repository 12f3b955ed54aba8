use mathlib.Core.Path.{refl, ap, sym, ◌∙◌}
use mathlib.Core.List.{[], ◌∷◌, ◌++◌}
use Prim.Native.Nat.{ℕ}
use native.Mathlib.Omega.{arith}
use lib.ListN.{length-set}
use Rattle.rtp.specs.Areas.{over}
use Rattle.rtp.proofs.AreaLaws.{fitted_part, over_two}
use Rattle.rtp.specs.Numbers.{two, four}
use Rattle.write_parts.proofs.HeadingLaws.{header_short, header_large, header_in}
use Rattle.write_parts.proofs.headers.put_header.Goals as goal

pub returns-then-out-lt-MIN_PACKET : goal.returns-then-out-lt-MIN_PACKET
returns-then-out-lt-MIN_PACKET c =
    sym (header_short _ _ _ _ c.if-out-lt-MIN_PACKET.true)

pub returns-then-packet_type-gt127 : goal.returns-then-packet_type-gt127
returns-then-packet_type-gt127 c =
    sym (header_large _ _ _ _ c.if-packet_type-gt127.true)

pub bounds-out-1 : goal.bounds-out-1
bounds-out-1 c =
    rw length-set (omega (arith, c.if-out-lt-MIN_PACKET.false))

pub returns : goal.returns
returns c =
    let a = c.args in
    let l = a.out.now in
    let b = c.second_byte.result in
    let long = c.if-out-lt-MIN_PACKET.false in
    let front = over_two l 128 b (omega (arith, long)) in
    let numbered = fitted_part (128 ∷ b ∷ []) (two a.heading.sequence) l _ _ 2 refl (omega (arith, long)) front c.put_u16.ensures in
    let stamped = fitted_part (128 ∷ b ∷ two a.heading.sequence) (four a.time) l _ _ 4 refl (omega (arith, long)) numbered c.put_u32.ensures in
    fitted_part (128 ∷ b ∷ (two a.heading.sequence ++ four a.time)) (four a.heading.source) l _ _ 8 refl (omega (arith, long)) stamped c.put_u32-2.ensures
    ∙ ap (λ (n : ℕ). over (128 ∷ n ∷ (two a.heading.sequence ++ (four a.time ++ four a.heading.source))) l) c.second_byte.ensures
    ∙ sym (header_in a.heading a.packet_type a.time l (omega (arith, c.if-packet_type-gt127.false)) long)
