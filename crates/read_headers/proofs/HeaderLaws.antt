-- Laws of the RTP header: where its payload lies.
use mathlib.Core.Path.{◌≡◌, refl, subst}
use Rattle.std.specs.Prelude.{Err, Ok, Result}
use mathlib.Core.List.{List}
use mathlib.Core.Bool.{Bool, true, false, cond}
use Prim.Native.Nat.{ℕ, ◌+◌, ◌-◌, ◌/◌, ◌%◌, ◌≤◌}
use native.Mathlib.Omega.{arith}
use lib.ListN.{length}
use lib.Dec.{ltb, eqb}
use borrow.Author.Tests.{ltb-false}
use Rattle.rtp.specs.declared.refusal.Refusal.{Refusal}
use Rattle.read_headers.specs.declared.header.Header.{Header}
use Rattle.rtp.specs.Sizes.{min_packet, max_packet}
use Rattle.rtp.specs.Numbers.{byte_at}
use Rattle.read_headers.specs.Header.{csrc_end, extension_end, payload_start, payload_end, fields, ended_at, started_at, header}
use Rattle.rtp.proofs.TestLaws.{by-test}

-- what a place has that was found behind a test for a refusal
past_bound : (b : Bool) (r : Refusal) (x : Result ℕ Refusal) (n : ℕ) → cond b (Err r) x ≡ Ok n → (b ≡ false) × (x ≡ Ok n)
past_bound true r x n h = let z : ◌≡◌ {A = ℕ} 0 1 = cc in absurd (omega arith)
past_bound false r x n h = (refl, h)

same_at : (m n : ℕ) → ◌≡◌ {A = Result ℕ Refusal} (Ok m) (Ok n) → m ≡ n
same_at m n h = cc

pub start_within : (s : List ℕ) (n : ℕ) → payload_start s ≡ Ok n → (min_packet ≤ n) × (n ≤ length s)
unfolding payload_start
start_within s n h =
    let p1 = past_bound (ltb (length s) (csrc_end s)) _ _ n h in
    by-test (eqb (byte_at s 0 / 16 % 2) 0)
    (λ a. let e = same_at (csrc_end s) n (rw a at p1.1) in (omega arith, omega (arith, ltb-false (length s) (csrc_end s) p1.0)))
    (λ a.
    let p2 = past_bound (ltb (length s) (csrc_end s + 4)) _ _ n (rw a at p1.1) in
    let p3 = past_bound (ltb (length s) (extension_end s)) _ _ n p2.1 in
    let e = same_at (extension_end s) n p3.1 in
    (omega arith, omega (arith, ltb-false (length s) (extension_end s) p3.0)))

pub end_within : (s : List ℕ) (start n : ℕ) → start ≤ length s → payload_end s start ≡ Ok n → (start ≤ n) × (n ≤ length s)
unfolding payload_end
end_within s start n l h =
    by-test (eqb (byte_at s 0 / 32 % 2) 0)
    (λ a. let e = same_at (length s) n (rw a at h) in (omega arith, omega arith))
    (λ a.
    let p1 = past_bound (eqb (byte_at s (length s - 1)) 0) _ _ n (rw a at h) in
    let p2 = past_bound (ltb (length s - start) (byte_at s (length s - 1))) _ _ n p1.1 in
    let e = same_at (length s - byte_at s (length s - 1)) n p2.1 in
    let f = ltb-false (length s - start) (byte_at s (length s - 1)) p2.0 in
    (omega arith, omega arith))

-- what a header that was read says of its packet
pub record Within (s : List ℕ) (h : Header) : Type 0 where
  pub long : min_packet ≤ length s
  pub short : length s ≤ max_packet
  pub after : min_packet ≤ h.start
  pub ordered : h.start ≤ h.end
  pub inside : h.end ≤ length s

past_header : (b : Bool) (r : Refusal) (x : Result Header Refusal) (h : Header) → cond b (Err r) x ≡ Ok h → (b ≡ false) × (x ≡ Ok h)
past_header true r x h e = let z : ◌≡◌ {A = ℕ} 0 1 = cc in absurd (omega arith)
past_header false r x h e = (refl, e)

same_header : (a b : Header) → ◌≡◌ {A = Result Header Refusal} (Ok a) (Ok b) → a ≡ b
same_header a b e = cc

ended : (s : List ℕ) (start : ℕ) (h : Header) → min_packet ≤ length s → length s ≤ max_packet → min_packet ≤ start → start ≤ length s
    → (b : Result ℕ Refusal) → payload_end s start ≡ b → ended_at s start b ≡ Ok h → Within s h
unfolding fields
ended s start h l m a i (Err r) q e = let z : ◌≡◌ {A = ℕ} 0 1 = cc in absurd (omega arith)
ended s start h l m a i (Ok end) q e =
    let w = end_within s start end i q in
    subst (λ (x : Header). Within s x) (same_header _ h e) (record { long = l; short = m; after = a; ordered = w.0; inside = w.1 })

started : (s : List ℕ) (h : Header) → min_packet ≤ length s → length s ≤ max_packet
    → (b : Result ℕ Refusal) → payload_start s ≡ b → started_at s b ≡ Ok h → Within s h
started s h l m (Err r) q e = let z : ◌≡◌ {A = ℕ} 0 1 = cc in absurd (omega arith)
started s h l m (Ok start) q e =
    let w = start_within s start q in
    ended s start h l m w.0 w.1 (payload_end s start) refl e

pub within : (s : List ℕ) (h : Header) → header s ≡ Ok h → Within s h
unfolding header
within s h e =
    let p1 = past_header (ltb (length s) min_packet) _ _ h e in
    let p2 = past_header (ltb max_packet (length s)) _ _ h p1.1 in
    by-test (eqb (byte_at s 0 / 64) 2)
    (λ a. started s h (ltb-false _ _ p1.0) (ltb-false _ _ p2.0) (payload_start s) refl (rw a at p2.1))
    (λ a. let y = rw a at p2.1 in let z : ◌≡◌ {A = ℕ} 0 1 = cc in absurd (omega arith))
