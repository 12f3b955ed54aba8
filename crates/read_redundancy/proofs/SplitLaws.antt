-- Laws of a redundancy payload, from what reading its block headers answered.
use mathlib.Core.Path.{◌≡◌, ap, sym, ◌∙◌, subst}
use Rattle.std.specs.Prelude.{Err, Ok, Result}
use mathlib.Core.List.{List}
use mathlib.Core.Bool.{true}
use Prim.Native.Nat.{ℕ, ◌+◌, ◌-◌, ◌≤◌, ◌<◌}
use native.Mathlib.Omega.{arith}
use lib.ListN.{length, drop, length-drop}
use borrow.Author.Tests.{lt-ltb, le-ltb}
use Rattle.rtp.specs.Editions.{Edition}
use Rattle.rtp.specs.Sizes.{max_packet, row_area}
use Rattle.rtp.specs.Ranges.{in_range}
use Rattle.read_headers.specs.Redundancy.{Headers, refused, headers_of, headers, redundancy_headers, headers_answer}
use Rattle.rtp.specs.declared.settings.Settings.{Settings}
use Rattle.rtp.specs.Faults.{fault_at, shifted}
use Rattle.rtp.specs.declared.refusal.Fault.{Fault}
use Rattle.rtp.specs.declared.refusal.Refusal.TheVariants.{LengthMismatch}
use Rattle.read_headers.specs.declared.redundancy.HeaderSizes.{HeaderSizes}
use Rattle.read_headers.proofs.RedundancyLaws.{Small, Within, within, InFront, front}
use Rattle.rtp.proofs.ByteLaws.{Bytes}
use Rattle.read_payload.specs.Payloads.{no_rows, rows_answer}
use Rattle.read_redundancy.specs.Blocks.{split_rows, redundant_rows}
use Rattle.read_redundancy.specs.Room.{headed_rows, blocks_from, BlocksAsked, BlocksRoom}
use Rattle.read_redundancy.proofs.BlockLaws.{from_further}
use Rattle.read_redundancy.proofs.AnswerLaws.{further}

same_sizes : (a b : HeaderSizes) → ◌≡◌ {A = Result HeaderSizes Fault} (Ok a) (Ok b) → a ≡ b
same_sizes a b h = cc

-- what headers that were read say of the payload s
record Is (ed : Edition) (st : Settings) (time at : ℕ) (s : List ℕ) (x : Headers) (z : HeaderSizes) : Type 0 where
  short : length s - z.size < z.redundant → split_rows ed st time at s x ≡ no_rows (fault_at (at + z.size) LengthMismatch)
  whole : z.redundant ≤ length s - z.size → split_rows ed st time at s x ≡ headed_rows ed st 0 time (at + z.size) (drop z.size s) x

is : (ed : Edition) (st : Settings) (time at : ℕ) (s : List ℕ) (z : HeaderSizes) (x : Headers) → headers_answer x ≡ Ok z → Is ed st time at s x z
unfolding headers_answer
is ed st time at s z (refused r) h = let o : ◌≡◌ {A = ℕ} 0 1 = cc in absurd (omega arith)
is ed st time at s z (headers_of bs type) h = subst (λ (y : HeaderSizes). Is ed st time at s (headers_of bs type) y) (same_sizes _ z h) (record {
  short = λ l. rw (lt-ltb _ _ l);
  whole = λ l. rw (le-ltb _ _ l);
})

same_fault : (a b : Fault) → ◌≡◌ {A = Result HeaderSizes Fault} (Err a) (Err b) → a ≡ b
same_fault a b h = cc

is_refused : (ed : Edition) (st : Settings) (time at : ℕ) (s : List ℕ) (r : Fault) (x : Headers) → headers_answer x ≡ Err r → split_rows ed st time at s x ≡ no_rows (shifted at r)
unfolding headers_answer
is_refused ed st time at s r (refused f) h = ap (λ (x : Fault). no_rows (shifted at x)) (same_fault f r h)
is_refused ed st time at s r (headers_of bs type) h = let o : ◌≡◌ {A = ℕ} 0 1 = cc in absurd (omega arith)

module _ (ed : Edition) (st : Settings) (time at : ℕ) (s : List ℕ) where
  pub split_refused : (r : Fault) → headers_answer (redundancy_headers s) ≡ Err r → redundant_rows ed st time at s ≡ no_rows (shifted at r)
  unfolding redundant_rows
  split_refused r h = is_refused ed st time at s r (redundancy_headers s) h

  -- the place at fault lies inside
  pub split_place : at + length s ≤ max_packet → (r : Fault) → headers_answer (redundancy_headers s) ≡ Err r → r.offset ≤ length s
  unfolding redundancy_headers
  split_place l r h = subst (λ (x : Result HeaderSizes Fault). InFront (length s) x) (ap headers_answer (sym (rw (le-ltb max_packet (length s) (omega arith)))) ∙ h) (front s)

  module _ (l : at + length s ≤ max_packet) (z : HeaderSizes) (h : headers_answer (redundancy_headers s) ≡ Ok z) where
    pub split_short : length s - z.size < z.redundant → redundant_rows ed st time at s ≡ no_rows (fault_at (at + z.size) LengthMismatch)
    unfolding redundant_rows
    split_short k = (is ed st time at s z (redundancy_headers s) h).short k

    headers_in : redundancy_headers s ≡ headers s
    unfolding redundancy_headers
    headers_in = rw (le-ltb max_packet (length s) (omega arith))

    pub headers_at : headers_answer (headers s) ≡ Ok z
    headers_at = ap headers_answer (sym headers_in) ∙ h

    pub split_small : Bytes s → Small (length s) z
    split_small bs = subst (λ (x : Result HeaderSizes Fault). Within (length s) x) headers_at (within s bs)

    module _ (k : z.redundant ≤ length s - z.size) where
      pub split_blocks : redundant_rows ed st time at s ≡ blocks_from ed st 0 time (at + z.size) s (drop z.size s)
      unfolding redundant_rows blocks_from
      split_blocks = (is ed st time at s z (redundancy_headers s) h).whole k ∙ rw headers_in

      -- the blocks were checked as at time 0 and place 0
      pub split_answer : rows_answer (redundant_rows ed st time at s) ≡ further (at + z.size) (rows_answer (blocks_from ed st 0 0 0 s (drop z.size s)))
      split_answer = ap rows_answer split_blocks ∙ from_further ed st 0 time 0 (at + z.size) 0 (at + z.size) (omega arith) s (drop z.size s)

      module _ (i : in_range ed st ≡ true) (w : z.size ≤ length s) where
        pub split_asked : (at' : ℕ) → at' ≤ at + z.size → BlocksAsked ed st 0 at' s (length (drop z.size s))
        split_asked at' j = rw (length-drop z.size s) (record { settings = i; few = omega arith; headed = rw headers_at k; inside = omega arith })

        pub split_room : (area n : ℕ) → row_area ed ≤ area → rows_answer (blocks_from ed st 0 0 0 s (drop z.size s)) ≡ Ok n
            → BlocksRoom ed st 0 time (at + z.size) s (drop z.size s) area
        split_room area n f y = record {
          asked = split_asked (at + z.size) (omega arith);
          taken = rw (from_further ed st 0 time 0 (at + z.size) 0 (at + z.size) (omega arith) s (drop z.size s), y) tt;
          area_fits = omega arith;
        }
