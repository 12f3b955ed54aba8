-- Laws of the mode request: of a block, by the first block header, and of a packet.
use mathlib.Core.Path.{◌≡◌, refl, ap, sym, ◌∙◌, subst}
use Rattle.std.specs.Prelude.{Err, Ok, Result}
use mathlib.Core.List.{List, [], ◌∷◌}
use Prim.Native.Nat.{ℕ, ◌+◌}
use native.Mathlib.Omega.{arith}
use lib.ListN.{length, take, drop}
use lib.Dec.{ltb, eqb}
use borrow.Author.Tests.{eq-eqb, ne_eqb}
use Rattle.rtp.specs.Sizes.{max_packet}
use Rattle.read_headers.specs.Redundancy.{block_header, Headers, refused, headers_of, prepend, headers, redundancy_headers, headers_size, headers_answer}
use Rattle.rtp.specs.declared.settings.Settings.{Settings}
use Rattle.rtp.specs.declared.refusal.Refusal.{Refusal}
use Rattle.rtp.specs.declared.refusal.Fault.{Fault}
use Rattle.read_headers.specs.declared.redundancy.Redundant.{Redundant}
use Rattle.read_headers.specs.declared.redundancy.BlockHeader.{BlockHeader}
use Rattle.read_headers.specs.declared.redundancy.HeaderSizes.{HeaderSizes}
use Rattle.rtp.proofs.TestLaws.{by-test}
use Rattle.read_headers.proofs.RedundancyLaws.{headers_step_lem, Small, Within, within}
use Rattle.rtp.proofs.ByteLaws.{Bytes}
use Rattle.formats.specs.Formats.{format_of}
use Rattle.read_payload.specs.Payloads.{no_request, request_of}
use Rattle.read_payload.proofs.PayloadLaws.{request_none}
use Rattle.read_redundancy.specs.Blocks.{Block, cut}
use Rattle.read_mode_request.specs.Requests.{block_request, blocks_request, split_request, redundant_request, typed_request}
use Rattle.read_mode_request.specs.Walks.{headed_request, request_from}

-- One block

module _ (st : Settings) (found type : ℕ) (s : List ℕ) where
  pub request_other : (type ≡ st.payload_type → ⊥) → block_request st found type s ≡ found
  unfolding block_request
  request_other h = rw (ne_eqb _ _ h)

  module _ (h : type ≡ st.payload_type) where
    pub request_empty : length s ≡ 0 → block_request st found type s ≡ found
    unfolding block_request
    request_empty k = rw (eq-eqb _ _ h, eq-eqb _ _ k)

    pub request_block : (length s ≡ 0 → ⊥) → block_request st found type s ≡ request_of st.format s
    unfolding block_request
    request_block k = rw (eq-eqb _ _ h, ne_eqb _ _ k)

-- The blocks by the first block header

blocks_placed : (st : Settings) (bs : List Redundant) (found type at at' : ℕ) (d : List ℕ) → blocks_request st found (cut bs type at d) ≡ blocks_request st found (cut bs type at' d)
unfolding blocks_request cut
blocks_placed st [] found type at at' d = refl
blocks_placed st (b ∷ bs) found type at at' d =
    blocks_placed st bs (block_request st found b.payload_type (take b.length d)) type (at + b.length) (at' + b.length) (drop b.length d)

module _ (st : Settings) (found : ℕ) (h d : List ℕ) where
  pub from_refused : (r : Refusal) → block_header h ≡ Err r → request_from st found h d ≡ no_request
  unfolding request_from
  from_refused r q = rw (headers_step_lem, q)

  pub from_primary : (type : ℕ) → block_header h ≡ Ok (BlockHeader.Primary type) → request_from st found h d ≡ block_request st found type d
  unfolding request_from blocks_request cut
  from_primary type q = rw (headers_step_lem, q)

  pub from_redundant : (e : Redundant) → block_header h ≡ Ok (BlockHeader.Redundant e)
      → request_from st found h d ≡ request_from st (block_request st found e.payload_type (take e.length d)) (drop 4 h) (drop e.length d)
  unfolding request_from blocks_request cut
  from_redundant e q = rw (headers_step_lem h, q) (rest (headers (drop 4 h)))
    where
      rest : (x : Headers) → headed_request st found d (prepend e x) ≡ headed_request st (block_request st found e.payload_type (take e.length d)) (drop e.length d) x
      rest (refused r) = refl
      rest (headers_of bs type) = blocks_placed st bs _ type (0 + e.length) 0 (drop e.length d)

-- A redundancy payload, from what reading its block headers answered

same_sizes : (a b : HeaderSizes) → ◌≡◌ {A = Result HeaderSizes Fault} (Ok a) (Ok b) → a ≡ b
same_sizes a b h = cc

split_none : (st : Settings) (s : List ℕ) (r : Fault) (x : Headers) → headers_answer x ≡ Err r → split_request st s x ≡ no_request
unfolding headers_answer
split_none st s r (refused f) h = refl
split_none st s r (headers_of bs type) h = let o : ◌≡◌ {A = ℕ} 0 1 = cc in absurd (omega arith)

split_some : (st : Settings) (s : List ℕ) (z : HeaderSizes) (x : Headers) → headers_answer x ≡ Ok z → split_request st s x ≡ headed_request st no_request (drop z.size s) x
unfolding headers_answer
split_some st s z (refused r) h = let o : ◌≡◌ {A = ℕ} 0 1 = cc in absurd (omega arith)
split_some st s z (headers_of bs type) h =
    ap (λ (y : HeaderSizes). blocks_request st no_request (cut bs type 0 (drop y.size s))) (same_sizes _ z h)

module _ (st : Settings) (s : List ℕ) where
  pub redundant_none : (r : Fault) → headers_answer (redundancy_headers s) ≡ Err r → redundant_request st s ≡ no_request
  unfolding redundant_request
  redundant_none r h = split_none st s r (redundancy_headers s) h

  module _ (z : HeaderSizes) (h : headers_answer (redundancy_headers s) ≡ Ok z) where
    in_packet : redundancy_headers s ≡ headers s
    unfolding redundancy_headers headers_answer
    in_packet = by-test (ltb max_packet (length s))
        (λ a. let y = rw a at h in let o : ◌≡◌ {A = ℕ} 0 1 = cc in absurd (omega arith)) (λ a. rw a)

    pub redundant_small : Bytes s → Small (length s) z
    redundant_small bs = subst (λ (x : Result HeaderSizes Fault). Within (length s) x) (ap headers_answer (sym in_packet) ∙ h) (within s bs)

    pub redundant_from : redundant_request st s ≡ request_from st no_request s (drop z.size s)
    unfolding redundant_request request_from
    redundant_from = split_some st s z (redundancy_headers s) h ∙ ap (headed_request st no_request (drop z.size s)) in_packet

-- A packet

module _ (st : Settings) (type : ℕ) (s : List ℕ) where
  pub request_plain : type ≡ st.payload_type → typed_request st type s ≡ request_of st.format s
  unfolding typed_request
  request_plain h = rw (eq-eqb _ _ h)

  module _ (n : type ≡ st.payload_type → ⊥) where
    pub request_redundant : type ≡ st.redundancy_type → typed_request st type s ≡ redundant_request st s
    unfolding typed_request
    request_redundant h = rw (ne_eqb _ _ n, eq-eqb _ _ h)

    pub request_unknown : (type ≡ st.redundancy_type → ⊥) → typed_request st type s ≡ no_request
    unfolding typed_request
    request_unknown h = rw (ne_eqb _ _ n, ne_eqb _ _ h)

-- a format without a payload header has no request

module _ (st : Settings) (e : (format_of st.format).header ≡ 0) where
  block_headless : (type : ℕ) (s : List ℕ) → block_request st no_request type s ≡ no_request
  unfolding block_request
  block_headless type s =
      by-test (eqb type st.payload_type)
      (λ a. by-test (eqb (length s) 0) (λ b. rw (a, b)) (λ b. rw (a, b) (request_none st.format s e)))
      (λ a. rw a)

  blocks_headless : (bs : List Block) → blocks_request st no_request bs ≡ no_request
  unfolding blocks_request
  blocks_headless [] = refl
  blocks_headless (b ∷ bs) = rw (block_headless b.type b.bytes) (blocks_headless bs)

  redundant_headless : (s : List ℕ) → redundant_request st s ≡ no_request
  unfolding redundant_request
  redundant_headless s = split (redundancy_headers s)
    where
      split : (x : Headers) → split_request st s x ≡ no_request
      split (refused r) = refl
      split (headers_of bs type) = blocks_headless (cut bs type 0 (drop (headers_size bs) s))

  pub request_headless : (type : ℕ) (s : List ℕ) → typed_request st type s ≡ no_request
  unfolding typed_request
  request_headless type s =
      by-test (eqb type st.payload_type)
      (λ a. rw a (request_none st.format s e))
      (λ a. by-test (eqb type st.redundancy_type) (λ b. rw (a, b) (redundant_headless s)) (λ b. rw (a, b)))
