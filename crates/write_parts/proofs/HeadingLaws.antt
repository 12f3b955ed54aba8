-- Laws of headers as they are written into an area.
use mathlib.Core.Path.{◌≡◌}
use mathlib.Core.List.{List}
use Prim.Native.Nat.{ℕ, ◌≤◌, ◌<◌}
use lib.ListN.{length}
use lib.Dec.{ltb, leb}
use borrow.Author.Tests.{lt-ltb, le-ltb, le-leb, lt-leb}
use Rattle.rtp.specs.Sizes.{min_packet}
use Rattle.rtp.specs.Areas.{over}
use Rattle.rtp.proofs.AreaLaws.{fitted_in, fitted_short}
use Rattle.rtp.proofs.TestLaws.{by-test}
use Rattle.write_parts.specs.Parts.{max_offset, max_block}
use Rattle.write_parts.specs.Headings.{header_bytes, block_header_bytes, with_header, with_block_header}
use Rattle.write_parts.specs.declared.headers.Heading.{Heading}

module _ (h : Heading) (type time : ℕ) (l : List ℕ) where
  pub header_short : length l < min_packet → with_header h type time l ≡ l
  unfolding with_header
  header_short s = by-test (ltb type 128) (λ a. rw a (fitted_short (header_bytes h type time) l s)) (λ a. rw a)

  pub header_large : 128 ≤ type → with_header h type time l ≡ l
  unfolding with_header
  header_large t = rw (le-ltb type 128 t)

  pub header_in : type < 128 → min_packet ≤ length l → with_header h type time l ≡ over (header_bytes h type time) l
  unfolding with_header
  header_in t s = rw (lt-ltb type 128 t) (fitted_in (header_bytes h type time) l s)

module _ (type offset size : ℕ) (l : List ℕ) where
  pub block_short : length l < 4 → with_block_header type offset size l ≡ l
  unfolding with_block_header
  block_short s =
      by-test (ltb type 128)
      (λ a. by-test (leb offset max_offset)
      (λ b. by-test (leb size max_block) (λ d. rw (a, b, d) (fitted_short (block_header_bytes type offset size) l s)) (λ d. rw (a, b, d)))
      (λ b. rw (a, b)))
      (λ a. rw a)

  pub block_type : 128 ≤ type → with_block_header type offset size l ≡ l
  unfolding with_block_header
  block_type t = rw (le-ltb type 128 t)

  pub block_far : max_offset < offset → with_block_header type offset size l ≡ l
  unfolding with_block_header
  block_far o = by-test (ltb type 128) (λ a. rw (a, lt-leb offset max_offset o)) (λ a. rw a)

  pub block_long : max_block < size → with_block_header type offset size l ≡ l
  unfolding with_block_header
  block_long z =
      by-test (ltb type 128)
      (λ a. by-test (leb offset max_offset) (λ b. rw (a, b, lt-leb size max_block z)) (λ b. rw (a, b)))
      (λ a. rw a)

  pub block_in : type < 128 → offset ≤ max_offset → size ≤ max_block → 4 ≤ length l → with_block_header type offset size l ≡ over (block_header_bytes type offset size) l
  unfolding with_block_header
  block_in t o z s = rw (lt-ltb type 128 t, le-leb offset max_offset o, le-leb size max_block z) (fitted_in (block_header_bytes type offset size) l s)
