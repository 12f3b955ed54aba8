-- Tables of contents and redundancy block headers unfold with no fuel: each is what its first entry or header says, and the same of the bytes after it.
use Rattle.std.specs.Prelude.{ℕ, ◌≡◌, List}
use Rattle.rtp.specs.Editions.{Edition}
use Rattle.read_headers.specs.Redundancy.{block_header, headers_step, headers}
use Rattle.read_contents.specs.Contents.{entry_of, contents_step, contents}

-- a table of contents, after `rows` rows of the same packet
abbrev pub ContentsUnfold : Edition → Type 0
ContentsUnfold ed = (format ch rows : ℕ) (s : List ℕ)
    → contents ed format ch rows s ≡ contents_step ed format ch rows s (λ r t. contents ed format ch r t) (entry_of format s)

-- redundancy block headers
abbrev pub HeadersUnfold : Type 0
HeadersUnfold = (s : List ℕ) → headers s ≡ headers_step s (λ t. headers t) (block_header s)
