-- Tables of contents and block headers unfold with no fuel.
use Rattle.rtp.specs.Editions.{Edition}
use Rattle.read_headers.proofs.RedundancyLaws.{headers_step_lem}
use Rattle.read_contents.proofs.ContentsLaws.{contents_step_lem}
use Rattle.write_claims.specs.Unfoldings.{ContentsUnfold, HeadersUnfold}

pub contents_unfold : (ed : Edition) → ContentsUnfold ed
contents_unfold ed = contents_step_lem ed

pub headers_unfold : HeadersUnfold
headers_unfold = headers_step_lem
