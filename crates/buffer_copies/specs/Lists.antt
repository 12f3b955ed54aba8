-- Document 01, demand 3's terms: the draw list of the copies accepted (document 01: heard), and the two premises.
use Prim.Native.Nat.{Ordering}
use Rattle.std.specs.Prelude.{ℕ, ◌<◌, ◌≤◌, ◌^◌, ◌≡◌, ◌⊎◌, false, length}
use mathlib.Core.List.{List, [], ◌∷◌, map, Memᴰ}
use Rattle.buffer_copies.specs.Pairs.{half, ahead}
use Rattle.row_tags.specs.Tags.{primary_mark, redundant_mark}
use Rattle.buffer_copies.specs.Copies.{Copy, Received, side, better}

-- each after the one before
abbrev pub Ascending : List Copy → Type 0
Ascending [] = Unit {0}
Ascending (d ∷ []) = Unit {0}
Ascending (d ∷ e ∷ ds) = (side e d ≡ Ordering.gt) × Ascending (e ∷ ds)

abbrev pub SamePair : Copy → Copy → Type 0
SamePair a b = (a.time ≡ b.time) × (a.channel ≡ b.channel)

-- no two of one pair
abbrev pub Apart : Copy → List Copy → Type 0
Apart d ds = (e : Copy) → Memᴰ e ds → SamePair d e → ⊥

abbrev pub Distinct : List Copy → Type 0
Distinct [] = Unit {0}
Distinct (d ∷ ds) = Apart d ds × Distinct ds

-- the playout list, document 01's draw list: each pair accepted once, each after the one before, with a copy accepted that no other copy of the pair is better than
pub record Playout (accepted ds : List Copy) : Type 0 where
  pub once : Distinct ds
  pub ascending : Ascending ds
  pub copies : (d : Copy) → Memᴰ d ds → Memᴰ d accepted
  pub all : (x : Copy) → Memᴰ x accepted → (d : Copy) × Memᴰ d ds × SamePair d x
  pub best : (d x : Copy) → Memᴰ d ds → Memᴰ x accepted → SamePair d x → better x d ≡ false

-- the times lie within fewer than 2^31 ticks: from some time all are at most 2^31 - 1 ahead
pub record WithinStretch (accepted : List Copy) : Type 0 where
  pub base : ℕ
  pub word : base < 2 ^ 32
  pub within : (x : Copy) → Memᴰ x accepted → ahead x.time base < half

-- no more than n distinct pairs: copies accepted of pairwise different pairs are at most n
abbrev pub AtMost : ℕ → List Copy → Type 0
AtMost n accepted = (ds : List Copy) → ((d : Copy) → Memᴰ d ds → Memᴰ d accepted) → Distinct ds → length ds ≤ n

-- The marks (document 02, P6), beside the copies

abbrev pub copies_of : List Received → List Copy
copies_of xs = map (λ x. x.copy) xs

-- some copy received of the pair was heard first-hand
pub record HeardFirst (received : List Received) (d : Copy) : Type 0 where
  pub one : Received
  pub among : Memᴰ one received
  pub pair : SamePair d one.copy
  pub primary : one.primary ≡ primary_mark

-- the playout list with marks: the playout list of the copies, each item marked exactly if some copy of its pair was heard first-hand
pub record MarkedPlayout (received ds : List Received) : Type 0 where
  pub playout : Playout (copies_of received) (copies_of ds)
  pub set : (d : Received) → Memᴰ d ds → HeardFirst received d.copy → d.primary ≡ primary_mark
  pub unset : (d : Received) → Memᴰ d ds → (d.primary ≡ redundant_mark) ⊎ HeardFirst received d.copy
