-- What the functions that draw ask of one another inside this crate.
use Rattle.std.specs.Prelude.{ℕ, ◌≤◌, ◌≡◌, List, true, length}
use Rattle.buffer_copies.specs.Sizes.{slot_size, store_size}
use Rattle.buffer_layout.specs.declared.buffer.Buffer.{Buffer}
use Rattle.buffer_layout.specs.Arrays.{Machine}
use Rattle.buffer_slots.specs.Bits.{held_in}
use Rattle.buffer_layout.specs.WellFormed.{well_formed}

-- a well-formed buffer of n entries, at least one, with its store and an area for a frame
pub record Drawable (b : Buffer) (n : ℕ) (store area : List ℕ) : Type 0 where
  pub machine : Machine b
  pub fine : well_formed b ≡ true
  pub held : n ≡ held_in b.occupied
  pub some : 1 ≤ n
  pub room : store_size ≤ length store
  pub space : slot_size ≤ length area
