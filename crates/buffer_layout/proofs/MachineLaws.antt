-- What owning a buffer tells: its arrays have their lengths, and their elements are words.
use mathlib.Core.List.{List, [], ◌∷◌}
use Prim.Native.Nat.{ℕ, zero, suc, ◌<◌, ◌^◌}
use native.Mathlib.Omega.{arith}
use lib.ListN.{get_or}
use mir.Syntax.{w32}
use mir.Val.{Val}
use denote.Plain.{UInt}
use denote.Array.{each}
use denote.Laws.{Is}
use denote.Struct.Declared.{row}
use denote.Shadow.{shadow}
use Rattle.buffer_layout.specs.declared.buffer.Buffer.{Buffer}
use Rattle.buffer_layout.specs.Arrays.{Machine}
use Rattle.buffer_layout.specs.contracts.buffer.Buffer.{the_type}

each_word : (xs : List ℕ) (us : List Val) → shadow (each ℕ (UInt w32).own_val xs us) → (i : ℕ) → get_or xs i 0 < 2 ^ 32
each_word [] us p i = omega arith
each_word (x ∷ xs) [] p i = absurd p
each_word (x ∷ xs) (u ∷ us) p zero = p.0.1
each_word (x ∷ xs) (u ∷ us) p (suc i) = each_word xs us p.1 i

pub owned_machine : (b : Buffer) (vs : List Val) → Is (row the_type) b vs → Machine b
owned_machine b vs o =
    let g = o.1.1 in
    record {
      times = (g.0.1.0.1, each_word b.times g.0.0 g.0.1.1);
      tags = (g.1.0.1.0.1, each_word b.tags g.1.0.0 g.1.0.1.1);
      lengths = (g.1.1.0.1.0.1, each_word b.lengths g.1.1.0.0 g.1.1.0.1.1);
      slots_column = (g.1.1.1.0.1.0.1, each_word b.slots g.1.1.1.0.0 g.1.1.1.0.1.1);
      occupied = g.1.1.1.1.0.1.0.1;
      last_time_lem = g.1.1.1.1.1.0.1;
    }
