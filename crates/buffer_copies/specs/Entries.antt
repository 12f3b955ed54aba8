-- Document 01, "The take": entries, the store's slots, and the operations on a sorted list of entries.
use Prim.Native.Nat.{ℕ, zero, suc, ◌*◌, Ordering}
use Rattle.std.specs.Prelude.{List, [], ◌∷◌, map, Bool, true, false, cond, ◌||◌, length, take, drop, eqb}
use Rattle.std.proofs.Math.Option.{Option, none, some}
use Rattle.std.proofs.Math.Seq.{paste}
use Rattle.buffer_copies.specs.Sizes.{slots, slot_size}
use Rattle.buffer_copies.specs.Pairs.{order}
use Rattle.buffer_copies.specs.Copies.{Copy}

-- a frame held: its pair, class and length, its slot in the store, and the mark that some copy of it was heard first-hand
pub record Entry : Type 0 where
  pub time : ℕ
  pub channel : ℕ
  pub class : ℕ
  pub length : ℕ
  pub slot : ℕ
  pub primary : ℕ

-- the entries in time order, and the last pair drawn, if any
pub record Held : Type 0 where
  pub entries : List Entry
  pub drawn : Bool
  pub last_time : ℕ
  pub last_channel : ℕ

-- the bytes of an entry's frame in the store
abbrev pub frame_of : List ℕ → Entry → List ℕ
frame_of store e = take e.length (drop (slot_size * e.slot) store)

-- the copy that an entry holds
unfoldable pub view : List ℕ → Entry → Copy
view store e = record { time = e.time; channel = e.channel; class = e.class; bytes = frame_of store e }

abbrev pub views : List ℕ → List Entry → List Copy
views store es = map (view store) es

-- the entry of a copy with a mark in a slot
unfoldable pub entry_of : Copy → ℕ → ℕ → Entry
entry_of c mark slot = record { time = c.time; channel = c.channel; class = c.class; length = length c.bytes; slot = slot; primary = mark }

-- an entry with another mark
unfoldable pub remarked : ℕ → Entry → Entry
remarked mark e = record { time = e.time; channel = e.channel; class = e.class; length = e.length; slot = e.slot; primary = mark }

abbrev pub side_of_entry : Entry → Entry → Ordering
side_of_entry e h = order e.time e.channel h.time h.channel

-- Sorted insertion that keeps the best of each pair, and the item of a pair: over any comparison.
module _ {A : Type 0} (cmp : A → A → Ordering) (beats : A → A → Bool) where
  abbrev pub put_at : Ordering → A → A → List A → List A → List A
  put_at Ordering.lt c h t r = c ∷ h ∷ t
  put_at Ordering.eq c h t r = cond (beats c h) c h ∷ t
  put_at Ordering.gt c h t r = h ∷ r

  unfoldable pub put : A → List A → List A
  put c [] = c ∷ []
  put c (h ∷ t) = put_at (cmp c h) c h t (put c t)

module _ {A : Type 0} where
  abbrev pub find_at : Ordering → A → Option A → Option A
  find_at Ordering.lt h r = none
  find_at Ordering.eq h r = some h
  find_at Ordering.gt h r = r

  unfoldable pub find_by : (A → Ordering) → List A → Option A
  find_by to [] = none
  find_by to (h ∷ t) = find_at (to h) h (find_by to t)

-- the lowest slot that no entry has
unfoldable pub slot_used : ℕ → List Entry → Bool
slot_used k [] = false
slot_used k (e ∷ es) = eqb k e.slot || slot_used k es

unfoldable pub lowest : ℕ → ℕ → List Entry → ℕ
lowest zero k es = k
lowest (suc n) k es = cond (slot_used k es) (lowest n (suc k) es) k

unfoldable pub free_slot : List Entry → ℕ
free_slot es = lowest slots 0 es

-- an entry in its place; one of the same pair gives way
abbrev pub always : Entry → Entry → Bool
always e h = true

unfoldable pub placed : Entry → List Entry → List Entry
placed e es = put side_of_entry always e es

-- the store with a frame's bytes in a slot; bytes past the frame's end stay
unfoldable pub stored : List ℕ → ℕ → List ℕ → List ℕ
stored store slot bytes = paste store (slot_size * slot) bytes (length bytes)
