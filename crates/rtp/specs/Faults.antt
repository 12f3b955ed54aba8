-- Document 02, P2: a fault is why bytes were refused and where. It is counted from the front of what was read, and each layer above shifts it by where that
-- stands; a refusal that has no place gives 0.
use Rattle.std.specs.Prelude.{ℕ, ◌+◌, ◌-◌, ◌^◌, min}
use Rattle.rtp.specs.declared.refusal.Refusal.{Refusal}
use Rattle.rtp.specs.declared.refusal.Fault.{Fault}

abbrev pub fault_at : ℕ → Refusal → Fault
fault_at n r = record { refusal = r; offset = n }

-- at the front, and where there is no place
abbrev pub fault : Refusal → Fault
fault r = fault_at 0 r

-- a fault in what stands n bytes on
abbrev pub shifted : ℕ → Fault → Fault
shifted n f = fault_at (n + f.offset) f.refusal

-- .. of which 64 bits can tell the place; the farthest one stands for those past it
abbrev pub told : Fault → Fault
told f = fault_at (min f.offset (2 ^ 64 - 1)) f.refusal
