-- Areas that the caller lends.
use Rattle.std.specs.Prelude.{ℕ, cond, List, ◌++◌, length, drop, nat_le}

-- the area l with ws written over its front; what lies after them stays
unfoldable pub over : List ℕ → List ℕ → List ℕ
over ws l = ws ++ drop (length ws) l

-- the same where ws fit into it; an area too short stays as it stood
unfoldable pub fitted : List ℕ → List ℕ → List ℕ
fitted ws l = cond (nat_le (length ws) (length l)) (over ws l) l
