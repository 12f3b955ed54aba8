-- A frame as a part of the log.
use Rattle.std.specs.Prelude.{ℕ, ◌-◌, List, [], cond, length, take, drop, ltb}

-- n bytes of a log from a start on; none where they are not inside it
abbrev pub part_at : ℕ → ℕ → List ℕ → List ℕ
part_at start n log = cond (ltb (length log) start) [] (cond (ltb (length log - start) n) [] (take n (drop start log)))
