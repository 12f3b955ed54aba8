-- Verdicts counted, in counts of 32 bits.
use Rattle.std.specs.Prelude.{ℕ, ◌+◌, ◌<◌, cond, ltb}
use Rattle.buffer_copies.specs.declared.verdict.Verdict.{Verdict}
use Rattle.buffer_copies.specs.declared.verdict.Verdict.TheVariants.{Late, Far, Repeated, Better, NoRoom, Inserted}
use Rattle.buffer_copies.specs.Verdicts.{Counts}
use Rattle.buffer_insert.specs.declared.tally.Tally.{Tally}

abbrev pub counts_of : Tally → Counts
counts_of t = record { late = t.late; far = t.far; repeated = t.repeated; better = t.better; no_room = t.no_room; inserted = t.inserted }

abbrev pub no_tally : Tally
no_tally = record { late = 0; far = 0; repeated = 0; better = 0; no_room = 0; inserted = 0 }

-- no count is so large that n more would not fit
abbrev pub TallySmall : Tally → ℕ → Type 0
TallySmall t n = t.late + t.far + t.repeated + t.better + t.no_room + t.inserted + n < 1000

-- the most that a count can be
abbrev pub most_count : ℕ
most_count = 4294967295

-- one more; the most that a count can be stays
abbrev pub one_more : ℕ → ℕ
one_more n = cond (ltb n most_count) (n + 1) n

-- `counted`, with counts of 32 bits
abbrev pub tallied : Counts → Verdict → Counts
tallied n Late = record { late = one_more n.late; far = n.far; repeated = n.repeated; better = n.better; no_room = n.no_room; inserted = n.inserted }
tallied n Far = record { late = n.late; far = one_more n.far; repeated = n.repeated; better = n.better; no_room = n.no_room; inserted = n.inserted }
tallied n Repeated = record { late = n.late; far = n.far; repeated = one_more n.repeated; better = n.better; no_room = n.no_room; inserted = n.inserted }
tallied n Better = record { late = n.late; far = n.far; repeated = n.repeated; better = one_more n.better; no_room = n.no_room; inserted = n.inserted }
tallied n NoRoom = record { late = n.late; far = n.far; repeated = n.repeated; better = n.better; no_room = one_more n.no_room; inserted = n.inserted }
tallied n Inserted = record { late = n.late; far = n.far; repeated = n.repeated; better = n.better; no_room = n.no_room; inserted = one_more n.inserted }
