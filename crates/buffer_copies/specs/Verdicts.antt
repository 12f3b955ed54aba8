-- Document 01, "The take": the verdict on a copy, the first that applies, and what it leaves.
use Rattle.std.specs.Prelude.{ℕ, ◌+◌, List, [], ◌∷◌, Bool, true, false, cond, not, ◌&&◌, ◌||◌, length, ltb}
use Rattle.std.proofs.Math.Option.{Option, none, some}
use Rattle.buffer_copies.specs.declared.verdict.Verdict.{Verdict}
use Rattle.buffer_copies.specs.declared.verdict.Verdict.TheVariants.{Late, Far, Repeated, Better, NoRoom, Inserted}
use Rattle.buffer_copies.specs.Sizes.{slots}
use Rattle.buffer_copies.specs.Pairs.{half, ahead, order, is_after}
use Rattle.row_tags.specs.Tags.{either_mark}
use Rattle.buffer_copies.specs.Copies.{Copy, Received, better}
use Rattle.buffer_copies.specs.Entries.{Entry, Held, view, entry_of, remarked, side_of_entry, find_by, free_slot, placed, stored}

-- a pair was drawn, and this one is not after it
abbrev pub is_late : Held → Copy → Bool
is_late h c = cond h.drawn (not (is_after (order c.time c.channel h.last_time h.last_channel))) false

-- the held times are all less than 2^31 ahead of a time
unfoldable pub all_within : ℕ → List Entry → Bool
all_within b [] = true
all_within b (e ∷ es) = ltb (ahead e.time b) half && all_within b es

-- held times with this one fit in a stretch under 2^31 ticks: from the earliest held, or from this one
unfoldable pub fits : ℕ → List Entry → Bool
fits t [] = true
fits t (e ∷ es) = ltb (ahead t e.time) half || all_within t (e ∷ es)

-- nothing was drawn yet, and held times with this one fit in no stretch
abbrev pub is_far : Held → Copy → Bool
is_far h c = cond h.drawn false (not (fits c.time h.entries))

-- what is held and stored, and the verdict
pub record Judged : Type 0 where
  pub held : Held
  pub store : List ℕ
  pub verdict : Verdict

abbrev pub keeps : Held → List ℕ → Verdict → Judged
keeps h s v = record { held = h; store = s; verdict = v }

-- what is held with an entry in its place
abbrev pub holding : Entry → Held → Held
holding e h = record { entries = placed e h.entries; drawn = h.drawn; last_time = h.last_time; last_channel = h.last_channel }

-- the copy laid into a slot, its entry with a mark
abbrev pub lays : Copy → ℕ → ℕ → Held → List ℕ → Verdict → Judged
lays c mark slot h s v = record { held = holding (entry_of c mark slot) h; store = stored s slot c.bytes; verdict = v }

-- a repeat may mark the entry of its pair, and changes nothing else
abbrev pub repeats : Entry → ℕ → Held → List ℕ → Judged
repeats e mark h s = record { held = holding (remarked (either_mark e.primary mark) e) h; store = s; verdict = Repeated }

-- a copy with its mark, whose pair is held, as this entry, or not; a better copy keeps a mark already set
unfoldable pub judge_held : Copy → ℕ → Held → List ℕ → Option Entry → Judged
judge_held c mark h s (some e) = cond (better c (view s e)) (lays c (either_mark mark e.primary) e.slot h s Better) (repeats e mark h s)
judge_held c mark h s none = cond (ltb (length h.entries) slots) (lays c mark (free_slot h.entries) h s Inserted) (keeps h s NoRoom)

unfoldable pub judge : Held → List ℕ → Copy → ℕ → Judged
judge h s c mark =
    cond (is_late h c) (keeps h s Late)
    (cond (is_far h c) (keeps h s Far)
    (judge_held c mark h s (find_by (side_of_entry (entry_of c mark 0)) h.entries)))

-- how often each verdict was given
pub record Counts : Type 0 where
  pub late : ℕ
  pub far : ℕ
  pub repeated : ℕ
  pub better : ℕ
  pub no_room : ℕ
  pub inserted : ℕ

abbrev pub no_counts : Counts
no_counts = record { late = 0; far = 0; repeated = 0; better = 0; no_room = 0; inserted = 0 }

abbrev pub counted : Counts → Verdict → Counts
counted n Late = record { late = n.late + 1; far = n.far; repeated = n.repeated; better = n.better; no_room = n.no_room; inserted = n.inserted }
counted n Far = record { late = n.late; far = n.far + 1; repeated = n.repeated; better = n.better; no_room = n.no_room; inserted = n.inserted }
counted n Repeated = record { late = n.late; far = n.far; repeated = n.repeated + 1; better = n.better; no_room = n.no_room; inserted = n.inserted }
counted n Better = record { late = n.late; far = n.far; repeated = n.repeated; better = n.better + 1; no_room = n.no_room; inserted = n.inserted }
counted n NoRoom = record { late = n.late; far = n.far; repeated = n.repeated; better = n.better; no_room = n.no_room + 1; inserted = n.inserted }
counted n Inserted = record { late = n.late; far = n.far; repeated = n.repeated; better = n.better; no_room = n.no_room; inserted = n.inserted + 1 }

-- a copy as it was received, and the verdict on it
pub record Judgement : Type 0 where
  pub received : Received
  pub verdict : Verdict

-- the counts after more verdicts
unfoldable pub tally : Counts → List Judgement → Counts
tally n [] = n
tally n (j ∷ js) = tally (counted n j.verdict) js

-- copies judged in turn, each against what the one before left: what is held and stored after all, and each copy with its verdict
pub record Gathered : Type 0 where
  pub held : Held
  pub store : List ℕ
  pub judgements : List Judgement

unfoldable pub judge_all : Held → List ℕ → List Received → Gathered
judge_all h s [] = record { held = h; store = s; judgements = [] }
judge_all h s (x ∷ xs) =
    let j = judge h s x.copy x.primary in
    let g = judge_all j.held j.store xs in
    record { held = g.held; store = g.store; judgements = record { received = x; verdict = j.verdict } ∷ g.judgements }
