-- Laws of the walk to the next frame: it is its own rest behind a field that is passed over, and its answers lie inside the log.
use mathlib.Core.Path.{◌≡◌, refl, ap, subst, ◌∙◌}
use Rattle.std.specs.Prelude.{Err, None, Ok, Option, Result, Some}
use Rattle.rtp.specs.declared.refusal.Fault.{Fault}
use mathlib.Core.List.{List}
use mathlib.Core.Bool.{true, false}
use Prim.Native.Nat.{ℕ, zero, suc, ◌+◌, ◌≤◌, ◌<◌}
use native.Mathlib.Nat.{add_assoc}
use native.Mathlib.Omega.{arith}
use lib.ListN.{length, drop, length-drop}
use lib.Seq.{drop-drop}
use lib.Dec.{ltb}
use borrow.Author.Tests.{ltb-false, leb-true}
use Rattle.rtp.specs.Editions.{Edition}
use Rattle.rtp.specs.Ranges.{in_range}
use Rattle.rtp.specs.Faults.{fault}
use Rattle.rtp.specs.declared.refusal.Refusal.TheVariants.{SettingsOutOfRange, Malformed}
use Rattle.rtp.specs.declared.settings.Settings.{Settings}
use Rattle.rtp.proofs.TestLaws.{by-test, either}
use Rattle.log_fields.specs.Fields.{head_size, frame_head, first_size}
use Rattle.log_walk.specs.declared.frames.Shown.{Shown}
use Rattle.log_walk.specs.declared.frames.Next.{Next}
use Rattle.log_walk.specs.declared.opening.Cursor.{Cursor}
use Rattle.log_walk.specs.Stepping.{next_field, further, onward, walk_by, walk, cursor_fits, step, cursor_after, step_numbers, step_call}
use Rattle.log_walk.proofs.FieldLaws.{NextInside, next_inside}

-- an answer moved on, and on again
pub further_further : (m n : ℕ) (a : Result (Option Shown) Fault) → further m (further n a) ≡ further (m + n) a
further_further m n (Ok (Some f)) = rw (add_assoc m n f.start)
further_further m n (Ok None) = refl
further_further m n (Err f) = rw (add_assoc m n f.offset)

-- The walk does not depend on its fuel

onward_same : (go walked : List ℕ → Result (Option Shown) Fault) (s : List ℕ) (x : Result Next Fault) → NextInside (length s) x
    → ((m : ℕ) → head_size ≤ m → m ≤ length s → go (drop m s) ≡ walked (drop m s)) → onward go s x ≡ onward walked s x
onward_same go walked s (Ok (Next.Frame f)) i h = refl
onward_same go walked s (Ok Next.End) i h = refl
onward_same go walked s (Ok (Next.Pass m)) i h = ap (further m) (h m i.0 i.1)
onward_same go walked s (Err f) i h = refl

enough : (j k : ℕ) (st : Settings) (count : ℕ) (s : List ℕ) → length s < j → length s < k → walk_by j st count s ≡ walk_by k st count s
unfolding walk_by
enough zero k st count s h g = absurd (omega arith)
enough (suc j) zero st count s h g = absurd (omega arith)
enough (suc j) (suc k) st count s h g =
    onward_same (walk_by j st count) (walk_by k st count) s (next_field st count s) (next_inside st count s)
    (λ m a b. enough j k st count (drop m s) (rw length-drop (omega arith)) (rw length-drop (omega arith)))

-- the field at the front, and the walk behind it
pub walk_on : (st : Settings) (count : ℕ) (s : List ℕ) → walk st count s ≡ onward (walk st count) s (next_field st count s)
unfolding walk walk_by
walk_on st count s =
    onward_same (walk_by (length s) st count) (walk st count) s (next_field st count s) (next_inside st count s)
    (λ m a b. enough (length s) (suc (length (drop m s))) st count (drop m s) (rw length-drop (omega arith)) (omega arith))

pub walk_next : (st : Settings) (count : ℕ) (s : List ℕ) (x : Result Next Fault) → next_field st count s ≡ x → walk st count s ≡ onward (walk st count) s x
walk_next st count s x e = walk_on st count s ∙ ap (onward (walk st count) s) e

-- a field that is passed over, n bytes on
pub walk_pass : (st : Settings) (count n m : ℕ) (log : List ℕ) → next_field st count (drop n log) ≡ Ok (Next.Pass m)
    → further n (walk st count (drop n log)) ≡ further (n + m) (walk st count (drop (n + m) log))
walk_pass st count n m log e =
    ap (further n) (walk_next st count (drop n log) (Ok (Next.Pass m)) e)
    ∙ further_further n m (walk st count (drop m (drop n log)))
    ∙ ap (λ (t : List ℕ). further (n + m) (walk st count t)) (drop-drop m n log)

-- Answers lie inside the log

abbrev pub Inside : ℕ → Result (Option Shown) Fault → Type 0
Inside l (Ok (Some f)) = (head_size + frame_head ≤ f.start) × (f.start + f.length ≤ l)
Inside l (Ok None) = Unit {0}
Inside l (Err f) = f.offset ≤ l

pub further_inside : (n l : ℕ) (a : Result (Option Shown) Fault) → Inside l a → Inside (n + l) (further n a)
further_inside n l (Ok (Some f)) i = (omega arith, omega arith)
further_inside n l (Ok None) i = tt
further_inside n l (Err f) i = omega arith

-- .. of what follows the first n bytes
pub behind_inside : (n : ℕ) (s : List ℕ) (a : Result (Option Shown) Fault) → n ≤ length s → Inside (length (drop n s)) a → Inside (length s) (further n a)
behind_inside n s a h i =
    let e : n + length (drop n s) ≡ length s = rw length-drop (omega arith) in
    subst (λ (l : ℕ). Inside l (further n a)) e (further_inside n (length (drop n s)) a i)

onward_inside : (go : List ℕ → Result (Option Shown) Fault) (s : List ℕ) (x : Result Next Fault) → NextInside (length s) x → ((t : List ℕ) → Inside (length t) (go t)) → Inside (length s) (onward go s x)
onward_inside go s (Ok (Next.Frame f)) i h = (omega arith, i.1)
onward_inside go s (Ok Next.End) i h = tt
onward_inside go s (Ok (Next.Pass m)) i h = behind_inside m s (go (drop m s)) i.1 (h (drop m s))
onward_inside go s (Err f) i h = i

by_inside : (k : ℕ) (st : Settings) (count : ℕ) (s : List ℕ) → Inside (length s) (walk_by k st count s)
unfolding walk_by
by_inside zero st count s = omega arith
by_inside (suc k) st count s = onward_inside _ s (next_field st count s) (next_inside st count s) (λ t. by_inside k st count t)

pub walk_inside : (st : Settings) (count : ℕ) (s : List ℕ) → Inside (length s) (walk st count s)
unfolding walk
walk_inside st count s = by_inside (suc (length s)) st count s

-- A step, by its settings and what the record fits

pub step_out : (ed : Edition) (c : Cursor) (log : List ℕ) → in_range ed c.settings ≡ false → step ed c log ≡ Err (fault SettingsOutOfRange)
unfolding step
step_out ed c log a = rw a

pub step_unfit : (ed : Edition) (c : Cursor) (log : List ℕ) → in_range ed c.settings ≡ true → cursor_fits c (length log) ≡ false → step ed c log ≡ Err (fault Malformed)
unfolding step
step_unfit ed c log a b = rw (a, b)

pub step_walks : (ed : Edition) (c : Cursor) (log : List ℕ) → in_range ed c.settings ≡ true → cursor_fits c (length log) ≡ true
    → step ed c log ≡ further c.place (walk c.settings c.count (drop c.place log))
unfolding step
step_walks ed c log a b = rw (a, b)

-- What a record that fits a log says
pub fits_is : (c : Cursor) (n : ℕ) → cursor_fits c n ≡ true → (first_size ≤ c.place) × (c.place ≤ n) × (c.count ≤ c.place)
fits_is c n h =
    let a = either (ltb c.place first_size) _ h in
    let b = either (ltb n c.place) _ a.1 in
    (ltb-false _ _ a.0, ltb-false _ _ b.0, leb-true _ _ b.1)

-- What a step shows lies behind the record's place and inside the log, and the record stays fit for the next step

abbrev pub Stays : Cursor → ℕ → Result (Option Shown) Fault → Type 0
Stays c l (Ok (Some f)) = (c.place < f.start) × (f.start + f.length ≤ l) × (c.count + 1 ≤ f.start + f.length)
Stays c l (Ok None) = Unit {0}
Stays c l (Err f) = Unit {0}

further_stays : (c : Cursor) (log : List ℕ) (a : Result (Option Shown) Fault) → c.place ≤ length log → c.count ≤ c.place → Inside (length (drop c.place log)) a
    → Stays c (length log) (further c.place a)
further_stays c log (Ok (Some f)) h g i = (omega arith, (behind_inside c.place log (Ok (Some f)) h i).1, omega arith)
further_stays c log (Ok None) h g i = tt
further_stays c log (Err f) h g i = tt

pub step_stays : (ed : Edition) (c : Cursor) (log : List ℕ) → Stays c (length log) (step ed c log)
unfolding step
step_stays ed c log =
    by-test (in_range ed c.settings)
    (λ a. by-test (cursor_fits c (length log))
    (λ b. let f = fits_is c (length log) b in rw (a, b) (further_stays c log (walk c.settings c.count (drop c.place log)) f.1 f.2 (walk_inside c.settings c.count (drop c.place log))))
    (λ b. rw (a, b) tt))
    (λ a. rw a tt)

pub shown_inside : (ed : Edition) (c : Cursor) (log : List ℕ) (f : Shown) → step ed c log ≡ Ok (Some f)
    → (c.place < f.start) × (f.start + f.length ≤ length log) × (c.count + 1 ≤ f.start + f.length)
shown_inside ed c log f e = subst (Stays c (length log)) e (step_stays ed c log)

-- what a step answers and leaves
pub step_as : (ed : Edition) (c : Cursor) (log : List ℕ) (a : Result (Option Shown) Fault) → step ed c log ≡ a → step_call ed c log ≡ record { answer = step_numbers a; cursor = cursor_after c a }
unfolding step_call
step_as ed c log a e = ap (λ (x : Result (Option Shown) Fault). record { answer = step_numbers x; cursor = cursor_after c x }) e
