-- Laws of rows that follow rows: their answer, their bound and their words.
use mathlib.Core.Path.{◌≡◌, refl, ap, sym, ◌∙◌, subst}
use Rattle.std.specs.Prelude.{Err, Ok, Result}
use mathlib.Core.List.{List, [], ◌++◌, append-nil}
use Prim.Native.Nat.{ℕ, ◌+◌, ◌*◌, ◌≤◌}
use native.Mathlib.Omega.{arith}
use lib.ListN.{length, length-append}
use Rattle.rtp.specs.Editions.{Edition}
use Rattle.rtp.specs.Sizes.{max_rows, row_width}
use Rattle.rtp.specs.Areas.{over}
use Rattle.rtp.specs.Faults.{shifted}
use Rattle.rtp.specs.declared.refusal.Fault.{Fault}
use Rattle.rtp.proofs.AreaLaws.{over_none}
use Rattle.read_rows.specs.Rows.{Row, words}
use Rattle.read_payload.specs.Payloads.{Rows, no_rows, rows_of, payload_numbers, rows_numbers, rows_answer, rows_words}
use Rattle.read_rows.proofs.RowLaws.{length_words, words_append}
use Rattle.read_payload.proofs.PayloadLaws.{answer_none, words_none}
use Rattle.read_payload.proofs.NumberLaws.{rows_is, rows_has}
use Rattle.read_redundancy.specs.Blocks.{prepend_rows, then_rows}
use Rattle.read_redundancy.specs.Room.{Taken}

pub then_none : (x : Rows) → then_rows x (λ n. rows_of []) ≡ x
then_none (no_rows r) = refl
then_none (rows_of rs) = ap rows_of (append-nil rs)

-- The answer

abbrev pub add_answer : ℕ → Result ℕ Fault → Result ℕ Fault
add_answer n (Err r) = Err r
add_answer n (Ok m) = Ok (n + m)

abbrev pub then_answer : Result ℕ Fault → (ℕ → Result ℕ Fault) → Result ℕ Fault
then_answer (Err r) next = Err r
then_answer (Ok n) next = add_answer n (next n)

prepend_answer : (rs : List Row) (x : Rows) → rows_answer (prepend_rows rs x) ≡ add_answer (length rs) (rows_answer x)
unfolding rows_answer
prepend_answer rs (no_rows r) = refl
prepend_answer rs (rows_of qs) = ap Ok (length-append rs qs)

pub then_answer_lem : (x : Rows) (next : ℕ → Rows) → rows_answer (then_rows x next) ≡ then_answer (rows_answer x) (λ n. rows_answer (next n))
unfolding rows_answer
then_answer_lem (no_rows r) next = refl
then_answer_lem (rows_of rs) next = prepend_answer rs (next (length rs))

pub answer_same : (p : Result ℕ Fault) (f g : ℕ → Result ℕ Fault) → ((n : ℕ) → f n ≡ g n) → then_answer p f ≡ then_answer p g
answer_same (Err r) f g h = refl
answer_same (Ok n) f g h = ap (add_answer n) (h n)

pub then_same : (x y : Rows) (f g : ℕ → Rows) → rows_answer x ≡ rows_answer y → ((n : ℕ) → rows_answer (f n) ≡ rows_answer (g n)) → rows_answer (then_rows x f) ≡ rows_answer (then_rows y g)
then_same x y f g h k =
    then_answer_lem x f
    ∙ ap (λ (p : Result ℕ Fault). then_answer p (λ n. rows_answer (f n))) h
    ∙ answer_same (rows_answer y) (λ n. rows_answer (f n)) (λ n. rows_answer (g n)) k
    ∙ sym (then_answer_lem y g)

-- Counted from n bytes before

abbrev pub further : ℕ → Result ℕ Fault → Result ℕ Fault
further n (Err f) = Err (shifted n f)
further n (Ok m) = Ok m

add_further : (n m : ℕ) (p : Result ℕ Fault) → add_answer m (further n p) ≡ further n (add_answer m p)
add_further n m (Err f) = refl
add_further n m (Ok k) = refl

answer_further : (n : ℕ) (p : Result ℕ Fault) (f : ℕ → Result ℕ Fault) → then_answer (further n p) (λ i. further n (f i)) ≡ further n (then_answer p f)
answer_further n (Err r) f = refl
answer_further n (Ok m) f = add_further n m (f m)

pub then_further : (n : ℕ) (x y : Rows) (f g : ℕ → Rows) → rows_answer x ≡ further n (rows_answer y) → ((i : ℕ) → rows_answer (f i) ≡ further n (rows_answer (g i)))
    → rows_answer (then_rows x f) ≡ further n (rows_answer (then_rows y g))
then_further n x y f g h k =
    then_answer_lem x f
    ∙ ap (λ (p : Result ℕ Fault). then_answer p (λ i. rows_answer (f i))) h
    ∙ answer_same (further n (rows_answer y)) (λ i. rows_answer (f i)) (λ i. further n (rows_answer (g i))) k
    ∙ answer_further n (rows_answer y) (λ i. rows_answer (g i))
    ∙ ap (further n) (sym (then_answer_lem y g))

pub none_further : (n : ℕ) → rows_answer (rows_of []) ≡ further n (rows_answer (rows_of []))
unfolding rows_answer
none_further n = refl

-- A place at fault lies within n bytes

abbrev pub Inside : ℕ → Result ℕ Fault → Type 0
Inside n (Err f) = f.offset ≤ n
Inside n (Ok m) = Unit {0}

add_inside : (n m : ℕ) (p : Result ℕ Fault) → Inside n p → Inside n (add_answer m p)
add_inside n m (Err f) h = h
add_inside n m (Ok k) h = tt

pub then_inside : (n : ℕ) (p : Result ℕ Fault) (f : ℕ → Result ℕ Fault) → Inside n p → ((i : ℕ) → Inside n (f i)) → Inside n (then_answer p f)
then_inside n (Err r) f h k = h
then_inside n (Ok m) f h k = add_inside n m (f m) (k m)

pub none_inside : (n : ℕ) → Inside n (rows_answer (rows_of []))
unfolding rows_answer
none_inside n = tt

pub inside_more : (n m : ℕ) (p : Result ℕ Fault) → n ≤ m → Inside n p → Inside m p
inside_more n m (Err f) l h = omega arith
inside_more n m (Ok k) l h = tt

-- what follows was found where the whole was
pub then_taken : (p : Result ℕ Fault) (f : ℕ → Result ℕ Fault) (n : ℕ) → p ≡ Ok n → Taken (then_answer p f) → Taken (f n)
then_taken p f n h k = found (f n) (rw h at k)
  where
    found : (q : Result ℕ Fault) → Taken (add_answer n q) → Taken q
    found (Err r) z = z
    found (Ok m) z = tt

-- No more rows than a packet has, where `done` came before

abbrev pub Few : Edition → ℕ → Result ℕ Fault → Type 0
Few ed done (Err r) = Unit {0}
Few ed done (Ok n) = done + n ≤ max_rows ed

add_few : (ed : Edition) (done n : ℕ) (p : Result ℕ Fault) → Few ed (done + n) p → Few ed done (add_answer n p)
add_few ed done n (Err r) h = tt
add_few ed done n (Ok m) h = omega arith

pub then_few : (ed : Edition) (done : ℕ) (p : Result ℕ Fault) (f : ℕ → Result ℕ Fault) → Few ed done p → ((n : ℕ) → done + n ≤ max_rows ed → Few ed (done + n) (f n)) → Few ed done (then_answer p f)
then_few ed done (Err r) f h k = tt
then_few ed done (Ok n) f h k = add_few ed done n (f n) (k n h)

-- The words

pub answer_words : (x : Rows) (n : ℕ) → rows_answer x ≡ Ok n → length (rows_words x) ≡ row_width * n
unfolding rows_answer rows_words
answer_words (no_rows r) n h = let z : ◌≡◌ {A = ℕ} 0 1 = cc in absurd (omega arith)
answer_words (rows_of rs) n h = let e : length rs ≡ n = cc in length_words rs ∙ ap (λ (i : ℕ). row_width * i) e

prepend_words : (rs : List Row) (x : Rows) → Taken (rows_answer x) → rows_words (prepend_rows rs x) ≡ words rs ++ rows_words x
unfolding rows_answer rows_words
prepend_words rs (no_rows r) k = absurd k
prepend_words rs (rows_of qs) k = words_append rs qs

pub then_words : (x : Rows) (next : ℕ → Rows) (n : ℕ) → rows_answer x ≡ Ok n → Taken (rows_answer (next n))
    → rows_words (then_rows x next) ≡ rows_words x ++ rows_words (next n)
unfolding rows_answer rows_words
then_words (no_rows r) next n h k = let z : ◌≡◌ {A = ℕ} 0 1 = cc in absurd (omega arith)
then_words (rows_of rs) next n h k =
    let e : n ≡ length rs = cc in
    prepend_words rs (next (length rs)) (subst (λ (i : ℕ). Taken (rows_answer (next i))) e k)
    ∙ ap (λ (i : ℕ). words rs ++ rows_words (next i)) (sym e)

-- The answer p, with the area l left as m, is what these rows ask

abbrev pub Gives : Result ℕ Fault → List ℕ → List ℕ → Rows → Type 0
Gives p l m x = (p ≡ rows_answer x) × (m ≡ over (rows_words x) l)

-- by the payload's numbers
pub gives_read : (p : Result ℕ Fault) (l m : List ℕ) (x : Rows) → (payload_numbers p ≡ rows_numbers x) × (m ≡ over (rows_words x) l) → Gives p l m x
gives_read p l m x g = (rows_is p x g.0, g.1)

pub gives_numbers : (p : Result ℕ Fault) (l m : List ℕ) (x : Rows) → Gives p l m x → (payload_numbers p ≡ rows_numbers x) × (m ≡ over (rows_words x) l)
gives_numbers p l m x g = (rows_has p x g.0, g.1)

pub gives_none : (r : Fault) (l : List ℕ) (x : Rows) → x ≡ no_rows r → Gives (Err r) l l x
gives_none r l x h = (answer_none x r h, words_none x r l h)

pub gives_empty : (l : List ℕ) (x : Rows) → x ≡ rows_of [] → Gives (Ok 0) l l x
unfolding rows_answer rows_words words
gives_empty l x h = (rw h, rw h (sym (over_none l)))

pub gives_same : (p : Result ℕ Fault) (l m : List ℕ) (x y : Rows) → x ≡ y → Gives p l m x → Gives p l m y
gives_same p l m x y h g = (g.0 ∙ ap rows_answer h, g.1 ∙ ap (λ (z : Rows). over (rows_words z) l) h)

-- a refusal is all that such an answer says
pub only_refusal : (r : Fault) (x : Rows) → rows_answer x ≡ Err r → x ≡ no_rows r
unfolding rows_answer
only_refusal r (no_rows f) h = cc
only_refusal r (rows_of rs) h = let z : ◌≡◌ {A = ℕ} 0 1 = cc in absurd (omega arith)
