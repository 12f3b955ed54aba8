-- Laws of the redundancy block headers.
use mathlib.Core.Path.{◌≡◌, refl, subst}
use Rattle.std.specs.Prelude.{Err, Ok, Result}
use Rattle.rtp.specs.declared.refusal.Fault.{Fault}
use mathlib.Core.List.{List}
use mathlib.Core.Bool.{Bool, true, false, cond}
use Prim.Native.Nat.{ℕ, zero, suc, ◌+◌, ◌-◌, ◌*◌, ◌≤◌, ◌<◌}
use native.Mathlib.Omega.{arith}
use lib.ListN.{length, drop, length-drop}
use lib.Dec.{ltb, eqb}
use borrow.Author.Tests.{ltb-false, eqb-false}
use Rattle.rtp.specs.declared.refusal.Refusal.{Refusal}
use Rattle.read_headers.specs.declared.redundancy.Redundant.{Redundant}
use Rattle.read_headers.specs.declared.redundancy.BlockHeader.{BlockHeader}
use Rattle.read_headers.specs.declared.redundancy.HeaderSizes.{HeaderSizes}
use Rattle.rtp.specs.Numbers.{byte_at}
use Rattle.rtp.specs.Faults.{fault, shifted}
use Rattle.read_headers.specs.Redundancy.{block_header, Headers, refused, headers_of, prepend, headers_step, headers_by, headers, headers_size, redundant_size, headers_answer}
use Rattle.rtp.proofs.TestLaws.{by-test}
use Rattle.rtp.proofs.ByteLaws.{Bytes, bytes_drop}

past_block : (b : Bool) (r : Refusal) (x : Result BlockHeader Refusal) (e : Redundant) → cond b (Err r) x ≡ Ok (BlockHeader.Redundant e) → (b ≡ false) × (x ≡ Ok (BlockHeader.Redundant e))
past_block true r x e h = let z : ◌≡◌ {A = ℕ} 0 1 = cc in absurd (omega arith)
past_block false r x e h = (refl, h)

same_block : (a b : Redundant) → ◌≡◌ {A = Result BlockHeader Refusal} (Ok (BlockHeader.Redundant a)) (Ok (BlockHeader.Redundant b)) → a ≡ b
same_block a b h = cc

-- a redundant block's header has four bytes, and its length ten bits
pub record Fair (s : List ℕ) (e : Redundant) : Type 0 where
  pub within : 4 ≤ length s
  pub short : Bytes s → e.length < 1024

pub fair : (s : List ℕ) (e : Redundant) → block_header s ≡ Ok (BlockHeader.Redundant e) → Fair s e
unfolding block_header
fair s e h =
    let p1 = past_block (eqb (length s) 0) _ _ e h in
    by-test (ltb (byte_at s 0) 128)
    (λ a. let y = rw a at p1.1 in let z : ◌≡◌ {A = ℕ} 0 1 = cc in absurd (omega arith))
    (λ a.
    let p2 = past_block (ltb (length s) 4) _ _ e (rw a at p1.1) in
    subst (λ (x : Redundant). Fair s x) (same_block _ e p2.1)
    (record { within = ltb-false (length s) 4 p2.0; short = λ bs. omega (arith, bs 3) }))

-- the primary block's header has a byte
pub some_byte : (s : List ℕ) (t : ℕ) → block_header s ≡ Ok (BlockHeader.Primary t) → 1 ≤ length s
unfolding block_header
some_byte s t h =
    by-test (eqb (length s) 0)
    (λ a. let y = rw a at h in let z : ◌≡◌ {A = ℕ} 0 1 = cc in absurd (omega arith))
    (λ a. omega (arith, eqb-false (length s) 0 a))

step_same : (s : List ℕ) (f g : List ℕ → Headers) (b : Result BlockHeader Refusal) → ((e : Redundant) → b ≡ Ok (BlockHeader.Redundant e) → f (drop 4 s) ≡ g (drop 4 s))
    → headers_step s f b ≡ headers_step s g b
step_same s f g (Err r) h = refl
step_same s f g (Ok (BlockHeader.Primary t)) h = refl
step_same s f g (Ok (BlockHeader.Redundant e)) h = rw (h e refl)

-- what follows a redundant block's header is shorter
pub shorter : (s : List ℕ) (e : Redundant) → block_header s ≡ Ok (BlockHeader.Redundant e) → length (drop 4 s) < length s
shorter s e h = let k = fair s e h in simp length-drop (omega arith)

fuel : (f g : ℕ) (s : List ℕ) → length s < f → length s < g → headers_by f s ≡ headers_by g s
unfolding headers_by
fuel zero g s h k = absurd (omega arith)
fuel (suc f) zero s h k = absurd (omega arith)
fuel (suc f) (suc g) s h k =
    step_same s (λ t. headers_by f t) (λ t. headers_by g t) (block_header s) (λ e q. fuel f g (drop 4 s) (omega (arith, shorter s e q)) (omega (arith, shorter s e q)))

-- the headers by the first one: what every other proof goes by
pub headers_step_lem : (s : List ℕ) → headers s ≡ headers_step s (λ t. headers t) (block_header s)
unfolding headers headers_by
headers_step_lem s =
    step_same s (λ t. headers_by (length s) t) (λ t. headers t) (block_header s)
    (λ e q. fuel (length s) (suc (length (drop 4 s))) (drop 4 s) (shorter s e q) (omega arith))

-- The answer by the first header

abbrev pub ahead : Redundant → Result HeaderSizes Fault → Result HeaderSizes Fault
ahead e (Err f) = Err (shifted 4 f)
ahead e (Ok z) = Ok (record { size = 4 + z.size; redundant = e.length + z.redundant })

prepend_answer : (e : Redundant) (h : Headers) → headers_answer (prepend e h) ≡ ahead e (headers_answer h)
unfolding headers_answer headers_size redundant_size
prepend_answer e (refused r) = refl
prepend_answer e (headers_of bs t) = refl

module _ (s : List ℕ) where
  pub at_refused : (r : Refusal) → block_header s ≡ Err r → headers_answer (headers s) ≡ Err (fault r)
  unfolding headers_answer
  at_refused r h = rw (headers_step_lem, h)

  pub at_primary : (t : ℕ) → block_header s ≡ Ok (BlockHeader.Primary t) → headers_answer (headers s) ≡ Ok (record { size = 1; redundant = 0 })
  unfolding headers_answer headers_size redundant_size
  at_primary t h = rw (headers_step_lem, h)

  pub at_redundant : (e : Redundant) → block_header s ≡ Ok (BlockHeader.Redundant e) → headers_answer (headers s) ≡ ahead e (headers_answer (headers (drop 4 s)))
  at_redundant e h = rw (headers_step_lem s, h) (prepend_answer e (headers (drop 4 s)))

-- Bounds: the headers lie inside the payload, and a redundant block is at most 1,023 bytes
pub record Small (n : ℕ) (z : HeaderSizes) : Type 0 where
  pub some : 1 ≤ z.size
  pub within : z.size ≤ n
  pub short : 4 * z.redundant ≤ 1024 * z.size

abbrev pub Within : ℕ → Result HeaderSizes Fault → Type 0
Within n (Ok z) = Small n z
Within n (Err f) = Unit {0}

within_more : (n : ℕ) (e : Redundant) (h : Result HeaderSizes Fault) → 4 ≤ n → e.length < 1024 → Within (n - 4) h → Within n (ahead e h)
within_more n e (Err p) f l w = tt
within_more n e (Ok z) f l w = record { some = omega arith; within = omega arith; short = omega arith }

within_step : (f : ℕ) (s : List ℕ) → length s < suc f → Bytes s
    → ((t : List ℕ) → length t < f → Bytes t → Within (length t) (headers_answer (headers t)))
    → (b : Result BlockHeader Refusal) → block_header s ≡ b → Within (length s) (headers_answer (headers s))
within_step f s l bs ih (Err r) q = rw (at_refused s r q) tt
within_step f s l bs ih (Ok (BlockHeader.Primary t)) q =
    rw (at_primary s t q) (record { some = omega arith; within = some_byte s t q; short = omega arith })
within_step f s l bs ih (Ok (BlockHeader.Redundant e)) q =
    let k = fair s e q in
    rw (at_redundant s e q)
    (within_more (length s) e (headers_answer (headers (drop 4 s))) k.within (k.short bs)
    (rw (length-drop 4 s) at (ih (drop 4 s) (omega (arith, shorter s e q)) (bytes_drop 4 s bs))))

within_by : (f : ℕ) (s : List ℕ) → length s < f → Bytes s → Within (length s) (headers_answer (headers s))
within_by zero s l bs = absurd (omega arith)
within_by (suc f) s l bs = within_step f s l bs (λ t m cs. within_by f t m cs) (block_header s) refl

pub within : (s : List ℕ) → Bytes s → Within (length s) (headers_answer (headers s))
within s bs = within_by (suc (length s)) s (omega arith) bs

-- The headers, or the place at fault, lie inside n bytes
abbrev pub InFront : ℕ → Result HeaderSizes Fault → Type 0
InFront n (Ok z) = z.size ≤ n
InFront n (Err f) = f.offset ≤ n

front_more : (n : ℕ) (e : Redundant) (h : Result HeaderSizes Fault) → 4 ≤ n → InFront (n - 4) h → InFront n (ahead e h)
front_more n e (Err p) f w = omega arith
front_more n e (Ok z) f w = omega arith

front_step : (f : ℕ) (s : List ℕ) → length s < suc f → ((t : List ℕ) → length t < f → InFront (length t) (headers_answer (headers t)))
    → (b : Result BlockHeader Refusal) → block_header s ≡ b → InFront (length s) (headers_answer (headers s))
front_step f s l ih (Err r) q = rw (at_refused s r q) (omega arith)
front_step f s l ih (Ok (BlockHeader.Primary t)) q = rw (at_primary s t q) (some_byte s t q)
front_step f s l ih (Ok (BlockHeader.Redundant e)) q =
    rw (at_redundant s e q)
    (front_more (length s) e (headers_answer (headers (drop 4 s))) (fair s e q).within (rw (length-drop 4 s) at (ih (drop 4 s) (omega (arith, shorter s e q)))))

front_by : (f : ℕ) (s : List ℕ) → length s < f → InFront (length s) (headers_answer (headers s))
front_by zero s l = absurd (omega arith)
front_by (suc f) s l = front_step f s l (λ t m. front_by f t m) (block_header s) refl

pub front : (s : List ℕ) → InFront (length s) (headers_answer (headers s))
front s = front_by (suc (length s)) s (omega arith)
