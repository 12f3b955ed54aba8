-- Laws of a table and just the frames that it tells of, from what reading the table answered.
use Rattle.std.specs.Prelude.{Result}
use Rattle.std.proofs.Common.{◌≡◌, ℕ, ◌+◌, eqb, List, length, refl, subst, arith, eq-eqb, ne_eqb}
use Rattle.std.specs.Prelude.{Err, Ok}
use Rattle.rtp.specs.Editions.{Edition}
use Rattle.rtp.specs.Faults.{fault_at}
use Rattle.rtp.specs.declared.refusal.Fault.{Fault}
use Rattle.rtp.specs.declared.refusal.Refusal.TheVariants.{LengthMismatch}
use Rattle.read_contents.specs.declared.entries.Sizes.{Sizes}
use Rattle.read_contents.specs.Contents.{Contents, refused, groups, contents, pass_first, size_in, frames_in, sizes_answer}
use Rattle.rtp.proofs.TestLaws.{by-test}
use Rattle.read_contents.proofs.ContentsLaws.{Within, within}
use Rattle.read_rows.proofs.FirstLaws.{sizes_passed}
use Rattle.read_rows.specs.Room.{contents_words}
use Rattle.read_rows.specs.Tables.{exact, fitting_words}

pub same_sizes : (a b : Sizes) → ◌≡◌ {A = Result Sizes Fault} (Ok a) (Ok b) → a ≡ b
same_sizes a b h = cc

pub exact_refused : (format ch n : ℕ) (r : Fault) (p : Contents) → sizes_answer format ch p ≡ Err r → exact format ch n p ≡ refused r
unfolding sizes_answer
exact_refused format ch n r (refused q) h = cc
exact_refused format ch n r (groups gs) h = let z : ◌≡◌ {A = ℕ} 0 1 = cc in absurd (omega arith)

-- what a table that was read is
pub record Exact (mark format ch n time at : ℕ) (p : Contents) (t : Sizes) : Type 0 where
  pub whole : t.size + t.frames ≡ n → exact format ch n p ≡ p
  pub part : (t.size + t.frames ≡ n → ⊥) → exact format ch n p ≡ refused (fault_at t.size LengthMismatch)
  pub words : fitting_words mark format ch time at p ≡ contents_words mark format ch time (at + t.size) p

pub exact_is : (mark format ch n time at : ℕ) (t : Sizes) (p : Contents) → sizes_answer format ch p ≡ Ok t → Exact mark format ch n time at p t
unfolding sizes_answer fitting_words contents_words
exact_is mark format ch n time at t (refused r) h = let z : ◌≡◌ {A = ℕ} 0 1 = cc in absurd (omega arith)
exact_is mark format ch n time at t (groups gs) h = subst (λ (x : Sizes). Exact mark format ch n time at (groups gs) x) (same_sizes _ t h) (record {
  whole = λ e. simp (eq-eqb _ _ e);
  part = λ e. simp (ne_eqb _ _ e);
  words = refl;
})

-- a table that answers a refusal is one
pub answer_refused : (format ch : ℕ) (r : Fault) (p : Contents) → sizes_answer format ch p ≡ Err r → p ≡ refused r
unfolding sizes_answer
answer_refused format ch r (refused q) h = cc
answer_refused format ch r (groups gs) h = let z : ◌≡◌ {A = ℕ} 0 1 = cc in absurd (omega arith)

-- its answer is bounded as that of the table
within_exact : (ed : Edition) (format ch rows n : ℕ) (p : Contents) → Within ed rows n (sizes_answer format ch p) → Within ed rows n (sizes_answer format ch (exact format ch n p))
unfolding sizes_answer
within_exact ed format ch rows n (refused r) w = w
within_exact ed format ch rows n (groups gs) w =
    by-test (eqb (size_in format gs + frames_in ch gs) n) (λ e. rw e w) (λ e. rw e w.within)

pub exact_within : (ed : Edition) (format ch rows : ℕ) (s : List ℕ) → Within ed rows (length s) (sizes_answer format ch (exact format ch (length s) (pass_first (contents ed format ch rows s))))
exact_within ed format ch rows s =
    within_exact ed format ch rows (length s) (pass_first (contents ed format ch rows s)) (rw (sizes_passed format ch (contents ed format ch rows s)) (within ed format ch rows s))
