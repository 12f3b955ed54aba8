-- Laws of the bytes before the table: the mode request, and the settings that it is asked with.
use mathlib.Core.Path.{◌≡◌, refl, ap, sym, ◌∙◌}
use mathlib.Core.List.{List, [], ◌∷◌}
use mathlib.Core.Bool.{true, false}
use Prim.Native.Nat.{ℕ, ◌*◌, ◌%◌, ◌≤◌, ◌<◌}
use native.Mathlib.Omega.{arith}
use lib.ListN.{length, set}
use lib.Dec.{ltb, eqb}
use borrow.Author.Tests.{ltb-false, eqb-true, eqb-false, eq-eqb, ne_eqb}
use Rattle.rtp.specs.Editions.{Edition}
use Rattle.rtp.specs.Areas.{over, fitted}
use Rattle.rtp.specs.Ranges.{in_range}
use Rattle.rtp.specs.declared.settings.Settings.{Settings}
use Rattle.rtp.proofs.TestLaws.{by-test, not-both}
use Rattle.rtp.proofs.AreaLaws.{over_none, over_one, fitted_in, fitted_short}
use Rattle.formats.specs.Formats.{format_of}
use Rattle.formats.proofs.FormatLaws.{header_small}
use Rattle.write_sizes.specs.Asking.{request_bytes, max_request, askable}

pub no_request_lem : (format request : ℕ) → (format_of format).header ≡ 0 → request_bytes format request ≡ []
unfolding request_bytes
no_request_lem format request h = rw (eq-eqb (format_of format).header 0 h)

pub one_request : (format request : ℕ) → ((format_of format).header ≡ 0 → ⊥) → request_bytes format request ≡ 16 * request ∷ []
unfolding request_bytes
one_request format request h = rw (ne_eqb (format_of format).header 0 h)

pub length_request : (format request : ℕ) → length (request_bytes format request) ≡ (format_of format).header
length_request format request =
    by-test (eqb (format_of format).header 0)
    (λ a. let h = eqb-true (format_of format).header 0 a in ap (λ (s : List ℕ). length s) (no_request_lem format request h) ∙ sym h)
    (λ a. let h = eqb-false (format_of format).header 0 a in ap (λ (s : List ℕ). length s) (one_request format request h) ∙ omega (arith, header_small format))

-- laid where there is room

pub lay_request : (format request : ℕ) (l : List ℕ) → (format_of format).header ≤ length l → fitted (request_bytes format request) l ≡ over (request_bytes format request) l
lay_request format request l h = fitted_in (request_bytes format request) l (omega (arith, length_request format request))

pub lay_none : (format request : ℕ) (l : List ℕ) → (format_of format).header ≡ 0 → l ≡ fitted (request_bytes format request) l
lay_none format request l h =
    sym (lay_request format request l (omega (arith, h)) ∙ ap (λ (s : List ℕ). over s l) (no_request_lem format request h) ∙ over_none l)

pub lay_short : (format request : ℕ) (l : List ℕ) → length l < (format_of format).header → l ≡ fitted (request_bytes format request) l
lay_short format request l h = sym (fitted_short (request_bytes format request) l (omega (arith, length_request format request)))

pub lay_one : (format request : ℕ) (l : List ℕ) → ((format_of format).header ≡ 0 → ⊥) → (format_of format).header ≤ length l → set l 0 (16 * request) ≡ fitted (request_bytes format request) l
lay_one format request l n h =
    over_one l (16 * request) (omega (arith, n))
    ∙ sym (lay_request format request l h ∙ ap (λ (s : List ℕ). over s l) (one_request format request n))

-- a request in range is its own four bits
pub four_bits : (request : ℕ) → request ≤ max_request → request % 16 ≡ request
four_bits request h = omega arith

-- what is asked for is in range

pub record Askable (ed : Edition) (st : Settings) (request : ℕ) : Type 0 where
  pub small : request ≤ max_request
  pub settings : in_range ed st ≡ true

pub asked : (ed : Edition) (st : Settings) (request : ℕ) → askable ed st request ≡ true → Askable ed st request
unfolding askable
asked ed st request h =
    by-test (ltb max_request request)
    (λ a. not-both false (rw a at h) refl)
    (λ a. record { small = ltb-false max_request request a; settings = rw a at h })
