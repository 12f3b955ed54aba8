-- Laws of a table and its frames in a packet, from what reading the table answered.
use Rattle.std.proofs.Common.{◌≡◌, ℕ, ◌+◌, ◌*◌, ◌^◌, ◌<◌, ◌≤◌, List, length, sym, refl, ap, ◌∙◌, subst, mul-le-mul_left, arith, le-ltb, lt-ltb}
use Rattle.std.specs.Prelude.{Err, Ok, Result}
use Rattle.rtp.specs.Editions.{Edition}
use Rattle.rtp.specs.Sizes.{max_packet, row_width, row_area}
use Rattle.rtp.specs.Areas.{over}
use Rattle.rtp.specs.Faults.{fault_at, fault}
use Rattle.rtp.specs.declared.refusal.Fault.{Fault}
use Rattle.rtp.specs.declared.refusal.Refusal.TheVariants.{PacketLength, LengthMismatch, AreaTooShort}
use Rattle.rtp.proofs.AreaLaws.{over_none}
use Rattle.formats.specs.Frames.{step_of}
use Rattle.formats.proofs.FormatLaws.{max_step, step_fine}
use Rattle.read_contents.specs.declared.entries.Sizes.{Sizes}
use Rattle.read_contents.specs.Contents.{Contents, refused, gap_at, contents, pass_first, contents_read_numbers, contents_numbers, sizes_answer}
use Rattle.read_contents.proofs.ContentsLaws.{Small, Within, within}
use Rattle.read_contents.proofs.NumberLaws.{contents_has}
use Rattle.read_rows.specs.Room.{TableRoom, contents_words, origin_of}
use Rattle.read_rows.specs.Tables.{exact, fitting, fitting_words}
use Rattle.read_rows.proofs.FirstLaws.{sizes_passed, begins, words_from}
use Rattle.read_rows.proofs.ExactLaws.{exact_refused, Exact, exact_is}

-- what a call gives that comes to p: the answer r, and the area m for l
abbrev pub Gives : ℕ → ℕ → ℕ → ℕ → ℕ → Result Sizes Fault → List ℕ → List ℕ → Contents → Type 0
Gives mark format ch time at r l m p = (contents_read_numbers r ≡ contents_numbers format ch p) × (m ≡ over (fitting_words mark format ch time at p) l)

pub gives_none : (mark format ch time at : ℕ) (f : Fault) (l : List ℕ) (p : Contents) → p ≡ refused f → Gives mark format ch time at (Err f) l l p
unfolding contents_numbers fitting_words
gives_none mark format ch time at f l p h = rw h (refl, sym (over_none l))

module _ (ed : Edition) (format ch rows area at : ℕ) (s : List ℕ) where
  pub fitting_short : row_width * rows + area < row_area ed → fitting ed format ch rows area at s ≡ refused (fault AreaTooShort)
  unfolding fitting
  fitting_short a = rw (lt-ltb (row_width * rows + area) (row_area ed) a)

  pub fitting_long : row_area ed ≤ row_width * rows + area → max_packet < at + length s → fitting ed format ch rows area at s ≡ refused (fault PacketLength)
  unfolding fitting
  fitting_long a b = rw (le-ltb (row_width * rows + area) (row_area ed) a, lt-ltb max_packet (at + length s) b)

  module _ (a : row_area ed ≤ row_width * rows + area) (b : at + length s ≤ max_packet) where
    pub fitting_in : fitting ed format ch rows area at s ≡ exact format ch (length s) (pass_first (contents ed format ch rows s))
    unfolding fitting
    fitting_in = rw (le-ltb (row_width * rows + area) (row_area ed) a, le-ltb max_packet (at + length s) b)

    pub fitting_refused : (f : Fault) → sizes_answer format ch (contents ed format ch rows s) ≡ Err f → fitting ed format ch rows area at s ≡ refused f
    fitting_refused f h = fitting_in ∙ exact_refused format ch (length s) f (pass_first (contents ed format ch rows s)) (sizes_passed format ch (contents ed format ch rows s) ∙ h)

    module _ (t : Sizes) (h : sizes_answer format ch (contents ed format ch rows s) ≡ Ok t) where
      is : (mark time : ℕ) → Exact mark format ch (length s) time at (pass_first (contents ed format ch rows s)) t
      is mark time = exact_is mark format ch (length s) time at t (pass_first (contents ed format ch rows s)) (sizes_passed format ch (contents ed format ch rows s) ∙ h)

      pub fitting_part : (t.size + t.frames ≡ length s → ⊥) → fitting ed format ch rows area at s ≡ refused (fault_at t.size LengthMismatch)
      fitting_part f = fitting_in ∙ (is 0 0).part f

      pub fitting_small : Small ed rows (length s) t
      fitting_small = subst (λ (r : Result Sizes Fault). Within ed rows (length s) r) h (within ed format ch rows s)

      module _ (e : t.size + t.frames ≡ length s) where
        pub fitting_whole : fitting ed format ch rows area at s ≡ pass_first (contents ed format ch rows s)
        fitting_whole = fitting_in ∙ (is 0 0).whole e

        pub fitting_room : ch ≤ 256 → TableRoom ch (at + t.size) area (sizes_answer format ch (contents ed format ch rows s))
        fitting_room c = let w = fitting_small in rw h (omega arith, omega arith, c)

        -- the rows are written, counted from the time before in which the first entry's DIS1 is passed over
        pub gives_rows : (mark time o : ℕ) (l m : List ℕ) → time < 2 ^ 32 → (o ≡ origin_of format time s) × (gap_at format s 0 < 16)
            → m ≡ over (contents_words mark format ch o (at + t.size) (contents ed format ch rows s)) l
            → Gives mark format ch time at (Ok t) l m (fitting ed format ch rows area at s)
        gives_rows mark time o l m k z w =
            let step : step_of format ≤ max_step = (step_fine format).small in
            let small : gap_at format s 0 * step_of format ≤ 2 ^ 32 = omega (arith, mul-le-mul_left (gap_at format s 0) step, z.1) in
            let p = contents ed format ch rows s in (
              contents_has format ch (Ok t) (fitting ed format ch rows area at s) (sym (ap (sizes_answer format ch) fitting_whole ∙ sizes_passed format ch p ∙ h)),
              w ∙ ap (λ (q : List ℕ). over q l)
                  (ap (λ (x : ℕ). contents_words mark format ch x (at + t.size) p) z.0
                  ∙ words_from mark format ch (gap_at format s 0) time (at + t.size) p k small (begins ed format ch rows s)
                  ∙ sym (is mark time).words
                  ∙ sym (ap (fitting_words mark format ch time at) fitting_whole)),
            )
