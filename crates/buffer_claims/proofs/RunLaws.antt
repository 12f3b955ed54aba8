-- Laws of runs from the buffer of a model: what is refused, and the buffer that is left.
use mathlib.Core.Path.{◌≡◌, refl, ap₂, sym, ◌∙◌}
use mathlib.Core.List.{List, [], ◌∷◌, map}
use mathlib.Core.Bool.{true}
use Prim.Native.Nat.{ℕ}
use lib.ListN.{length}
use Rattle.rtp.specs.Editions.{Edition}
use Rattle.rtp.specs.Ranges.{in_range}
use Rattle.rtp.specs.declared.settings.Settings.{Settings}
use Rattle.buffer_copies.specs.Entries.{Held}
use Rattle.buffer_copies.proofs.HeldLaws.{drawn_first}
use Rattle.buffer_claims.specs.Runs.{State, RowsLent, again, anew, lent, Call, offer, draw, Step, run, refusal_of}
use Rattle.buffer_claims.specs.Claims.{offer_refusal, draw_refusal, refusals}
use Rattle.buffer_claims.proofs.StepLaws.{Fine, at, offer_cases, judged_fine, store_length, rows_length, draw_cases, drawn_fine}

-- what is refused goes by the lengths of the areas alone

pub lent_length : (rows others : List ℕ) (a : RowsLent) → length rows ≡ length others → length (lent rows a) ≡ length (lent others a)
lent_length rows others again e = e
lent_length rows others (anew l) e = refl

pub refusal_length : (ed : Edition) (st : Settings) (s t rows others packet : List ℕ) → length s ≡ length t → length rows ≡ length others
    → offer_refusal ed st s rows packet ≡ offer_refusal ed st t others packet
unfolding offer_refusal
refusal_length ed st s t rows others packet e f = rw (e, f)

refusals_length : (ed : Edition) (st : Settings) (s t : List ℕ) → length s ≡ length t → (cs : List Call) (rows others : List ℕ) → length rows ≡ length others
    → refusals ed st s rows cs ≡ refusals ed st t others cs
unfolding refusals draw_refusal
refusals_length ed st s t e [] rows others f = refl
refusals_length ed st s t e (offer o ∷ cs) rows others f =
    let k = lent_length rows others o.area f in
    ap₂ ◌∷◌ (refusal_length ed st s t (lent rows o.area) (lent others o.area) o.packet e k)
    (refusals_length ed st s t e cs (lent rows o.area) (lent others o.area) k)
refusals_length ed st s t e (draw area ∷ cs) rows others f = rw (e, refusals_length ed st s t e cs rows others f)

module _ (ed : Edition) (st : Settings) (range : in_range ed st ≡ true) where
  pub run_refusals : (cs : List Call) (h : Held) → Fine st h → (s rows : List ℕ) → map refusal_of (run ed (at st h s rows) cs).yields ≡ refusals ed st s rows cs
  unfolding run refusals
  run_refusals [] h g s rows = refl
  run_refusals (offer o ∷ cs) h g s rows =
      let l = lent rows o.area in
      offer_cases ed st range h g s rows o
      (λ (d : Step). refusal_of d.yield ∷ map refusal_of (run ed d.state cs).yields ≡ offer_refusal ed st s l o.packet ∷ refusals ed st s l cs)
      (λ q e. ap₂ ◌∷◌ (sym e) (run_refusals cs h g s l))
      (λ rs r e.
      ap₂ ◌∷◌ (sym e)
      (run_refusals cs _ (judged_fine ed st h s l range g o.packet rs r) _ _
      ∙ refusals_length ed st _ s (store_length ed st h s l range g o.packet rs r) cs _ l (rows_length ed st h s l range g o.packet rs r)))
  run_refusals (draw area ∷ cs) h g s rows =
      draw_cases ed st range h g s rows area
      (λ (d : Step). refusal_of d.yield ∷ map refusal_of (run ed d.state cs).yields ≡ draw_refusal s area ∷ refusals ed st s rows cs)
      (λ e. ap₂ ◌∷◌ (sym e) (run_refusals cs h g s rows))
      (λ e q. ap₂ ◌∷◌ (sym e) (run_refusals cs h g s rows))
      (λ e room x es q. ap₂ ◌∷◌ (sym e) (run_refusals cs (drawn_first x es) (drawn_fine ed st range h g s rows x es q) s rows))

  -- the state that a run leaves is that of a model
  pub record Left (s : State) : Type 0 where
    pub held : Held
    pub fine : Fine st held
    pub store : List ℕ
    pub rows : List ℕ
    pub same : s ≡ at st held store rows

  pub run_leaves : (cs : List Call) (h : Held) → Fine st h → (s rows : List ℕ) → Left (run ed (at st h s rows) cs).state
  unfolding run
  run_leaves [] h g s rows = record { held = h; fine = g; store = s; rows = rows; same = refl }
  run_leaves (offer o ∷ cs) h g s rows =
      let l = lent rows o.area in
      offer_cases ed st range h g s rows o (λ (d : Step). Left (run ed d.state cs).state)
      (λ q e. run_leaves cs h g s l)
      (λ rs r e. run_leaves cs _ (judged_fine ed st h s l range g o.packet rs r) _ _)
  run_leaves (draw area ∷ cs) h g s rows =
      draw_cases ed st range h g s rows area (λ (d : Step). Left (run ed d.state cs).state)
      (λ e. run_leaves cs h g s rows) (λ e q. run_leaves cs h g s rows)
      (λ e room x es q. run_leaves cs (drawn_first x es) (drawn_fine ed st range h g s rows x es q) s rows)
