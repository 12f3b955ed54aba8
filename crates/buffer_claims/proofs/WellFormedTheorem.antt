-- Runs keep a buffer well-formed: the proof of the claim.
use mathlib.Core.Path.{◌≡◌, refl, ap, sym, ◌∙◌, subst}
use mathlib.Core.List.{List, [], ◌∷◌}
use mathlib.Core.Bool.{true, false}
use Prim.Native.Nat.{ℕ}
use Rattle.rtp.specs.Editions.{Edition}
use Rattle.rtp.specs.Ranges.{in_range}
use Rattle.rtp.specs.declared.settings.Settings.{Settings}
use Rattle.rtp.proofs.TestLaws.{by-test}
use Rattle.buffer_copies.proofs.HeldLaws.{fresh}
use Rattle.buffer_layout.specs.declared.buffer.Buffer.{Buffer}
use Rattle.buffer_layout.specs.Arrays.{Machine}
use Rattle.buffer_layout.specs.Layout.{decode}
use Rattle.buffer_layout.specs.WellFormed.{well_formed}
use Rattle.buffer_offer.specs.Calls.{NewOutcome, OfferOutcome}
use Rattle.buffer_draw.specs.Calls.{DrawOutcome}
use Rattle.buffer_offer.proofs.CallLaws.{new_in, offer_out}
use Rattle.buffer_draw.proofs.CallLaws.{draw_out}
use Rattle.buffer_layout.proofs.WellFormedLaws.{encode_decode, fresh_formed}
use Rattle.buffer_offer.proofs.BufferLaws.{buffer_good, good_fine}
use Rattle.buffer_claims.specs.Runs.{State, lent, Call, offer, draw, step, run, begun}
use Rattle.buffer_claims.specs.Claims.{KeepsWellFormed}
use Rattle.buffer_claims.proofs.StepLaws.{spare, fresh_fine, begun_at}
use Rattle.buffer_claims.proofs.RunLaws.{run_leaves}

-- under settings out of range every call is refused
module _ (ed : Edition) (b : Buffer) (out : in_range ed b.settings ≡ false) where
  stays : (cs : List Call) (s rows : List ℕ) → (run ed (record { buffer = b; store = s; rows = rows }) cs).state.buffer ≡ b
  unfolding run step
  stays [] s rows = refl
  stays (offer o ∷ cs) s rows =
      let l = lent rows o.area in
      ap (λ (r : OfferOutcome). (run ed (record { buffer = r.buffer; store = r.store; rows = r.rows }) cs).state.buffer) (offer_out ed b o.packet l s out) ∙ stays cs s l
  stays (draw area ∷ cs) s rows =
      ap (λ (r : DrawOutcome). (run ed (record { buffer = r.buffer; store = s; rows = rows }) cs).state.buffer) (draw_out ed b s area out) ∙ stays cs s rows

kept : (ed : Edition) (s : State) (cs : List Call) → Machine s.buffer → well_formed s.buffer ≡ true → well_formed (run ed s cs).state.buffer ≡ true
kept ed s cs m w =
    let b = s.buffer in
    let st = b.settings in
    by-test (in_range ed st)
    (λ r.
    let k = run_leaves ed st r cs (decode b) (buffer_good ed b m r w spare.0 spare.1) s.store s.rows in
    subst (λ (x : Buffer). well_formed (run ed (record { buffer = x; store = s.store; rows = s.rows }) cs).state.buffer ≡ true) (encode_decode b m w)
    (ap (λ (x : State). well_formed x.buffer) k.same ∙ good_fine st k.held spare.0 k.fine))
    (λ r. ap well_formed (stays ed b r cs s.store s.rows) ∙ w)

from_fresh : (ed : Edition) (st : Settings) → in_range ed st ≡ true → (store rows : List ℕ) (cs : List Call) → well_formed (run ed (begun ed st store rows) cs).state.buffer ≡ true
from_fresh ed st r store rows cs =
    let k = run_leaves ed st r cs fresh (fresh_fine st) store rows in
    subst (λ (s : State). well_formed (run ed s cs).state.buffer ≡ true) (sym (begun_at ed st r store rows))
    (ap (λ (x : State). well_formed x.buffer) k.same ∙ good_fine st k.held spare.0 k.fine)

pub keeps_well_formed : (ed : Edition) → KeepsWellFormed ed
keeps_well_formed ed = record {
  new = λ st r. ap (λ (n : NewOutcome). well_formed n.buffer) (new_in ed st r) ∙ fresh_formed st;
  kept = kept ed;
  from_fresh = from_fresh ed;
}
