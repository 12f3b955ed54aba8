-- Laws of the packets that offers accept, and of the copies that packets bring.
use mathlib.Core.Path.{◌≡◌, refl, ap, ◌∙◌, subst}
use mathlib.Core.Logic.{◌⊎◌, inl, inr}
use mathlib.Core.List.Memᴰ.{append_cases}
use mathlib.Core.List.Memᴰ.{head as here}
use mathlib.Core.List.Memᴰ.{not-nil as nowhere}
use mathlib.Core.List.Memᴰ.{tail as there}
use mathlib.Core.List.{List, [], ◌∷◌, ◌++◌, Memᴰ}
use mathlib.Core.Bool.{true}
use native.Mathlib.Omega.{arith}
use Prim.Native.Nat.{ℕ, ◌≤◌, ◌<◌}
use lib.ListN.{length}
use lib.Dec.{ltb}
use borrow.Author.Tests.{le-ltb, lt-ltb}
use Rattle.rtp.specs.Editions.{Edition}
use Rattle.rtp.specs.Sizes.{row_area}
use Rattle.rtp.specs.Ranges.{in_range}
use Rattle.rtp.specs.declared.settings.Settings.{Settings}
use Rattle.rtp.proofs.TestLaws.{by-test}
use Rattle.read_rows.specs.Rows.{Row}
use Rattle.read_packet.specs.Readings.{Outcome, reading}
use Rattle.buffer_copies.specs.Sizes.{store_size}
use Rattle.buffer_copies.specs.Copies.{Received}
use Rattle.buffer_copies.specs.Entries.{Held}
use Rattle.buffer_copies.specs.Verdicts.{judge_all}
use Rattle.buffer_copies.proofs.JudgeLaws.{judge_all_append}
use Rattle.buffer_copies.proofs.HeldLaws.{Frames, Marks}
use Rattle.buffer_offer.specs.Rows.{received_in}
use Rattle.buffer_offer.specs.ModelCalls.{read_received}
use Rattle.buffer_offer.proofs.StateLaws.{Fits}
use Rattle.buffer_offer.proofs.CopyLaws.{read_fit, fits_append, fits_frames, fits_marks}
use Rattle.buffer_claims.specs.Runs.{lent, Offer}
use Rattle.buffer_claims.specs.Claims.{offer_refusal, accepted, received_from, copies_in}
use Rattle.buffer_claims.proofs.StepLaws.{IsRead}
use Rattle.buffer_claims.proofs.RunLaws.{lent_length, refusal_length}

-- a packet is read alike into every row area that is long enough
pub reads_alike : (ed : Edition) (st : Settings) (n : ℕ) (packet : List ℕ) → row_area ed ≤ n → reading ed st (row_area ed) packet ≡ reading ed st n packet
unfolding reading
reads_alike ed st n packet l = rw (le-ltb n (row_area ed) l, le-ltb (row_area ed) (row_area ed) (omega arith))

-- judging the copies of one more packet
pub judge_more : (ed : Edition) (st : Settings) (h : Held) (s l packet : List ℕ) (rs : List Row) → IsRead ed st h s l packet rs → (ps : List (List ℕ))
    → let g = judge_all h s (received_in packet rs) in let k = judge_all g.held g.store (received_from ed st ps) in
    judge_all h s (received_from ed st (packet ∷ ps)) ≡ record { held = k.held; store = k.store; judgements = g.judgements ++ k.judgements }
unfolding received_from
judge_more ed st h s l packet rs r ps =
    ap (λ (x : Outcome). judge_all h s (read_received packet x ++ received_from ed st ps)) (reads_alike ed st (length l) packet r.area ∙ r.same)
    ∙ judge_all_append h s (received_in packet rs) (received_from ed st ps)

-- what is accepted goes by the lengths of the areas alone
pub accepted_length : (ed : Edition) (st : Settings) (s t : List ℕ) → length s ≡ length t → (os : List Offer) (rows others : List ℕ) → length rows ≡ length others
    → accepted ed st s rows os ≡ accepted ed st t others os
unfolding accepted
accepted_length ed st s t e [] rows others f = refl
accepted_length ed st s t e (o ∷ os) rows others f =
    let k = lent_length rows others o.area f in
    rw (refusal_length ed st s t (lent rows o.area) (lent others o.area) o.packet e k, accepted_length ed st s t e os (lent rows o.area) (lent others o.area) k)

-- nothing, with a store under its size
pub accepted_none : (ed : Edition) (st : Settings) (s : List ℕ) → length s < store_size → (os : List Offer) (rows : List ℕ) → accepted ed st s rows os ≡ []
unfolding accepted offer_refusal
accepted_none ed st s l [] rows = refl
accepted_none ed st s l (o ∷ os) rows =
    by-test (ltb (length (lent rows o.area)) (row_area ed))
    (λ a. rw a (accepted_none ed st s l os (lent rows o.area)))
    (λ a. rw (a, lt-ltb (length s) store_size l) (accepted_none ed st s l os (lent rows o.area)))

-- The copies of packets

copies_fit : (ed : Edition) (st : Settings) → in_range ed st ≡ true → (ps : List (List ℕ)) → Fits st (received_from ed st ps)
unfolding received_from Fits
copies_fit ed st range [] = tt
copies_fit ed st range (p ∷ ps) =
    fits_append st (read_received p (reading ed st (row_area ed) p)) (received_from ed st ps) (read_fit ed st range (row_area ed) p (reading ed st (row_area ed) p) refl) (copies_fit ed st range ps)

pub copies_frames : (ed : Edition) (st : Settings) → in_range ed st ≡ true → (ps : List (List ℕ)) → Frames (copies_in ed st ps)
copies_frames ed st range ps = fits_frames st (received_from ed st ps) (copies_fit ed st range ps)

pub copies_marks : (ed : Edition) (st : Settings) → in_range ed st ≡ true → (ps : List (List ℕ)) → Marks (received_from ed st ps)
copies_marks ed st range ps = fits_marks st (received_from ed st ps) (copies_fit ed st range ps)

left : {A : Type 0} (x : A) (xs ys : List A) → Memᴰ x xs → Memᴰ x (xs ++ ys)
left {A = A} x [] ys x'' = elim x'' [ ]
left x (a ∷ xs) ys (here e) = here e
left x (a ∷ xs) ys (there m) = there (left x xs ys m)

right : {A : Type 0} (x : A) (xs ys : List A) → Memᴰ x ys → Memᴰ x (xs ++ ys)
right x [] ys m = m
right x (a ∷ xs) ys m = there (right x xs ys m)

-- of a packet among others
copy_in_lem : (ed : Edition) (st : Settings) (ps : List (List ℕ)) (p : List ℕ) (x : Received) → Memᴰ p ps → Memᴰ x (read_received p (reading ed st (row_area ed) p)) → Memᴰ x (received_from ed st ps)
unfolding received_from
copy_in_lem ed st [] p x x4 m = elim x4 [ ]
copy_in_lem ed st (q ∷ ps) p x (here e) m =
    left x (read_received q (reading ed st (row_area ed) q)) (received_from ed st ps) (subst (λ (r : List ℕ). Memᴰ x (read_received r (reading ed st (row_area ed) r))) e m)
copy_in_lem ed st (q ∷ ps) p x (there n) m = right x (read_received q (reading ed st (row_area ed) q)) (received_from ed st ps) (copy_in_lem ed st ps p x n m)

-- packets that are all among others bring no other copies
pub copies_among : (ed : Edition) (st : Settings) (ps qs : List (List ℕ)) → ((p : List ℕ) → Memᴰ p ps → Memᴰ p qs) → (x : Received) → Memᴰ x (received_from ed st ps) → Memᴰ x (received_from ed st qs)
unfolding received_from
copies_among ed st [] qs f x m = absurd (nowhere m)
copies_among ed st (p ∷ ps) qs f x m = go (append_cases (read_received p (reading ed st (row_area ed) p)) m) (copies_among ed st ps qs (λ q n. f q (there n)) x)
  where
    go : Memᴰ x (read_received p (reading ed st (row_area ed) p)) ⊎ Memᴰ x (received_from ed st ps) → (Memᴰ x (received_from ed st ps) → Memᴰ x (received_from ed st qs)) → Memᴰ x (received_from ed st qs)
    go (inl a) rest = copy_in_lem ed st qs p x (f p (here refl)) a
    go (inr a) rest = rest a
