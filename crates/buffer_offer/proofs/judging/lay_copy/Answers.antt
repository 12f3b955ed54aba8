use mathlib.Core.Path.{◌≡◌, sym, ◌∙◌, ap₂, subst₂}
use Prim.Native.Nat.{ℕ, ◌<◌, ◌^◌}
use mir.Val.{Fits}
use mir.Syntax.{w32}
use lib.ListN.{length}
use Rattle.rtp.specs.Editions.{current}
use Rattle.buffer_columns.specs.Places.{Parted, place_from}
use Rattle.buffer_insert.specs.Laying.{class_in, channel_in, copy_in}
use Rattle.buffer_offer.specs.Judging.{Judgeable, Timely}
use Rattle.frame_codes.proofs.AllowedLaws.{allowed_frame}
use Rattle.buffer_columns.proofs.BoundLaws.{used_is}
use Rattle.buffer_columns.proofs.NumberLaws.{same_place}
use Rattle.buffer_offer.proofs.VerdictLaws.{held_at, step_found, free_at, step_full, step_new}
use Rattle.buffer_offer.proofs.PlaceSearchLaws.{parts}
use borrow.Author.Rules.{rules}
use Rattle.buffer_offer.proofs.judging.lay_copy.Goals.{After-find_place-search}
use Rattle.buffer_offer.proofs.judging.lay_copy.Goals as goal

-- the place that was found
found_at : (c : After-find_place-search) → (let a = c.args in Judgeable current a.buffer.now a.head a.frame.now a.store.now) → (let a = c.args in Timely a.buffer.now (copy_in a.head a.frame.now))
    → c.find_place-search.result.place ≡ (let a = c.args in place_from a.buffer.now.times a.buffer.now.tags a.head.time (channel_in a.head) a.n 0)
found_at c g t =
    let a = c.args in
    let b = a.buffer.now in
    let word : a.head.time < 2 ^ 32 = let f : Fits w32 a.head.time = search rules in f.fits in
    let e = c.tag_channel-channel.ensures.0 in
    let u = used_is a.n c.requires.1 in
    let p = parts current b a.head a.frame.now a.store.now g word t.not_late t.not_far a.n c.requires.0 in
    same_place _ _ (c.find_place-search.ensures.1 (subst₂ (Parted b.times b.tags a.head.time) (sym e) (sym u) p))
    ∙ ap₂ (λ (d m : ℕ). place_from b.times b.tags a.head.time d m 0) e u

pub returns-then-n-ge-SLOTS : goal.returns-then-n-ge-SLOTS
returns-then-n-ge-SLOTS c g t =
    let a = c.args in
    let q = sym c.in-Err.is ∙ found_at (goal.at.returns-then-n-ge-SLOTS c).After-find_place-search g t in
    step_full a.buffer.now g.machine g.fine a.head a.frame.now a.store.now t.not_late a.n c.requires.0 c.in-Err.at q t.not_far c.if-n-ge-SLOTS.true

pub returns-in-Ok : goal.returns-in-Ok
returns-in-Ok c g t =
    let a = c.args in
    let short = (allowed_frame a.buffer.now.settings.format (class_in a.head) (length a.frame.now) g.class).1 in
    let q = sym c.in-Ok.is ∙ found_at (goal.at.returns-in-Ok c).After-find_place-search g t in
    step_found a.buffer.now g.machine g.fine a.head a.frame.now a.store.now t.not_late a.n c.requires.0 c.in-Ok.at q t.not_far _ _ _
    (c.replace_copy.ensures.replaced (held_at a.buffer.now g.machine g.fine a.head a.frame.now a.store.now t.not_late a.n c.requires.0 c.in-Ok.at q short g.room))

pub returns-else-n-ge-SLOTS : goal.returns-else-n-ge-SLOTS
returns-else-n-ge-SLOTS c g t =
    let a = c.args in
    let short = (allowed_frame a.buffer.now.settings.format (class_in a.head) (length a.frame.now) g.class).1 in
    let q = sym c.in-Err.is ∙ found_at (goal.at.returns-else-n-ge-SLOTS c).After-find_place-search g t in
    let l = c.if-n-ge-SLOTS.false in
    step_new a.buffer.now g.machine g.fine a.head a.frame.now a.store.now t.not_late a.n c.requires.0 c.in-Err.at q l t.not_far _ _
    (c.insert_copy.ensures.laid (free_at a.buffer.now g.machine g.fine a.head a.frame.now a.store.now t.not_late a.n c.requires.0 c.in-Err.at q l short g.room))
